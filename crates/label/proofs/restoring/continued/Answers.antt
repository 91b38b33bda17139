use Rattle.std.proofs.Common.{rules}
use Rattle.label.proofs.Prefixes.{none_longer}
use Rattle.label.proofs.restoring.continued.Goals as goal

pub returns-then-not-branch : goal.returns-then-not-branch
returns-then-not-branch c =
    let none = rw c.if-not-branch.true at c.in_ok-lengthen.ensures in
    none_longer c.args.side.now c.args.label.path.items c.args.rest.now c.loop-x.longer.path.items c.loop-x.x-index c.x-item.result
    (search rules) c.x-item.is c.loop-x.invariant.0 none
