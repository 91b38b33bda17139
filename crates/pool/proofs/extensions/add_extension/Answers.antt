use Rattle.std.proofs.Common.{sym, subst}
use Rattle.std.proofs.lemmas.List.Elements.{All-push}
use Rattle.std.specs.List.{All}
use Rattle.label.specs.Labels.{IsLabelOf}
use Rattle.pool.proofs.extensions.add_extension.Goals as goal

pub returns-in_ok-push-in-Some : goal.returns-in_ok-push-in-Some
returns-in_ok-push-in-Some c =
    let Is = IsLabelOf c.args.side.now in
    subst (All Is) (sym c.in_ok-push-in-Some.ensures.items) (All-push Is c.args.fresh.now.items c.in-Some.longer c.requires.fresh (rw c.in-Some.is at c.in_ok-extend.ensures).1)
