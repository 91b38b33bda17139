use Rattle.std.proofs.Common.{List, ℕ, subst, ◌∙◌}
use Rattle.sequencer.proofs.Opened.{opens_solving}
use Rattle.sequencer.specs.Opening.{OpensSolving}
use Rattle.sequencer.proofs.answering.solve_from.Goals as goal

pub returns-in_ok-opening-in-Ok-clause-opens : goal.returns-in_ok-opening-in-Ok-clause-opens
returns-in_ok-opening-in-Ok-clause-opens g c =
    let read = c.in-Ok.ensures.whole in
    let left = g.S.Source.left c.read_whole.new.source in
    let o = c.in_ok-opening-in-Ok.opening in
    let opened = subst (λ (bytes : List ℕ). OpensSolving c.args.workers c.args.budget c.args.cut bytes o) (c.deref.ensures.value ∙ read.2.0)
    c.in_ok-opening-in-Ok.ensures in
    (read.0, read.1, opens_solving c.args.workers c.args.budget c.args.cut left read.0 o read.2.1 read.2.2 opened)
