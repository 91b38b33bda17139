use Rattle.std.proofs.Common.{arith}
use Rattle.std.proofs.lemmas.Int.{ints}
use Rattle.gain_curve.proofs.DifferenceLaws.{least_at_start, least_at_end}
use Rattle.gain_curve.proofs.difference.worst_difference.Goals as goal
use Rattle.gain_curve.proofs.difference.worst_difference.Goals.{then-a1-a2, else-a1-a2}

pub returns-clause-least : goal.returns-clause-least
returns-clause-least c =
    elim c.if-a1-a2.branch [
      | then-a1-a2 w ↦
          let first = rw w.added-is at c.phi.ensures.value in
          let second = rw w.added-is at c.phi-2.ensures.value in
          least_at_end _ _ _ _ _ (omega arith) (omega (arith, ints))
      | else-a1-a2 w ↦
          let first = rw w.added-is at c.phi.ensures.value in
          let second = rw w.added-is at c.phi-2.ensures.value in
          least_at_start _ _ _ _ _ (omega arith) (omega (arith, ints))
    ]
