use Rattle.std.proofs.Common.{get_or, arith}
use Rattle.joiner.proofs.LabelEnds.{IsLabelOf-wide}
use Rattle.strip_model.specs.declared.limits.TheConstants.{MAX_HORIZON}
use Rattle.joiner.proofs.first.first_over.Goals as goal

pub first_over_of-requires-clause-forward : goal.first_over_of-requires-clause-forward
first_over_of-requires-clause-forward c =
    rw (c.deref.ensures.value, c.in_ok-first.ensures, c.in_ok-side.ensures.value)
    (λ k d l. IsLabelOf-wide c.args.instance.now MAX_HORIZON (get_or c.args.forward.now k d) c.strips.ensures.sound (c.requires.forward k d l) (omega arith))

pub first_over_of-requires-clause-backward : goal.first_over_of-requires-clause-backward
first_over_of-requires-clause-backward c = rw (c.deref-2.ensures.value, c.in_ok-second.ensures, c.in_ok-side.ensures.value) c.requires.backward
