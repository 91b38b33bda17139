use Rattle.std.proofs.Common.{get_or, arith}
use Rattle.joiner.proofs.LabelEnds.{IsLabelOf-wide}
use Rattle.strip_model.specs.declared.limits.TheConstants.{MAX_HORIZON}
use Rattle.joiner.proofs.best_with.best_pair_with.Goals as goal

pub best_pair_of_with-requires-clause-forward : goal.best_pair_of_with-requires-clause-forward
best_pair_of_with-requires-clause-forward g c κs within =
    rw (c.deref.ensures.value, c.in_ok-first.ensures, c.in_ok-side.ensures.value)
    (λ k d l. IsLabelOf-wide c.args.instance.now MAX_HORIZON (get_or c.args.forward.now k d) c.strips.ensures.sound (c.requires.forward k d l) (omega arith))

pub best_pair_of_with-requires-clause-backward : goal.best_pair_of_with-requires-clause-backward
best_pair_of_with-requires-clause-backward g c κs within =
    rw (c.deref-2.ensures.value, c.in_ok-second.ensures, c.in_ok-side.ensures.value) c.requires.backward
