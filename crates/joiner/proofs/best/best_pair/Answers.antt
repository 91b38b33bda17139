use Rattle.std.proofs.Common.{get_or, arith}
use Rattle.joiner.proofs.LabelEnds.{IsLabelOf-wide}
use Rattle.strip_model.specs.declared.limits.TheConstants.{MAX_HORIZON}
use Rattle.joiner.proofs.best.best_pair.Goals as goal

pub best_pair_of-requires-clause-forward : goal.best_pair_of-requires-clause-forward
best_pair_of-requires-clause-forward c =
    rw (c.deref.ensures.value, c.in_ok-first.ensures, c.in_ok-side.ensures.value)
    (λ k d l. IsLabelOf-wide c.args.instance.now MAX_HORIZON (get_or c.args.forward.now k d) c.strips.ensures.sound (c.requires.forward k d l) (omega arith))

pub best_pair_of-requires-clause-backward : goal.best_pair_of-requires-clause-backward
best_pair_of-requires-clause-backward c = rw (c.deref-2.ensures.value, c.in_ok-second.ensures, c.in_ok-side.ensures.value) c.requires.backward
