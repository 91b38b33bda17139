use Rattle.comparisons.proofs.tests.best_pairs.the_pair_that_gains_most_is_found.Goals as goal

pub try_labels-requires-clause-forward : goal.try_labels-requires-clause-forward
try_labels-requires-clause-forward g c κs = rw c.deref.ensures.value c.in_ok-forward.ensures

pub try_labels-requires-clause-backward : goal.try_labels-requires-clause-backward
try_labels-requires-clause-backward g c κs = rw c.deref-2.ensures.value c.in_ok-backward.ensures
