use Rattle.std.proofs.Common.{◌≡◌}
use Rattle.incumbent.specs.Peak.{IsShareOf}
use Rattle.incumbent.specs.Share.{weight_of}
use Rattle.tests_of_threads.proofs.tests.offered_plans.offer_all.Given as goal

abbrev pub invariant-loop-worth : goal.invariant-loop-worth
invariant-loop-worth l =
    record { own : IsShareOf l.peak l.share; weight : weight_of l.share ≡ weight_of l.initial.share }
