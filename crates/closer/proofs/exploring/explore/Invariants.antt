use Rattle.std.proofs.Common.{◌≡◌, ◌≤◌}
use Rattle.closer.specs.Searching.{IsSearching, left_to_do}
use Rattle.label_core.specs.Machine.{count_of}
use Rattle.admission.specs.CarefulRuns.{GoesCarefully}
use Rattle.closer.proofs.exploring.explore.Given as goal

-- a careful run led here, the search is between two labels, and without room nothing has changed
abbrev pub invariant-loop-wait : goal.invariant-loop-wait
invariant-loop-wait l = record {
  run : GoesCarefully l.budget l.fn.core l.core;
  searching : IsSearching l.core l.agenda;
  still : l.budget ≤ count_of l.fn.core.state → l.core ≡ l.fn.core;
}

-- what is left to do
abbrev pub decreases-loop-wait : goal.decreases-loop-wait
decreases-loop-wait l = left_to_do l.budget l.core l.agenda
