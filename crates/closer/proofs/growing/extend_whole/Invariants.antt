use Rattle.std.proofs.Common.{◌≡◌, ◌*◌, ◌≤◌, length}
use Rattle.closer.specs.Searching.{IsExtending, IsParent, left_to_do}
use Rattle.label_core.specs.Machine.{count_of}
use Rattle.admission.specs.CarefulRuns.{GoesCarefully}
use Rattle.closer.proofs.growing.extend_whole.Given as goal

-- a careful run led here; it is extended by each directed strip so far; and without room nothing has changed
abbrev pub invariant-loop-y : goal.invariant-loop-y
invariant-loop-y l = record {
  run : GoesCarefully l.budget l.fn.core l.core;
  strips : l.count ≡ 2 * length l.core.instance.strips;
  extending : IsExtending l.core l.agenda l.now l.y;
  parent : IsParent l.core l.now l.parent;
  work : left_to_do l.budget l.core l.agenda ≤ left_to_do l.budget l.fn.core l.fn.agenda;
  still : l.budget ≤ count_of l.fn.core.state → l.core ≡ l.fn.core;
}
