-- What is asked of a search.
use Rattle.std.specs.Prelude.{◌≡◌, ℕ, ◌≤◌, Option}
use Rattle.command_line.specs.Ranges.{AreInRange}
use Rattle.joiner.specs.declared.limits.TheConstants.{MAX_WORKERS}
use Rattle.sequencer.specs.Searching.{cut_for}
use Rattle.sequencer.specs.declared.task.Task.{Task}
use Rattle.strip_model.specs.IsInstance.{IsInstance}
use Rattle.strip_model.specs.Orbit.{Orbit}
use Rattle.strip_model.specs.Side.{face_of}
use Rattle.strip_model.specs.declared.end.End.TheVariants.{Forward, Backward}

-- A search is ready to begin: its sides are those of its instance with one cut, which is the one that is given, or half the horizon,
-- and its numbers are in range.
pub record IsReady (t : Task) : Type 0 where
  pub rules : IsInstance t.instance
  pub forward : t.forward ≡ face_of t.instance t.forward.cut Forward
  pub backward : t.backward ≡ face_of t.instance t.forward.cut Backward
  pub cut_is : t.forward.cut ≡ cut_for t.instance t.cut
  pub workers : t.workers ≤ MAX_WORKERS
  pub range : AreInRange t.budget t.cut

-- a search on this instance with these numbers
pub record IsTaskFor (J : Orbit) (workers budget : ℕ) (cut : Option ℕ) (t : Task) : Type 0 where
  pub ready : IsReady t
  pub instance : t.instance ≡ J
  pub workers_are : t.workers ≡ workers
  pub budget_is : t.budget ≡ budget
  pub cut_is : t.cut ≡ cut
