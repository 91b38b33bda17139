-- The core as contracts see it.
use Rattle.std.specs.Prelude.{ℕ, ◌+◌, List, length, sum_by}
use Rattle.bucket.specs.Histories.{bucket_of}
use Rattle.bucket.specs.declared.id.Id.{Id}
use Rattle.label_core.specs.CoreState.{CoreState, opening, labels_in}
use Rattle.label_core.specs.Events.{Event, CanStep, IsRun, after}
use Rattle.strip_model.specs.Orbit.{Orbit}
use Rattle.strip_model.specs.declared.end.End.{End}

-- the instance, the cut of both its sides, and the state of the search
pub record Machine : Type 0 where
  pub instance : Orbit
  pub cut : ℕ
  pub state : CoreState

-- the event has a step here
abbrev pub Can : Machine → Event → Type 0
Can m event = CanStep m.instance m.cut m.state event

-- the machine after the step
abbrev pub stepped : Machine → Event → Machine
stepped m event = record { instance = m.instance; cut = m.cut; state = after m.instance m.state event }

-- a legal run leads from the opening state to this one
abbrev pub IsReached : Machine → Type 0
IsReached m = (events : List Event) × IsRun m.instance m.cut opening events m.state

-- how many labels there are, whatever their states
abbrev pub count_of : CoreState → ℕ
count_of s = sum_by (λ labels. length labels) s.forward + sum_by (λ labels. length labels) s.backward

-- the name that the next label gets which has this path
abbrev pub new_id : CoreState → End → List ℕ → Id
new_id s e path = record { end = e; bucket = bucket_of path; index = length (labels_in s e (bucket_of path)) }
