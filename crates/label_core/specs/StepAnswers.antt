-- What a step answers.
use Rattle.std.specs.Prelude.{◌≡◌, ◌<◌, ⊤, Result, Ok, Err}
use Rattle.label_core.specs.Events.{Event, InsertLabel, TakeLabel, RetireLabel, CutLabel, Publish, JoinLabels}
use Rattle.label_core.specs.Machine.{Machine, Can, stepped, count_of}
use Rattle.label_core.specs.declared.event.Event.{Event as Asked}
use Rattle.label_core.specs.declared.event.Event.TheVariants.{Insert, Take, Retire, Cut, Publish as PublishPlan, Join}
use Rattle.label_core.specs.declared.limits.TheConstants.{MAX_CORE_LABELS}
use Rattle.label_core.specs.declared.refusal.StepRefusal.{StepRefusal}
use Rattle.label_core.specs.declared.refusal.StepRefusal.TheVariants.{Illegal, Memory}

-- the event that is asked for
abbrev pub event_of : Asked → Event
event_of (Insert e path) = InsertLabel e path.items
event_of (Take id) = TakeLabel id
event_of (Retire id by) = RetireLabel id by
event_of (Cut id) = CutLabel id
event_of (PublishPlan plan) = Publish plan.items
event_of (Join f b) = JoinLabels f b

-- a new label has room
abbrev pub HasRoomFor : Machine → Asked → Type 0
HasRoomFor m (Insert e path) = count_of m.state < MAX_CORE_LABELS
HasRoomFor m (Take id) = ⊤
HasRoomFor m (Retire id by) = ⊤
HasRoomFor m (Cut id) = ⊤
HasRoomFor m (PublishPlan plan) = ⊤
HasRoomFor m (Join f b) = ⊤

-- The step was made, or there is none, or memory was wanting; but for a step nothing changes.
abbrev pub IsStepAnswer : {A : Type 0} → Machine → Machine → Event → Result A StepRefusal → Type 0
IsStepAnswer old new event (Ok _) = Can old event × (new ≡ stepped old event)
IsStepAnswer old new event (Err Illegal) = (¬ Can old event) × (new ≡ old)
IsStepAnswer old new event (Err Memory) = new ≡ old
