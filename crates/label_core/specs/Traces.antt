-- What the core makes of a trace: the closing plan is published, and then comes what was done in each bucket.
use Rattle.std.specs.Prelude.{ℕ, Bool, true, nat_le, List, [], ◌∷◌, ◌++◌, map, filter, flat_map}
use Rattle.bucket.specs.Buckets.{Bin, held_in}
use Rattle.bucket.specs.Histories.{Step, Inserts, Takes, Retires, Cuts}
use Rattle.label_list.specs.Labels.{Held, path_of}
use Rattle.bucket.specs.declared.id.Id.{Id}
use Rattle.bucket.specs.declared.trace.Trace.{Trace}
use Rattle.label_core.specs.CoreState.{CoreState}
use Rattle.label_core.specs.Events.{Event, InsertLabel, TakeLabel, RetireLabel, CutLabel, Publish, IsRun, after}
use Rattle.strip_model.specs.Orbit.{Orbit}
use Rattle.strip_model.specs.Plan.{gain_of}
use Rattle.strip_model.specs.Reach.{bound}
use Rattle.strip_model.specs.Side.{facing}
use Rattle.strip_model.specs.declared.end.End.{End}
use Rattle.strip_model.specs.declared.end.End.TheVariants.{Forward, Backward}

-- the name of a label of a bucket
abbrev pub name_in : End → ℕ → ℕ → Id
name_in e number k = record { end = e; bucket = number; index = k }

-- the event of an entry of a bucket
abbrev pub event_of_entry : End → ℕ → Step → Event
event_of_entry e number (Inserts k path) = InsertLabel e path
event_of_entry e number (Takes k) = TakeLabel (name_in e number k)
event_of_entry e number (Retires k by) = RetireLabel (name_in e number k) (name_in e number by)
event_of_entry e number (Cuts k) = CutLabel (name_in e number k)

-- Whether a plan of this gain bears an entry, where these are the bucket's labels: of a cut, whether the label's bound is at
-- most the gain. Every other entry is borne by each plan.
abbrev pub is_borne : Orbit → End → ℕ → List Held → Step → Bool
is_borne I e gain labels (Inserts k path) = true
is_borne I e gain labels (Takes k) = true
is_borne I e gain labels (Retires k by) = true
is_borne I e gain labels (Cuts k) = nat_le (bound (facing I e) (path_of labels k)) gain

-- the events of a bucket's entries that are borne, in their order
abbrev pub events_of_entries : Orbit → End → ℕ → ℕ → List Held → List Step → List Event
events_of_entries I e number gain labels entries = map (event_of_entry e number) (filter (is_borne I e gain labels) entries)

-- the events of a bucket
unfoldable pub events_of_bucket : Orbit → End → ℕ → Bin → List Event
events_of_bucket I e gain b = events_of_entries I e b.number gain (held_in b) b.history

-- the events of a side's buckets, bucket after bucket
abbrev pub events_of_side : Orbit → End → ℕ → List Bin → List Event
events_of_side I e gain bins = flat_map (events_of_bucket I e gain) bins

-- The events of a trace: its plan is published; then come the forward buckets, and then the backward ones. A cut that the
-- plan's gain doesn't bear is left out.
unfoldable pub trace_run : Orbit → Trace → List Event
trace_run I trace =
    Publish trace.plan.plan
    ∷ events_of_side I Forward (gain_of I trace.plan.plan) trace.forward.items
    ++ events_of_side I Backward (gain_of I trace.plan.plan) trace.backward.items

-- the state after these events, one after another
abbrev pub last_state : Orbit → CoreState → List Event → CoreState
last_state I s [] = s
last_state I s (event ∷ events) = last_state I (after I s event) events

-- each event has a step, one after another
abbrev pub IsLegalRun : Orbit → ℕ → CoreState → List Event → Type 0
IsLegalRun I H s events = IsRun I H s events (last_state I s events)
