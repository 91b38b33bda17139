-- What a new label does to the antichain that it enters.
use Rattle.std.specs.Prelude.{◌≡◌, ℕ, ◌+◌, List, Option, Some, None}
use Rattle.admission.specs.Antichains.{id_at, IsAntichainAt, Shrinks}
use Rattle.admission.specs.CarefulRuns.{GoesQuietly}
use Rattle.antichain.specs.declared.member.Member.{Member}
use Rattle.bucket.specs.declared.id.Id.{Id}
use Rattle.label_core.specs.CoreState.{CoreState, path_of, IsLiveAt}
use Rattle.label_core.specs.Machine.{Machine}
use Rattle.label_list.specs.Labels.{last_of}
use Rattle.strip_model.specs.declared.end.End.{End}

-- the directed strip with which a label ends
abbrev pub last_at : Machine → Id → ℕ
last_at m id = last_of (path_of m.state id)

-- the name of the label with another id in the bucket of this one's last directed strip
abbrev pub beside : Machine → Id → ℕ → Id
beside m id k = id_at id.end (last_at m id) k

-- the name of the new label, if it lives
abbrev pub NamesIfLive : CoreState → Id → Option Id → Type 0
NamesIfLive s new None = ¬ IsLiveAt s new
NamesIfLive s new (Some id) = (id ≡ new) × IsLiveAt s id

-- A run that inserts nothing led here, by which some labels of the side that end with x may live no more; the plan is the same.
pub record Thins (m t : Machine) (e : End) (x : ℕ) : Type 0 where
  pub quiet : GoesQuietly m t
  pub shrinks : Shrinks m t e x
  pub plan : t.state.incumbent ≡ m.state.incumbent

-- A live label has contended for its place: it stands in its antichain, or lives no more. Of the others only some of the same
-- antichain may live no more, and the plan is the same.
pub record HasContended (m t : Machine) (id : Id) (members : List Member) : Type 0 where
  pub quiet : GoesQuietly m t
  pub shrinks : Shrinks m t id.end (last_at m id)
  pub plan : t.state.incumbent ≡ m.state.incumbent
  pub antichain : IsAntichainAt t id.end (last_at m id) (id.index + 1) members
