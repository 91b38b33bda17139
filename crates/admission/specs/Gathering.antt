-- The antichains of labels that are there already, made label by label.
use Rattle.std.specs.Prelude.{◌≡◌, ◌≢◌, ℕ, ◌==◌, nat_lt, if◌then◌else◌, List, length}
use Rattle.bucket.specs.declared.id.Id.{Id}
use Rattle.admission.specs.CarefulRuns.{GoesQuietly}
use Rattle.admission.specs.Antichains.{HasAntichainsBelow, Fades}
use Rattle.antichain.specs.declared.member.Member.{Member}
use Rattle.label_core.specs.CoreState.{labels_in, IsLiveAt}
use Rattle.label_core.specs.Machine.{Machine}
use Rattle.strip_model.specs.declared.end.End.{End}

-- how many labels of each bucket were looked at: all of the buckets before this one, and so many of this one
abbrev pub looked_at : Machine → End → ℕ → ℕ → ℕ → ℕ
looked_at m e b k c = if nat_lt c b then length (labels_in m.state e c) else if c == b then k else 0

-- the antichains have the labels that were looked at
abbrev pub HasAntichainsUpTo : Machine → End → ℕ → ℕ → List (List Member) → Type 0
HasAntichainsUpTo m e b k antichains = HasAntichainsBelow m e (looked_at m e b k) antichains

-- some labels of the side live no more; the other side and the plan are as they were
pub record Gathers (m t : Machine) (e : End) : Type 0 where
  pub quiet : GoesQuietly m t
  pub fades : Fades m t
  pub others : (id : Id) → id.end ≢ e → IsLiveAt m.state id → IsLiveAt t.state id
  pub plan : t.state.incumbent ≡ m.state.incumbent
