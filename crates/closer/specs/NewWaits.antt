-- What waits once a new label has come.
use Rattle.std.specs.Prelude.{◌≡◌, ◌⊎◌, ℕ, ◌+◌, ◌≤◌, List, length, Contains}
use Rattle.bucket.specs.declared.id.Id.{Id}
use Rattle.closer.specs.Waiting.{id_of}
use Rattle.closer.specs.declared.wait.Wait.{Wait}
use Rattle.label_core.specs.CoreState.{CoreState, IsLiveAt}

-- this is the label of that name, with that rank
pub record IsWaitOf (id : Id) (at : ℕ) (w : Wait) : Type 0 where
  pub name : id_of w ≡ id
  pub rank : w.rank ≡ at

-- the label waits if it lives, beside what waited before
pub record WaitsIfLive (s : CoreState) (id : Id) (rank : ℕ) (old new : List Wait) : Type 0 where
  pub kept : (w : Wait) → Contains old w → Contains new w
  pub only : (w : Wait) → Contains new w → Contains old w ⊎ IsWaitOf id rank w
  pub waits : IsLiveAt s id → (w : Wait) × Contains new w × IsWaitOf id rank w
  pub len : length new ≤ length old + 1
