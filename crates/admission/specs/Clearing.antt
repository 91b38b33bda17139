-- Labels that are marked one after another.
use Rattle.std.specs.Prelude.{◌≡◌, ◌≢◌, ℕ, ◌<◌, ◌≤◌, ◌==◌, true, List, slice_index}
use Rattle.std.specs.List.{IsDistinct}
use Rattle.admission.specs.Antichains.{id_at, Belongs, Shrinks}
use Rattle.admission.specs.CarefulRuns.{GoesQuietly}
use Rattle.admission.specs.Contests.{last_at, beside}
use Rattle.bucket.specs.declared.id.Id.{Id}
use Rattle.label_core.specs.CoreState.{path_of, IsLiveAt}
use Rattle.label_core.specs.Machine.{Machine, IsReached}
use Rattle.strip_model.specs.Directed.{has}
use Rattle.strip_model.specs.Dominance.{Dominates}
use Rattle.strip_model.specs.Plan.{gain_of}
use Rattle.strip_model.specs.Reach.{bound}
use Rattle.strip_model.specs.Side.{facing}
use Rattle.strip_model.specs.declared.end.End.{End}

-- these are ids of earlier labels of its bucket that live and end as the live label does, which dominates each; no id stands twice
pub record AreRetirable (m : Machine) (by : Id) (ids : List ℕ) : Type 0 where
  pub reached : IsReached m
  pub lives : IsLiveAt m.state by
  pub distinct : IsDistinct (λ j k. j == k) ids
  pub below : (k : ℕ) → has k ids ≡ true → k < by.index
  pub belong : (k : ℕ) → has k ids ≡ true → Belongs m.state by.end (last_at m by) k
  pub beaten : (k : ℕ) → has k ids ≡ true → Dominates (facing m.instance by.end) (path_of m.state by) (path_of m.state (beside m by k))

-- these are ids of labels that live and end with x, whose bounds are at most the incumbent's gain; no id stands twice
pub record AreCuttable (m : Machine) (e : End) (x : ℕ) (ids : List ℕ) : Type 0 where
  pub distinct : IsDistinct (λ j k. j == k) ids
  pub belong : (k : ℕ) → has k ids ≡ true → Belongs m.state e x k
  pub bounded : (k : ℕ) → has k ids ≡ true → bound (facing m.instance e) (path_of m.state (id_at e x k)) ≤ gain_of m.instance m.state.incumbent

-- The labels of x with the first n of these ids live no more. All that lived else lives on, and the plan is the same.
pub record Clears (m t : Machine) (e : End) (x : ℕ) (ids : List ℕ) (n : ℕ) : Type 0 where
  pub quiet : GoesQuietly m t
  pub shrinks : Shrinks m t e x
  pub plan : t.state.incumbent ≡ m.state.incumbent
  pub others : (y : Id) → IsLiveAt m.state y → ((j : ℕ) → j < n → y ≢ id_at e x (slice_index ids j)) → IsLiveAt t.state y
  pub dead : (j : ℕ) → j < n → ¬ IsLiveAt t.state (id_at e x (slice_index ids j))
