-- When a list of twins is refused.
use Rattle.std.specs.Prelude.{◌≡◌, ◌≢◌, ℕ, ◌<◌, List, Option, Some, length, slice_index}
use Rattle.stereo_twins.specs.declared.twin_refusal.TwinRefusal.{TwinRefusal}
use Rattle.stereo_twins.specs.declared.twin_refusal.TwinRefusal.TheVariants.{SelfTwin, OtherRequest, NotMutual, Memory}
use Rattle.stereo_twins.specs.Twins.{twin}

-- strip i isn't its own twin, its twin is of its request, and the twin of its twin is i
pub record KeepsRules (twins : List (Option ℕ)) (requests : List ℕ) (i : ℕ) : Type 0 where
  pub differs : (j : ℕ) → twin twins i ≡ Some j → j ≢ i
  pub one_request : (j : ℕ) → twin twins i ≡ Some j → slice_index requests j ≡ slice_index requests i
  pub returns : (j : ℕ) → twin twins i ≡ Some j → twin twins j ≡ Some i

-- each strip below n keeps the rules
abbrev pub KeptBelow : List (Option ℕ) → List ℕ → ℕ → Type 0
KeptBelow twins requests n = (k : ℕ) → k < n → KeepsRules twins requests k

-- The refusal names the least strip that breaks a rule, and there the first rule that it breaks. Want of memory comes
-- where no strip breaks one.
abbrev pub IsCause : List (Option ℕ) → List ℕ → TwinRefusal → Type 0
IsCause twins requests (SelfTwin i) = KeptBelow twins requests i × (twin twins i ≡ Some i)
IsCause twins requests (OtherRequest i) =
    KeptBelow twins requests i
    × ((j : ℕ) × (twin twins i ≡ Some j) × (j ≢ i) × (slice_index requests j ≢ slice_index requests i))
IsCause twins requests (NotMutual i) =
    KeptBelow twins requests i
    × ((j : ℕ) × (twin twins i ≡ Some j) × (j ≢ i) × (slice_index requests j ≡ slice_index requests i) × (twin twins j ≢ Some i))
IsCause twins requests Memory = KeptBelow twins requests (length twins)
