-- Lists laid into one another.
use Rattle.std.specs.Prelude.{◌≡◌, ℕ, List, [], ◌∷◌, All, Some, slice_get, slice_set}

-- the history has the entries of each party, each once and in the party's order, and no others: its first entry is the first of some party, and the rest of
-- the history has what is left of the parties
abbrev pub IsInterleaving : {E : Type 0} → List E → List (List E) → Type 0
IsInterleaving [] parties = All (λ own. own ≡ []) parties
IsInterleaving {E} (x ∷ xs) parties = (i : ℕ) × (own : List E) × (slice_get parties i ≡ Some (x ∷ own)) × IsInterleaving xs (slice_set parties i own)
