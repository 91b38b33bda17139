-- The rows of a table, row after row.
use Rattle.std.proofs.Common.{◌≡◌, ℕ, zero, suc, ◌+◌, ◌*◌, ◌≤◌, List, [], ◌∷◌, ◌++◌, length, take, drop, refl, ap, arith}
use Rattle.std.proofs.lemmas.List.{nil_from_length, take_all, take-append-le, drop-append-le, length-drop}
use Rattle.instance_text.specs.Spelling.{rows_of}

-- one row more
pub rows_of_more : (k size : ℕ) (entries row : List ℕ) → length entries ≡ k * size → length row ≡ size → rows_of (k + 1) size (entries ++ row) ≡ rows_of k size entries ++ row ∷ []
rows_of_more zero size entries row all one =
    let none : entries ≡ [] = nil_from_length entries (omega (arith, all)) in
    rw (none, take_all size row (omega arith)) refl
rows_of_more (suc k) size entries row all one =
    let e : suc k + 1 ≡ suc (k + 1) = omega arith in
    let product : suc k * size ≡ size + k * size = grind arith in
    let long : size ≤ length entries = omega arith in
    let rest : length (drop size entries) ≡ k * size = omega (arith, length-drop size entries) in
    rw (e, take-append-le size entries row long, drop-append-le size entries row long) (ap (λ (rows : List (List ℕ)). take size entries ∷ rows) (rows_of_more k size (drop size entries) row rest one))
