-- Entries in rows: the first places, and the entry of a row and a column.
use Rattle.std.proofs.Common.{◌≡◌, ℕ, ◌+◌, ◌*◌, ◌/◌, ◌%◌, ◌<◌, ◌≤◌, List, [], ◌∷◌, ◌++◌, length, get_or, map, refl, ◌∙◌, ap, arith}
use Rattle.std.proofs.Math.Nat.{le_antisymm}
use Rattle.std.specs.List.{range_with_len}
use Rattle.std.proofs.lemmas.List.FromFn.{length-map-range_with_len, get_or-map-range_with_len, map-range_with_len_more}
use Rattle.std.proofs.lemmas.Nat.{mul-add-lt, div-mul-add, mod-mul-add}
use Rattle.inst_maker.specs.Made.{in_rows}

-- the first `places` entries of `in_rows n f`
unfoldable pub first_in_rows : ℕ → (ℕ → ℕ → ℕ) → ℕ → List ℕ
first_in_rows n f places = map (λ k. f (k / n) (k % n)) (range_with_len 0 places)

pub first_in_rows_none : (n : ℕ) (f : ℕ → ℕ → ℕ) → first_in_rows n f 0 ≡ []
unfolding first_in_rows
first_in_rows_none n f = refl

pub first_in_rows_more : (n : ℕ) (f : ℕ → ℕ → ℕ) (k : ℕ) → first_in_rows n f (k + 1) ≡ first_in_rows n f k ++ f (k / n) (k % n) ∷ []
unfolding first_in_rows
first_in_rows_more n f k = map-range_with_len_more (λ k. f (k / n) (k % n)) 0 k k (omega arith)

pub first_in_rows_all : (n : ℕ) (f : ℕ → ℕ → ℕ) (k : ℕ) → n * n ≤ k → k ≤ n * n → first_in_rows n f k ≡ in_rows n f
unfolding first_in_rows in_rows
first_in_rows_all n f k past within =
    let e : k ≡ n * n = le_antisymm within past in
    ap (λ (places : ℕ). map (λ k. f (k / n) (k % n)) (range_with_len 0 places)) e

pub ruleset row_steps = (first_in_rows_none, first_in_rows_more, first_in_rows_all)

pub length-in_rows : (n : ℕ) (f : ℕ → ℕ → ℕ) → length (in_rows n f) ≡ n * n
unfolding in_rows
length-in_rows n f = length-map-range_with_len (λ k. f (k / n) (k % n)) 0 (n * n)

-- the entry of a row and a column
pub get_or-in_rows : (n : ℕ) (f : ℕ → ℕ → ℕ) (x y d : ℕ) → x < n → y < n → get_or (in_rows n f) (x * n + y) d ≡ f x y
unfolding in_rows
get_or-in_rows n f x y d hx hy =
    get_or-map-range_with_len (λ k. f (k / n) (k % n)) 0 (n * n) (x * n + y) (x * n + y) d (mul-add-lt x n y n hx hy) (omega arith)
    ∙ ap (λ (a : ℕ). f a ((x * n + y) % n)) (div-mul-add x n y hy)
    ∙ ap (λ (b : ℕ). f x b) (mod-mul-add x n y hy)
