-- The lines of a text, taken off from the first.
use Rattle.std.proofs.Common.{◌≡◌, ℕ, suc, ◌+◌, ◌<◌, ◌≤◌, Bool, true, false, not, cond, eqb, List, [], ◌∷◌, ◌++◌, length, take, drop, get_or, Some, None, position, refl, ap, ◌∙◌, arith, inl, inr, add-one}
use Rattle.std.specs.List.{position_or_len}
use Rattle.std.proofs.lemmas.Bool.{cases_lt, lt-ltb, le-ltb, eqb-true}
use Rattle.std.proofs.lemmas.List.Sums.{passes_at_first, split_at_first}
use Rattle.instance_text.specs.Lines.{LF, onto_first_line, text_lines}

abbrev is_LF : ℕ → Bool
is_LF b = eqb b LF

-- what is in front of the first LF is the first line
text_lines-cut : (bs : List ℕ) → position_or_len is_LF bs < length bs → text_lines bs ≡ take (position_or_len is_LF bs) bs ∷ text_lines (drop (suc (position_or_len is_LF bs)) bs)
text_lines-cut [] lt = absurd (omega arith)
text_lines-cut (b ∷ bs) lt = cut (is_LF b) b bs lt (λ below. text_lines-cut bs below) where
  cut : (t : Bool) (b : ℕ) (bs : List ℕ) → cond (not t) (1 + position_or_len is_LF bs) 0 < suc (length bs)
      → (position_or_len is_LF bs < length bs → text_lines bs ≡ take (position_or_len is_LF bs) bs ∷ text_lines (drop (suc (position_or_len is_LF bs)) bs))
      → cond t ([] ∷ text_lines bs) (onto_first_line b (text_lines bs)) ≡ take (cond (not t) (1 + position_or_len is_LF bs) 0) (b ∷ bs) ∷ text_lines (drop (suc (cond (not t) (1 + position_or_len is_LF bs) 0)) (b ∷ bs))
  cut true b bs lt rest = refl
  cut false b bs lt rest =
      let e : 1 + position_or_len is_LF bs ≡ suc (position_or_len is_LF bs) = omega arith in
      rw (e, rest (omega arith)) refl

-- without LF all is one line
text_lines-one : (b : ℕ) (bs : List ℕ) → length (b ∷ bs) ≤ position_or_len is_LF (b ∷ bs) → text_lines (b ∷ bs) ≡ (b ∷ bs) ∷ []
text_lines-one b [] le = one (is_LF b) b le where
  one : (t : Bool) (b : ℕ) → 1 ≤ cond (not t) 1 0 → cond t ([] ∷ []) ((b ∷ []) ∷ []) ≡ (b ∷ []) ∷ []
  one true b le = absurd (omega arith)
  one false b le = refl
text_lines-one b (c ∷ bs) le = one (is_LF b) b (c ∷ bs) le (λ below. text_lines-one c bs below) where
  one : (t : Bool) (b : ℕ) (bs : List ℕ) → suc (length bs) ≤ cond (not t) (1 + position_or_len is_LF bs) 0
      → (length bs ≤ position_or_len is_LF bs → text_lines bs ≡ bs ∷ [])
      → cond t ([] ∷ text_lines bs) (onto_first_line b (text_lines bs)) ≡ (b ∷ bs) ∷ []
  one true b bs le rest = absurd (omega arith)
  one false b bs le rest = rw (rest (omega arith)) refl

-- the place of the first that passes, if there is one
position_some : {X : Type 0} (p : X → Bool) (xs : List X) (at : ℕ) → position p xs ≡ Some at → (position_or_len p xs < length xs) × (at ≡ position_or_len p xs)
position_some p xs at h =
    elim (cases_lt (position_or_len p xs) (length xs)) [
      | inl lt ↦ (lt, let e = rw (lt-ltb _ _ lt) at h in cc)
      | inr le ↦ absurd (let e = rw (le-ltb _ _ le) at h in cc)
    ]

position_none : {X : Type 0} (p : X → Bool) (xs : List X) → position p xs ≡ None → length xs ≤ position_or_len p xs
position_none p xs h =
    elim (cases_lt (position_or_len p xs) (length xs)) [
      | inl lt ↦ absurd (let e = rw (lt-ltb _ _ lt) at h in cc)
      | inr le ↦ le
    ]

-- the first line, as it is cut off
pub first_line_some : (bs : List ℕ) (at : ℕ) → position is_LF bs ≡ Some at → text_lines bs ≡ take at bs ∷ text_lines (drop (at + 1) bs)
first_line_some bs at h =
    let found = position_some is_LF bs at h in
    rw (add-one at, found.1) (text_lines-cut bs found.0)

pub first_line_cut : (bs : List ℕ) (at : ℕ) → position is_LF bs ≡ Some at → bs ≡ take at bs ++ LF ∷ drop (at + 1) bs
first_line_cut bs at h =
    let found = position_some is_LF bs at h in
    let byte : get_or bs (position_or_len is_LF bs) 0 ≡ LF = eqb-true _ LF (passes_at_first is_LF bs 0 found.0) in
    rw found.1 (split_at_first is_LF bs 0 found.0 ∙ ap (λ (b : ℕ). take (position_or_len is_LF bs) bs ++ b ∷ drop (position_or_len is_LF bs + 1) bs) byte)

pub first_line_one : (bs : List ℕ) → 0 < length bs → position is_LF bs ≡ None → text_lines bs ≡ bs ∷ []
first_line_one [] some h = absurd (omega arith)
first_line_one (b ∷ bs) some h = text_lines-one b bs (position_none is_LF (b ∷ bs) h)
