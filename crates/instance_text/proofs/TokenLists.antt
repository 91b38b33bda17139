-- The tokens of a line, taken off from the left.
use Rattle.std.proofs.Common.{◌≡◌, ℕ, suc, ◌+◌, ◌-◌, ◌<◌, Bool, true, false, not, cond, ltb, List, [], ◌∷◌, length, take, drop, get_or, position, refl, sym, ap, ◌∙◌, arith, inl, inr}
use Rattle.std.specs.Option.{unwrap_or}
use Rattle.std.specs.List.{slice_split, position_or_len}
use Rattle.std.proofs.lemmas.Bool.{cases_lt, not-true, lt-ltb, le-ltb}
use Rattle.std.proofs.lemmas.List.{take_all, drop_all, drop_more, take_rest, length-take}
use Rattle.std.proofs.lemmas.List.Sums.{passes_at_first, fails_before_first, prefix_len-le-length}
use Rattle.std.proofs.lemmas.List.Splits.{slice_split-cons_yes, slice_split_first, slice_split_none}
use Rattle.instance_text.specs.Lines.{is_separator, tokens_of}

-- the first place that passes, or the length
pub position_or_length : {X : Type 0} (p : X → Bool) (xs : List X) → unwrap_or (position p xs) (length xs) ≡ position_or_len p xs
position_or_length p xs =
    elim (cases_lt (position_or_len p xs) (length xs)) [
      | inl lt ↦ rw (lt-ltb _ _ lt) refl
      | inr le ↦ rw (le-ltb _ _ le) (omega (arith, prefix_len-le-length (λ x. not (p x)) xs))
    ]

abbrev is_no_separator : ℕ → Bool
is_no_separator b = not (is_separator b)

-- where the first token begins, or the length
abbrev start_of : List ℕ → ℕ
start_of bs = position_or_len is_no_separator bs

-- a separator in front changes no token
tokens_of-separator : (b : ℕ) (bs : List ℕ) → is_separator b ≡ true → tokens_of (b ∷ bs) ≡ tokens_of bs
tokens_of-separator b bs h = rw (slice_split-cons_yes is_separator b bs h) refl

trimmed : (t : Bool) (b : ℕ) (bs : List ℕ) → is_separator b ≡ t → tokens_of (drop (start_of bs) bs) ≡ tokens_of bs → tokens_of (drop (cond (not (not t)) (1 + start_of bs) 0) (b ∷ bs)) ≡ tokens_of (b ∷ bs)
trimmed true b bs is so_far = let e : 1 + start_of bs ≡ suc (start_of bs) = omega arith in rw e (so_far ∙ sym (tokens_of-separator b bs is))
trimmed false b bs is so_far = refl

-- neither do all the separators in front
tokens_of-trimmed : (bs : List ℕ) → tokens_of (drop (start_of bs) bs) ≡ tokens_of bs
tokens_of-trimmed [] = refl
tokens_of-trimmed (b ∷ bs) = trimmed (is_separator b) b bs refl (tokens_of-trimmed bs)

-- what is in front of the first separator is the first token, if it is anything
tokens_of-cons : (bs : List ℕ) → 0 < position_or_len is_separator bs → tokens_of bs ≡ take (position_or_len is_separator bs) bs ∷ tokens_of (drop (position_or_len is_separator bs) bs)
tokens_of-cons bs some =
    elim (cases_lt (position_or_len is_separator bs) (length bs)) [
      | inl lt ↦
          let token = position_or_len is_separator bs in
          let rest : drop token bs ≡ get_or bs token 0 ∷ drop (token + 1) bs = drop_more bs token 0 lt in
          let off : tokens_of (drop token bs) ≡ tokens_of (drop (token + 1) bs) = rw rest (tokens_of-separator (get_or bs token 0) (drop (token + 1) bs) (passes_at_first is_separator bs 0 lt)) in
          let long : ltb 0 (length (take token bs)) ≡ true = lt-ltb _ _ (omega (arith, length-take token bs)) in
          rw (off, slice_split_first is_separator bs 0 lt, long) refl
      | inr le ↦
          let token = position_or_len is_separator bs in
          let all : take token bs ≡ bs = take_all token bs le in
          let nothing : drop token bs ≡ [] = drop_all token bs le in
          let long : ltb 0 (length bs) ≡ true = lt-ltb _ _ (omega (arith, prefix_len-le-length (λ x. not (is_separator x)) bs)) in
          let one : slice_split is_separator bs ≡ bs ∷ [] = slice_split_none is_separator bs (λ k d below. fails_before_first is_separator bs k d (omega arith)) in
          rw (all, nothing, one, long) refl
    ]

-- no separator is in front once it is trimmed
no_separator_first : (bs : List ℕ) → position_or_len is_separator (drop (start_of bs) bs) ≡ 0 → drop (start_of bs) bs ≡ []
no_separator_first bs h =
    elim (cases_lt (start_of bs) (length bs)) [
      | inl lt ↦
          let here : is_separator (get_or bs (start_of bs) 0) ≡ false = not-true _ (passes_at_first is_no_separator bs 0 lt) in
          let rest : drop (start_of bs) bs ≡ get_or bs (start_of bs) 0 ∷ drop (start_of bs + 1) bs = drop_more bs (start_of bs) 0 lt in
          absurd (omega (arith, rw (rest, here) at h))
      | inr le ↦ drop_all _ bs le
    ]

-- the first token of a line, as it is cut off
pub first_token_none : (line : List ℕ) (start end : ℕ) → start ≡ unwrap_or (position is_no_separator line) (length line)
    → end ≡ unwrap_or (position is_separator (take (length line - start) (drop start line))) (length (take (length line - start) (drop start line)))
    → end ≡ 0 → tokens_of line ≡ []
first_token_none line start end s e none =
    let rest : take (length line - start) (drop start line) ≡ drop (start_of line) line = rw (take_rest line start, s, position_or_length is_no_separator line) refl in
    let no_end : position_or_len is_separator (drop (start_of line) line) ≡ 0 = sym (rw (rest, position_or_length is_separator (drop (start_of line) line)) at e) ∙ none in
    sym (tokens_of-trimmed line) ∙ ap tokens_of (no_separator_first line no_end)

pub first_token_some : (line : List ℕ) (start end : ℕ) → start ≡ unwrap_or (position is_no_separator line) (length line)
    → end ≡ unwrap_or (position is_separator (take (length line - start) (drop start line))) (length (take (length line - start) (drop start line)))
    → (end ≡ 0 → ⊥)
    → tokens_of line ≡ take end (take (length line - start) (drop start line)) ∷ tokens_of (drop end (take (length line - start) (drop start line)))
first_token_some line start end s e some =
    let rest : take (length line - start) (drop start line) ≡ drop (start_of line) line = rw (take_rest line start, s, position_or_length is_no_separator line) refl in
    let end_is = rw (rest, position_or_length is_separator (drop (start_of line) line)) at e in
    rw (rest, end_is) (sym (tokens_of-trimmed line) ∙ tokens_of-cons (drop (start_of line) line) (omega arith))
