-- The token at the front of some bytes, and what follows it.
use Rattle.std.proofs.Common.{◌≡◌, ◌≢◌, ℕ, suc, ◌+◌, ◌<◌, ◌≤◌, ◌^◌, ◌⊎◌, inl, inr, ◌==◌, Bool, true, false, not, cond, Some, None, List, [], ◌∷◌, ◌++◌, length, take, drop, get_or, refl, ap, sym, subst, unwrap_or, nat_lt, decimal, length-take-le, ◌∙◌, arith}
use Rattle.std.specs.Char.{is_ascii_digit}
use Rattle.std.specs.Str.{bytes_eq}
use Rattle.std.specs.List.{after_first, before_first, list_all, position, position_or_len, slice_split}
use Rattle.std.proofs.lemmas.Bool.{eqb-true, ltb-true, ltb-false, ne_eqb}
use Rattle.std.proofs.lemmas.Bool.Decides.{nat_tests}
use Rattle.std.proofs.lemmas.List.{drop_more, drop_all, get_or-take}
use Rattle.std.proofs.lemmas.List.Sums.{prefix_len-le-length, position_or_len_is, AllPass-from_list_all}
use Rattle.seq_io.specs.Front.{is_token_end, front_length, front_token, line_length}
use Rattle.seq_io.specs.Line.{LF, BLANK, SLASH}
use Rattle.seq_io.specs.Number.{number_value}
use Rattle.std.proofs.lemmas.Fmt.{decimal_nonempty}
use Rattle.seq_io.specs.Token.{ratio}
use Rattle.seq_io.proofs.Fronts.{cut_at}
use Rattle.seq_io.proofs.Decimal.{decimal-number_value, number-from_front}
use Rattle.seq_io.specs.StrictText.{first_line, behind_line, is_slash}

-- the tokens of the line at the front, without regard to whether it is empty
abbrev pub parts : List ℕ → List (List ℕ)
parts bytes = slice_split (λ b. b == BLANK) (first_line bytes)

-- the first place that passes, by the first element
pub position-no : (p : ℕ → Bool) (x : ℕ) (xs : List ℕ) → p x ≡ false → position_or_len p (x ∷ xs) ≡ suc (position_or_len p xs)
position-no p x xs fails = rw fails (omega arith)

-- a byte that doesn't pass goes before what stands before the first that does
before-no : (p : ℕ → Bool) (x : ℕ) (xs : List ℕ) → p x ≡ false → before_first p (x ∷ xs) ≡ x ∷ before_first p xs
before-no p x xs fails = ap (λ n. take n (x ∷ xs)) (position-no p x xs fails)

behind-no : (p : ℕ → Bool) (x : ℕ) (xs : List ℕ) → p x ≡ false → drop (position_or_len p (x ∷ xs)) (x ∷ xs) ≡ drop (position_or_len p xs) xs
behind-no p x xs fails = ap (λ n. drop n (x ∷ xs)) (position-no p x xs fails)

-- what a blank that follows the first token, or no blank, says of the rest
pub record FollowsBlank (bytes rest : List ℕ) : Type 0 where
  pub parts_are : parts bytes ≡ front_token bytes ∷ parts rest
  pub behind : behind_line rest ≡ behind_line bytes

pub record FollowsNone (bytes rest : List ℕ) : Type 0 where
  pub parts_are : parts bytes ≡ front_token bytes ∷ []
  pub behind : behind_line rest ≡ behind_line bytes
  pub none : line_length rest ≡ 0

-- a byte that is neither a blank nor LF goes before the first token
plain-blank : (b : ℕ) (bytes rest : List ℕ) → (b == BLANK) ≡ false → (b == LF) ≡ false → FollowsBlank bytes rest → FollowsBlank (b ∷ bytes) rest
plain-blank b bytes rest blank lf h =
    let end : is_token_end b ≡ false = rw (blank, lf) refl in record {
      parts_are = rw (before-no (λ c. c == LF) b bytes lf, before-no is_token_end b bytes end, blank, h.parts_are) refl;
      behind = h.behind ∙ sym (behind-no (λ c. c == LF) b bytes lf);
    }

plain-none : (b : ℕ) (bytes rest : List ℕ) → (b == BLANK) ≡ false → (b == LF) ≡ false → FollowsNone bytes rest → FollowsNone (b ∷ bytes) rest
plain-none b bytes rest blank lf h =
    let end : is_token_end b ≡ false = rw (blank, lf) refl in record {
      parts_are = rw (before-no (λ c. c == LF) b bytes lf, before-no is_token_end b bytes end, blank, h.parts_are) refl;
      behind = h.behind ∙ sym (behind-no (λ c. c == LF) b bytes lf);
      none = h.none;
    }

-- the bytes from the end of the first token on
abbrev pub behind_token : List ℕ → List ℕ
behind_token bytes = drop (front_length bytes) bytes

abbrev pub begins_blank : List ℕ → Bool
begins_blank [] = false
begins_blank (b ∷ bytes) = b == BLANK

at_blank : (bytes rest : List ℕ) → BLANK ∷ bytes ≡ BLANK ∷ rest → FollowsBlank (BLANK ∷ bytes) rest
at_blank bytes rest e =
    let same : bytes ≡ rest = cc in
    rw (← same) (record {
      parts_are = rw (before-no (λ c. c == LF) BLANK bytes refl) refl;
      behind = sym (behind-no (λ c. c == LF) BLANK bytes refl);
    })

-- a blank follows
pub blank_follows : (bytes rest : List ℕ) → behind_token bytes ≡ BLANK ∷ rest → FollowsBlank bytes rest
blank_follows [] rest e = absurd cc
blank_follows (b ∷ bytes) rest e = cases (λ k. blank_follows bytes rest k) (b == BLANK) (b == LF) refl refl where
  no_blank : LF ∷ bytes ≡ BLANK ∷ rest → ⊥
  no_blank e = cc

  cases : (behind_token bytes ≡ BLANK ∷ rest → FollowsBlank bytes rest) → (blank lf : Bool) → (b == BLANK) ≡ blank → (b == LF) ≡ lf → FollowsBlank (b ∷ bytes) rest
  cases rest_follows true lf h k =
      let is : b ≡ BLANK = eqb-true b BLANK h in
      let P : ℕ → Type 0 = λ c. behind_token (c ∷ bytes) ≡ BLANK ∷ rest → FollowsBlank (c ∷ bytes) rest in
      subst P (sym is) (at_blank bytes rest) e
  cases rest_follows false true h k =
      let is : b ≡ LF = eqb-true b LF k in
      let P : ℕ → Type 0 = λ c. behind_token (c ∷ bytes) ≡ BLANK ∷ rest in
      absurd (no_blank (subst P is e))
  cases rest_follows false false h k =
      let end : is_token_end b ≡ false = rw (h, k) refl in
      plain-blank b bytes rest h k (rest_follows (sym (behind-no is_token_end b bytes end) ∙ e))

-- no blank follows
pub none_follows : (bytes : List ℕ) → begins_blank (behind_token bytes) ≡ false → FollowsNone bytes (behind_token bytes)
none_follows [] e = record { parts_are = refl; behind = refl; none = refl }
none_follows (b ∷ bytes) e = cases (λ k. none_follows bytes k) (b == BLANK) (b == LF) refl refl where
  no_blank : true ≡ false → ⊥
  no_blank e = cc

  cases : (begins_blank (behind_token bytes) ≡ false → FollowsNone bytes (behind_token bytes)) → (blank lf : Bool) → (b == BLANK) ≡ blank → (b == LF) ≡ lf → FollowsNone (b ∷ bytes) (behind_token (b ∷ bytes))
  cases rest_follows true lf h k =
      let is : b ≡ BLANK = eqb-true b BLANK h in
      let P : ℕ → Type 0 = λ c. begins_blank (behind_token (c ∷ bytes)) ≡ false in
      absurd (no_blank (subst P is e))
  cases rest_follows false true h k =
      let is : b ≡ LF = eqb-true b LF k in
      let P : ℕ → Type 0 = λ c. FollowsNone (c ∷ bytes) (behind_token (c ∷ bytes)) in
      subst P (sym is) (record { parts_are = refl; behind = refl; none = refl })
  cases rest_follows false false h k =
      let end : is_token_end b ≡ false = rw (h, k) refl in
      let same = behind-no is_token_end b bytes end in
      let P : List ℕ → Type 0 = λ rest. FollowsNone (b ∷ bytes) rest in
      let Q : List ℕ → Type 0 = λ rest. begins_blank rest ≡ false in
      subst P (sym same) (plain-none b bytes (behind_token bytes) h k (rest_follows (subst Q same e)))

-- a token is at most as long as the bytes
pub front_within : (bytes : List ℕ) → front_length bytes ≤ length bytes
front_within bytes = prefix_len-le-length (λ b. not (is_token_end b)) bytes

-- where no token end stands, the token is all there is
pub front_length_is : (bytes : List ℕ) → unwrap_or (position is_token_end bytes) (length bytes) ≡ front_length bytes
front_length_is bytes = place (front_length bytes) (length bytes) (front_within bytes) where
  place : (n all : ℕ) → n ≤ all → unwrap_or (cond (nat_lt n all) (Some n) None) all ≡ n
  place n all within = grind (arith, nat_tests)

-- no blank stands at a place
pub no_blank_at : (bytes : List ℕ) (at : ℕ) → (at < length bytes → get_or bytes at 0 ≢ BLANK) → begins_blank (drop at bytes) ≡ false
no_blank_at bytes at none = cases (nat_lt at (length bytes)) refl where
  cases : (inside : Bool) → nat_lt at (length bytes) ≡ inside → begins_blank (drop at bytes) ≡ false
  cases true h =
      let inside : at < length bytes = ltb-true at (length bytes) h in
      rw (drop_more bytes at 0 inside) (ne_eqb (get_or bytes at 0) BLANK (none inside))
  cases false h = rw (drop_all at bytes (ltb-false at (length bytes) h)) refl

-- no digit ends a token
digit_inside : (b : ℕ) → is_ascii_digit b ≡ true → is_token_end b ≡ false
digit_inside b digit = grind (arith, nat_tests)

-- digits up to the end of a token are the token
pub front_of_digits : (bytes : List ℕ) (end : ℕ) → end ≤ length bytes → list_all is_ascii_digit (take end bytes) ≡ true
    → (end < length bytes → is_token_end (get_or bytes end 0) ≡ true) → front_length bytes ≡ end
front_of_digits bytes end within digits ends =
    let inside : (k : ℕ) → k < end → is_token_end (get_or bytes k 0) ≡ false = λ k l.
    let short : k < length (take end bytes) = omega (arith, length-take-le end bytes within) in
    let same : get_or (take end bytes) k 0 ≡ get_or bytes k 0 = get_or-take end bytes k 0 l in
    digit_inside (get_or bytes k 0) (rw (← same) (AllPass-from_list_all is_ascii_digit (take end bytes) digits k 0 short)) in
    position_or_len_is is_token_end bytes end 0 within inside ends

-- and so they are the spelling of their value
pub spelled_front : (bytes : List ℕ) (end n : ℕ) → end ≤ length bytes → list_all is_ascii_digit (take end bytes) ≡ true
    → n ≡ number_value (take end bytes) → n < 2 ^ 64 → (end ≡ 1) ⊎ ((1 < end) × (get_or bytes 0 0 ≢ 48))
    → front_length bytes ≡ end → front_token bytes ≡ decimal n
spelled_front bytes end n within digits value small form whole =
    let token = take end bytes in
    let long : length token ≡ end = length-take-le end bytes within in
    let some : (length token ≡ 1) ⊎ ((1 < length token) × (get_or token 0 0 ≢ 48)) = first_byte form in
    let same : decimal n ≡ token = rw value (decimal-number_value token (number-from_front token digits some) (rw (← value) small)) in
    ap (λ m. take m bytes) whole ∙ sym same
  where
    first_byte : (end ≡ 1) ⊎ ((1 < end) × (get_or bytes 0 0 ≢ 48)) → (length (take end bytes) ≡ 1) ⊎ ((1 < length (take end bytes)) × (get_or (take end bytes) 0 0 ≢ 48))
    first_byte (inl one) = inl (omega (arith, length-take-le end bytes within))
    first_byte (inr more) = inr (omega (arith, length-take-le end bytes within, more.0), rw (get_or-take end bytes 0 0 (omega (arith, more.0))) more.1)

-- where no slash stands, no unit follows one
pub no_unit : (token : List ℕ) (unit : ℕ) → unit < 2 ^ 64 → position is_slash token ≡ None → bytes_eq (after_first is_slash token) (decimal unit) ≡ false
no_unit token unit small none =
    let past : length token ≤ position_or_len is_slash token + 1 = omega (arith, outside (position_or_len is_slash token) (length token) none) in
    rw (drop_all (position_or_len is_slash token + 1) token past) (nothing (decimal unit) (decimal_nonempty unit small))
  where
    outside : (n all : ℕ) → cond (nat_lt n all) (Some n) None ≡ None → all ≤ n
    outside n all none = grind (arith, nat_tests)

    nothing : (xs : List ℕ) → 0 < length xs → bytes_eq [] xs ≡ false
    nothing [] some = absurd (omega arith)
    nothing (x ∷ xs) some = refl

-- a number, a slash and the unit are the token
pub ratio-parts : (token : List ℕ) (slash n unit : ℕ) → position is_slash token ≡ Some slash → take slash token ≡ decimal n
    → drop (slash + 1) token ≡ decimal unit → token ≡ ratio n unit
ratio-parts token slash n unit place number rest =
    cut_at token SLASH slash place ∙ ap (λ front. front ++ SLASH ∷ drop (slash + 1) token) number ∙ ap (λ back. decimal n ++ SLASH ∷ back) rest
