-- What follows of members and of rising lists. It stands here since the models of the sets rest on it.
use Rattle.std.proofs.Common.{◌≡◌, ℕ, zero, suc, ◌+◌, ◌<◌, Bool, true, false, cond, ◌&&◌, ◌||◌, ltb, leb, List, [], ◌∷◌, length, get_or, refl, sym, ap, ◌∙◌, inl, inr, arith}
use Rattle.std.specs.List.{filter, range_with_len}
use Rattle.std.specs.List.Sorted.{IsStrictlyIncreasing}
use Rattle.std.proofs.lemmas.Bool.{eq-eqb, ne_eqb, cases_eq, cases_order, and_right, false≢true, false_from_ne_true}
use Rattle.std.proofs.lemmas.Bool.Decides.{nat_tests}
use Rattle.std.proofs.lemmas.List.FromFn.{get_or-range_with_len, length-range_with_len}
use Rattle.std.proofs.lemmas.List.Kept.{IsStrictlyIncreasing-filter}
use Rattle.strip_set.specs.Members.{has, IsSet}

-- ---- membership

-- the head is a member, and any other number is one where it stands behind the head
pub has-head : (y x : ℕ) (xs : List ℕ) → x ≡ y → has y (x ∷ xs) ≡ true
has-head y x xs same = ap (λ b. b || has y xs) (eq-eqb x y same)

pub has-tail : (y x : ℕ) (xs : List ℕ) → (x ≡ y → ⊥) → has y (x ∷ xs) ≡ has y xs
has-tail y x xs differs = ap (λ b. b || has y xs) (ne_eqb x y differs)

-- what a test keeps
pub has-filter : (y : ℕ) (p : ℕ → Bool) (xs : List ℕ) → has y (filter p xs) ≡ (has y xs && p y)
has-filter y p [] = refl
has-filter y p (x ∷ xs) =
    elim (p x) as (λ b. p x ≡ b → has y (cond b (x ∷ filter p xs) (filter p xs)) ≡ (has y (x ∷ xs) && p y)) [
      | true ↦ λ passes.
          elim (cases_eq x y) [
            | inl same ↦
                let passed : p y ≡ true = ap p (sym same) ∙ passes in
                has-head y x (filter p xs) same ∙ sym (ap (λ b. b && p y) (has-head y x xs same) ∙ passed)
            | inr differs ↦
                has-tail y x (filter p xs) differs ∙ has-filter y p xs ∙ sym (ap (λ b. b && p y) (has-tail y x xs differs))
          ]
      | false ↦ λ fails.
          elim (cases_eq x y) [
            | inl same ↦
                let failed : p y ≡ false = ap p (sym same) ∙ fails in
                has-filter y p xs ∙ and_right (has y xs) (p y) failed ∙ sym (and_right (has y (x ∷ xs)) (p y) failed)
            | inr differs ↦ has-filter y p xs ∙ sym (ap (λ b. b && p y) (has-tail y x xs differs))
          ]
    ] refl

-- what a range holds
pub has-range : (y a n : ℕ) → has y (range_with_len a n) ≡ (leb a y && ltb y (a + n))
has-range y a zero = grind (arith, nat_tests)
has-range y a (suc n) = let rest = has-range y (a + 1) n in grind (arith, nat_tests)

-- ---- rising lists

-- the rest of a rising list rises
pub rises-tail : (x : ℕ) (xs : List ℕ) → IsStrictlyIncreasing (x ∷ xs) → IsStrictlyIncreasing xs
rises-tail x xs rises = λ k within. let place : suc k + 1 ≡ suc (k + 1) = omega arith in rw place at (rises (suc k) (omega arith))

-- what follows the head of a rising list is above it
pub above_head : (x z : ℕ) (xs : List ℕ) → IsStrictlyIncreasing (x ∷ xs) → has z xs ≡ true → x < z
above_head x z [] rises member = absurd (false≢true member)
above_head x z (y ∷ ys) rises member =
    let next : x < y = rises 0 (omega arith) in
    elim (cases_eq y z) [
      | inl same ↦ omega arith
      | inr differs ↦
          let further : y < z = above_head y z ys (rises-tail x (y ∷ ys) rises) (sym (has-tail z y ys differs) ∙ member) in
          omega arith
    ]

-- nothing below the head stands in a rising list
pub not_below_head : (z x : ℕ) (xs : List ℕ) → IsStrictlyIncreasing (x ∷ xs) → z < x → has z (x ∷ xs) ≡ true → ⊥
not_below_head z x xs rises lower member =
    let above : x < z = above_head x z xs rises (sym (has-tail z x xs (λ e. omega arith)) ∙ member) in
    omega arith

-- the head doesn't stand again
pub head_once : (x : ℕ) (xs : List ℕ) → IsStrictlyIncreasing (x ∷ xs) → has x xs ≡ false
head_once x xs rises = false_from_ne_true (has x xs) (λ member. let above = above_head x x xs rises member in omega arith)

-- below equal heads the same members are left
same_rest : (x y : ℕ) (xs ys : List ℕ) → IsStrictlyIncreasing (x ∷ xs) → IsStrictlyIncreasing (y ∷ ys) → x ≡ y → ((z : ℕ) → has z (x ∷ xs) ≡ has z (y ∷ ys)) → (z : ℕ) → has z xs ≡ has z ys
same_rest x y xs ys rises rises' heads same z =
    elim (cases_eq x z) [
      | inl at ↦
          let once : has z xs ≡ false = ap (λ w. has w xs) (sym at) ∙ head_once x xs rises in
          let once' : has z ys ≡ false = ap (λ w. has w ys) (sym (sym heads ∙ at)) ∙ head_once y ys rises' in
          once ∙ sym once'
      | inr apart ↦ sym (has-tail z x xs apart) ∙ same z ∙ has-tail z y ys (λ e. apart (heads ∙ e))
    ]

-- rising lists with the same members are equal
pub same_members : (xs ys : List ℕ) → IsStrictlyIncreasing xs → IsStrictlyIncreasing ys → ((y : ℕ) → has y xs ≡ has y ys) → xs ≡ ys
same_members [] [] rises rises' same = refl
same_members [] (y ∷ ys) rises rises' same = absurd (false≢true (same y ∙ has-head y y ys refl))
same_members (x ∷ xs) [] rises rises' same = absurd (false≢true (sym (same x) ∙ has-head x x xs refl))
same_members (x ∷ xs) (y ∷ ys) rises rises' same =
    elim (cases_order x y) [
      | inl heads ↦ λ i. heads i ∷ same_members xs ys (rises-tail x xs rises) (rises-tail y ys rises') (same_rest x y xs ys rises rises' heads same) i
      | inr differ ↦
          elim differ [
            | inl lower ↦ absurd (not_below_head x y ys rises' lower (sym (same x) ∙ has-head x x xs refl))
            | inr upper ↦ absurd (not_below_head y x xs rises upper (same y ∙ has-head y y ys refl))
          ]
    ]

-- ---- the numbers below a bound that pass a test

range_rises : (a n : ℕ) → IsStrictlyIncreasing (range_with_len a n)
range_rises a n k within =
    let long : length (range_with_len a n) ≡ n = length-range_with_len a n in
    let here : get_or (range_with_len a n) k 0 ≡ a + k = get_or-range_with_len a n k 0 (omega arith) in
    let next : get_or (range_with_len a n) (k + 1) 0 ≡ a + (k + 1) = get_or-range_with_len a n (k + 1) 0 (omega arith) in
    omega arith

pub has-passing : (p : ℕ → Bool) (bound y : ℕ) → y < bound → has y (filter p (range_with_len 0 bound)) ≡ p y
has-passing p bound y within =
    let inside : has y (range_with_len 0 bound) ≡ true = has-range y 0 bound ∙ grind (arith, nat_tests) in
    has-filter y p (range_with_len 0 bound) ∙ ap (λ b. b && p y) inside

pub IsSet-passing : (p : ℕ → Bool) (bound : ℕ) → IsSet bound (filter p (range_with_len 0 bound))
IsSet-passing p bound = record {
  rises = IsStrictlyIncreasing-filter p (range_with_len 0 bound) (range_rises 0 bound);
  below = λ y beyond.
      let outside : has y (range_with_len 0 bound) ≡ false = has-range y 0 bound ∙ grind (arith, nat_tests) in
      has-filter y p (range_with_len 0 bound) ∙ ap (λ b. b && p y) outside;
}
