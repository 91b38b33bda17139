-- What crates that use the sets cite of their lists.
use Rattle.std.specs.Prelude.{IsTrue, ◌↔◌}
use Rattle.std.proofs.Common.{◌≡◌, ℕ, Bool, nat_eq, zero, suc, ◌+◌, ◌*◌, ◌<◌, true, false, ◌||◌, List, [], ◌∷◌, refl, sym, ap, ◌∙◌, inl, inr, arith, if◌then◌else◌, ◌==◌}
use Rattle.std.specs.List.{filter, range_with_len}
use Rattle.std.specs.List.Sorted.{IsStrictlyIncreasing}
use Rattle.std.proofs.lemmas.Bool.{eq-eqb, ne_eqb, cases_eq, cases_lt, cases_order, false≢true, or_parts}
use Rattle.std.proofs.lemmas.Bool.Decides.{nat_tests, Decides-eqb}
use Rattle.std.specs.Cmp.Lexicographic.{pointwise, pointwise_decides}
use Rattle.strip_set.specs.Members.{has, has_strip, IsSet}
use Rattle.strip_set.specs.Stored.{IsLeast}
pub use Rattle.strip_set.specs.Laws.{has-head, has-tail, rises-tail, above_head, head_once, same_members, has-passing, IsSet-passing}

-- a strip is in the list exactly where one of its two directed strips is
pub has_strip-directions : (i : ℕ) (xs : List ℕ) → has_strip i xs ≡ (has (2 * i) xs || has (2 * i + 1) xs)
has_strip-directions i [] = refl
has_strip-directions i (x ∷ xs) = let rest = has_strip-directions i xs in grind (arith, nat_tests)

-- a list without members is empty
pub no_members : (xs : List ℕ) → ((y : ℕ) → has y xs ≡ false) → xs ≡ []
no_members [] none = refl
no_members (x ∷ xs) none = let here = has-head x x xs refl in let not_here = none x in cc

-- the empty list is a set
pub IsSet-nil : (bound : ℕ) → IsSet bound []
IsSet-nil bound = record { rises = λ k within. absurd (omega arith); below = λ y beyond. refl }

-- the numbers below the bound that are in a set are the set
pub passing-set : (bound : ℕ) (set : List ℕ) → IsSet bound set → filter (λ i. has i set) (range_with_len 0 bound) ≡ set
passing-set bound set sound =
    let shown : IsSet bound (filter (λ i. has i set) (range_with_len 0 bound)) = IsSet-passing (λ i. has i set) bound in
    same_members (filter (λ i. has i set) (range_with_len 0 bound)) set shown.rises sound.rises
    (λ y. elim (cases_lt y bound) [
      | inl within ↦ has-passing (λ i. has i set) bound y within
      | inr beyond ↦ shown.below y beyond ∙ sym (sound.below y beyond)
    ])

-- a number below all members goes before a rising list
pub rises-cons : (x : ℕ) (xs : List ℕ) → ((y : ℕ) → has y xs ≡ true → x < y) → IsStrictlyIncreasing xs → IsStrictlyIncreasing (x ∷ xs)
rises-cons x [] above rises k within = absurd (omega arith)
rises-cons x (y ∷ ys) above rises zero within = above y (has-head y y ys refl)
rises-cons x (y ∷ ys) above rises (suc k) within =
    let place : suc k + 1 ≡ suc (k + 1) = omega arith in rw place (rises k (omega arith))

-- the least member and the others are the set
pub taken_first : (bound n : ℕ) (old new : List ℕ) → IsSet bound old → IsSet bound new → IsLeast old n → ((y : ℕ) → has y new ≡ (if y == n then false else has y old)) → old ≡ n ∷ new
taken_first bound n old new old_set new_set first others =
    let above : (y : ℕ) → has y new ≡ true → n < y = λ y member.
    elim (cases_order y n) [
      | inl same ↦ absurd (false≢true (sym (others y ∙ ap (λ t. if t then false else has y old) (eq-eqb y n same)) ∙ member))
      | inr differ ↦
          elim differ [
            | inl below ↦ absurd (false≢true (sym (others y ∙ ap (λ t. if t then false else has y old) (ne_eqb y n (λ e. omega arith)) ∙ first.least y below) ∙ member))
            | inr over ↦ over
          ]
    ] in
    same_members old (n ∷ new) old_set.rises (rises-cons n new above new_set.rises)
    (λ y. elim (cases_eq y n) [
      | inl same ↦ ap (λ k. has k old) same ∙ first.member ∙ sym (has-head y n new (sym same))
      | inr differs ↦
          sym (has-tail y n new (λ e. differs (sym e)) ∙ others y ∙ ap (λ t. if t then false else has y old) (ne_eqb y n differs))
    ])

-- what follows the first of a set is a set
pub IsSet-tail : (bound x : ℕ) (xs : List ℕ) → IsSet bound (x ∷ xs) → IsSet bound xs
IsSet-tail bound x xs set = record {
  rises = rises-tail x xs set.rises;
  below = λ y beyond. (or_parts (x == y) (has y xs) (set.below y beyond)).1;
}

-- lists of sets are equal exactly where the members are the same
pub equal_where_members : (bound : ℕ) (xs ys : List ℕ) → IsSet bound xs → IsSet bound ys → (xs ≡ ys) ↔ ((y : ℕ) → has y xs ≡ has y ys)
equal_where_members bound xs ys one other = (λ e y. ap (has y) e, same_members xs ys one.rises other.rises)

-- so the test of two sets is true exactly there
pub test_where_members : (bound : ℕ) (xs ys : List ℕ) (b : Bool) → b ≡ pointwise nat_eq xs ys → IsSet bound xs → IsSet bound ys
    → IsTrue b ↔ ((y : ℕ) → has y xs ≡ has y ys)
test_where_members bound xs ys b is one other =
    let decides = pointwise_decides Decides-eqb xs ys in
    let equal = equal_where_members bound xs ys one other in
    (λ e. equal.0 (decides.0 (sym is ∙ e)), λ same. is ∙ decides.1 (equal.1 same))
