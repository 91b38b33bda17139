-- Views of passes, of which one changes, and totals over them.
use Rattle.std.proofs.Common.{◌≡◌, ◌≤◌, ◌<◌, ◌+◌, ℕ, zero, suc, List, [], ◌∷◌, length, get_or, set, sum_by, All, refl, ap, sym, ◌∙◌, subst, arith}
use Rattle.std.proofs.lemmas.List.Elements.{All-nil, All-cons, All-head, All-tail, All-set}
use Rattle.std.proofs.lemmas.List.Sums.{sum_by-set, sum_by-cons}
use mathlib.Core.Option.{some, some-injective, some-ne-none}
use lib.ListN.{get_elem?}

module _ {A : Type 0} where
  pub at_within : (xs : List A) (i : ℕ) (a : A) → get_elem? xs i ≡ some a → i < length xs
  at_within [] i a e = absurd (some-ne-none a (sym e))
  at_within (x ∷ xs) zero a e = omega arith
  at_within (x ∷ xs) (suc i) a e = let h = at_within xs i a e in omega arith

  pub at_read : (xs : List A) (i : ℕ) (a d : A) → get_elem? xs i ≡ some a → get_or xs i d ≡ a
  at_read [] i a d e = absurd (some-ne-none a (sym e))
  at_read (x ∷ xs) zero a d e = some-injective x a e
  at_read (x ∷ xs) (suc i) a d e = at_read xs i a d e

  -- what holds of each element holds of one
  pub all_at : (P : A → Type 0) (xs : List A) (i : ℕ) (a : A) → All P xs → get_elem? xs i ≡ some a → P a
  all_at P xs i a all at = subst P (at_read xs i a a at) (all i a (at_within xs i a at))

  pub all_map : (P Q : A → Type 0) (xs : List A) → ((x : A) → P x → Q x) → All P xs → All Q xs
  all_map P Q xs f all = λ k d h. f (get_or xs k d) (all k d h)

  pub all_both : (P Q : A → Type 0) (xs : List A) → All P xs → All Q xs → All (λ x. P x × Q x) xs
  all_both P Q xs p q = λ k d h. (p k d h, q k d h)

  -- a sum, where one element changes
  pub sum_set : (f : A → ℕ) (xs : List A) (i : ℕ) (a b : A) → get_elem? xs i ≡ some a → sum_by f (set xs i b) + f a ≡ sum_by f xs + f b
  sum_set f xs i a b at = ap (λ (x : A). sum_by f (set xs i b) + f x) (sym (at_read xs i a a at)) ∙ sum_by-set f xs i b a (at_within xs i a at)

  -- it stays where the term stays
  pub sum_stays : (f : A → ℕ) (xs : List A) (i : ℕ) (a b : A) → get_elem? xs i ≡ some a → f b ≡ f a → sum_by f (set xs i b) ≡ sum_by f xs
  sum_stays f xs i a b at same = let e = sum_set f xs i a b at in omega arith

  pub sum_le : (f g : A → ℕ) (xs : List A) → All (λ x. f x ≤ g x) xs → sum_by f xs ≤ sum_by g xs
  sum_le f g [] all = omega arith
  sum_le f g (x ∷ xs) all =
      let here = All-head (λ y. f y ≤ g y) x xs all in
      let there = sum_le f g xs (All-tail (λ y. f y ≤ g y) x xs all) in
      omega (arith, sum_by-cons f x xs, sum_by-cons g x xs)

  -- no term of a sum exceeds it
  pub sum_at : (f : A → ℕ) (xs : List A) (i : ℕ) (a : A) → get_elem? xs i ≡ some a → f a ≤ sum_by f xs
  sum_at f [] i a e = absurd (some-ne-none a (sym e))
  sum_at f (x ∷ xs) zero a e = let same : f x ≡ f a = ap f (some-injective x a e) in omega (arith, sum_by-cons f x xs)
  sum_at f (x ∷ xs) (suc i) a e = let h = sum_at f xs i a e in omega (arith, sum_by-cons f x xs)

  pub terms_zero : (f : A → ℕ) (xs : List A) → sum_by f xs ≡ 0 → All (λ x. f x ≡ 0) xs
  terms_zero f [] e = All-nil (λ x. f x ≡ 0)
  terms_zero f (x ∷ xs) e =
      let c = sum_by-cons f x xs in
      All-cons (λ y. f y ≡ 0) x xs (omega arith) (terms_zero f xs (omega arith))

  pub sum_zero : (f : A → ℕ) (xs : List A) → All (λ x. f x ≡ 0) xs → sum_by f xs ≡ 0
  sum_zero f [] all = refl
  sum_zero f (x ∷ xs) all =
      let here = All-head (λ y. f y ≡ 0) x xs all in
      let there = sum_zero f xs (All-tail (λ y. f y ≡ 0) x xs all) in
      omega (arith, sum_by-cons f x xs)

  -- where one element has the whole of a sum f, and g is 0 wherever f is, it has the whole of the sum g
  pub sum_alone : (f g : A → ℕ) (xs : List A) (i : ℕ) (a spent : A) → get_elem? xs i ≡ some a → f spent ≡ 0 → g spent ≡ 0 → sum_by f xs ≡ f a
      → All (λ x. f x ≡ 0 → g x ≡ 0) xs → sum_by g xs ≡ g a
  sum_alone f g xs i a spent at none none' whole all =
      let rest : sum_by f (set xs i spent) ≡ 0 = (let e = sum_set f xs i a spent at in omega arith) in
      let zeros = terms_zero f (set xs i spent) rest in
      let all' = All-set (λ x. f x ≡ 0 → g x ≡ 0) xs i spent (λ _. none') all in
      let rest' : sum_by g (set xs i spent) ≡ 0 = sum_zero g (set xs i spent) (λ k d h. all' k d h (zeros k d h)) in
      let e = sum_set g xs i a spent at in
      omega arith
