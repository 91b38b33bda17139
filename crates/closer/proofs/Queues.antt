-- What a heap of things that wait gives and takes.
use Rattle.std.proofs.Common.{◌≡◌, ℕ, ◌≤◌, ◌⊎◌, false, List, [], ◌∷◌, refl, sym, inl, inr, arith}
use Rattle.std.specs.Prelude.{All, Contains}
use Rattle.std.specs.Ordering.{is_lt, nat_cmp, ordering_then}
use Rattle.std.specs.declared.cmp.Ordering.{Ordering}
use Rattle.std.specs.declared.cmp.Ordering.TheVariants.{Less, Equal, Greater}
use Rattle.std.specs.declared.cmp.Reverse.{Reverse}
use Rattle.std.specs.List.Sorted.{IsPermutation}
use Rattle.std.specs.BinaryHeap.{IsUpperBound}
use Rattle.std.proofs.lemmas.List.Elements.{All-contains, All-nil, All-cons, Contains-append_left, Contains-append_right, Contains-append_cases, Contains-push, Contains-push_cases}
use Rattle.std.proofs.lemmas.List.Sorted.{IsPermutation-sym, IsPermutation-map, Contains-permutation, length_permutation, le_from_greatest}
use Rattle.closer.specs.Waiting.{heap_order, waits_of, Joins, Leaves}
use Rattle.closer.specs.declared.wait.Wait.{Wait}

-- ---- the first of a list and the rest

first_waits : (w : Wait) (ws : List Wait) → Contains (w ∷ ws) w
first_waits w ws = Contains-append_left (w ∷ []) ws w (Contains-push [] w)

rest_waits : (w : Wait) (ws : List Wait) (v : Wait) → Contains ws v → Contains (w ∷ ws) v
rest_waits w ws v h = Contains-append_right (w ∷ []) ws v h

none_waits : (v : Wait) → Contains [] v → ⊥
none_waits v h = absurd (omega (arith, h.1))

first_or_rest : (w : Wait) (ws : List Wait) (v : Wait) → Contains (w ∷ ws) v → (v ≡ w) ⊎ Contains ws v
first_or_rest w ws v h = elim (Contains-append_cases (w ∷ []) ws v h) [
  | inl first ↦ elim (Contains-push_cases [] w v first) [
    | inl none ↦ absurd (none_waits v none)
    | inr same ↦ inl (sym same)
  ]
  | inr rest ↦ inr rest
]

-- ---- one more

Joins-permutation : (w : Wait) (old new : List Wait) → IsPermutation (w ∷ old) new → Joins w old new
Joins-permutation w old new same = record {
  joined = Contains-permutation (w ∷ old) new w same (first_waits w old);
  kept = λ v h. Contains-permutation (w ∷ old) new v same (rest_waits w old v h);
  only =
      λ v h. elim (first_or_rest w old v (Contains-permutation new (w ∷ old) v (IsPermutation-sym (w ∷ old) new same) h)) [
        | inl first ↦ inr first
        | inr rest ↦ inl rest
      ];
  len = omega (arith, length_permutation (w ∷ old) new same);
}

pub Joins-pushed : (w : Wait) (old new : List (Reverse Wait)) → IsPermutation (record { 0 = w } ∷ old) new → Joins w (waits_of old) (waits_of new)
Joins-pushed w old new same =
    Joins-permutation w (waits_of old) (waits_of new) (IsPermutation-map (λ (r : Reverse Wait). r.0) (record { 0 = w } ∷ old) new same)

-- ---- one less

-- what comes first decides unless it is `Equal`
first_decides : (a b : Ordering) → is_lt (ordering_then a b) ≡ false → is_lt a ≡ false
first_decides Less b e = e
first_decides Equal b e = refl
first_decides Greater b e = e

at_most : (x y : ℕ) → is_lt (nat_cmp x y) ≡ false → y ≤ x
at_most x y h = All-contains (λ (z : ℕ). z ≤ x) (y ∷ []) y (le_from_greatest x (y ∷ []) (h, tt)) (Contains-push [] y)

least_of : (x : Reverse Wait) (items : List (Reverse Wait)) → IsUpperBound heap_order x items → All (λ (v : Wait). x.0.rank ≤ v.rank) (waits_of items)
least_of x [] h = All-nil (λ (v : Wait). x.0.rank ≤ v.rank)
least_of x (y ∷ items) h =
    All-cons (λ (v : Wait). x.0.rank ≤ v.rank) y.0 (waits_of items)
    (at_most y.0.rank x.0.rank
    (first_decides (nat_cmp y.0.rank x.0.rank) (ordering_then (nat_cmp y.0.shelf x.0.shelf) (nat_cmp y.0.index x.0.index)) h.0))
    (least_of x items h.1)

Leaves-permutation : (w : Wait) (old new : List Wait) → IsPermutation old (w ∷ new) → All (λ (v : Wait). w.rank ≤ v.rank) new → Leaves w old new
Leaves-permutation w old new same least = record {
  was = Contains-permutation (w ∷ new) old w (IsPermutation-sym old (w ∷ new) same) (first_waits w new);
  kept =
      λ v h. elim (first_or_rest w new v (Contains-permutation old (w ∷ new) v same h)) [
        | inl first ↦ inr first
        | inr rest ↦ inl rest
      ];
  only = λ v h. Contains-permutation (w ∷ new) old v (IsPermutation-sym old (w ∷ new) same) (rest_waits w new v h);
  least = λ v h. All-contains (λ (u : Wait). w.rank ≤ u.rank) new v least h;
  len = omega (arith, length_permutation old (w ∷ new) same);
}

pub Leaves-popped : (x : Reverse Wait) (old new : List (Reverse Wait)) → IsPermutation old (x ∷ new) → IsUpperBound heap_order x new
    → Leaves x.0 (waits_of old) (waits_of new)
Leaves-popped x old new same top =
    Leaves-permutation x.0 (waits_of old) (waits_of new) (IsPermutation-map (λ (r : Reverse Wait). r.0) old (x ∷ new) same) (least_of x new top)
