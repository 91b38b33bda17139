-- What an index knows of the paths.
use Rattle.std.proofs.Common.{◌≡◌, ◌≢◌, ℕ, ◌+◌, ◌<◌, ◌≤◌, List, length, get_or, nat_eq, Option, Some, None, sym, ◌∙◌, ap, subst, inl, inr, arith}
use Rattle.std.proofs.lemmas.Bool.{cases_lt}
use Rattle.std.proofs.lemmas.List.{get_or_read_under}
use Rattle.std.specs.HashMap as hash
use Rattle.label_list.specs.Keys.{key_of, path_at, IsLastWith, IsIndexOf}
use Rattle.label_list.specs.declared.path_index.PathIndex.{PathIndex}

-- While a path is looked for: no path past the place is it, and where there is a place, the path there has its key.
abbrev pub IsSeeking : List (List ℕ) → List ℕ → Option ℕ → Type 0
IsSeeking paths path None = (j : ℕ) → j < length paths → path_at paths j ≢ path
IsSeeking paths path (Some k) = k < length paths × (key_of (path_at paths k) ≡ key_of path)
    × ((j : ℕ) → k < j → j < length paths → path_at paths j ≢ path)

-- it begins at the last path with the key
pub seeking-start : (paths : List (List ℕ)) (index : PathIndex) (path : List ℕ) (key : ℕ) (place : Option ℕ) → IsIndexOf paths index → key ≡ key_of path
    → place ≡ hash.get nat_eq index.last key → IsSeeking paths path place
seeking-start paths index path key place is_index key_is is =
    begin place (subst (λ (o : Option ℕ). IsLastWith paths (length paths) (key_of path) o) (sym is)
    (subst (λ (k : ℕ). IsLastWith paths (length paths) k (hash.get nat_eq index.last key)) key_is (is_index.last key)))
  where
    begin : (first : Option ℕ) → IsLastWith paths (length paths) (key_of path) first → IsSeeking paths path first
    begin None none = λ j below same. none j (omega arith) below (ap (λ p. key_of p) same)
    begin (Some k) (there, with_key, none) = (
      there,
      with_key,
      λ j past below same. none j (omega (arith, past)) below (ap (λ p. key_of p) same),
    )

-- what the index has for a path
pub before-at : (paths : List (List ℕ)) (index : PathIndex) (k : ℕ) (next : Option ℕ) → IsIndexOf paths index → k < length paths
    → next ≡ get_or index.before.items k next → IsLastWith paths k (key_of (path_at paths k)) next
before-at paths index k next is_index there at =
    subst (λ (o : Option ℕ). IsLastWith paths k (key_of (path_at paths k)) o)
    (sym (get_or_read_under index.before.items k (length paths) next None at there (sym is_index.size))) (is_index.before k there)

-- it goes on before a place with another path
pub seeking-step : (paths : List (List ℕ)) (path : List ℕ) (k : ℕ) (next : Option ℕ) → path_at paths k ≢ path
    → IsLastWith paths k (key_of (path_at paths k)) next → IsSeeking paths path (Some k) → IsSeeking paths path next
seeking-step paths path k next other before (there, with_key, none) = go next before
  where
    from : (j : ℕ) → k ≤ j → j < length paths → path_at paths j ≢ path
    from j past below = elim (cases_lt k j) [
      | inl later ↦ none j later below
      | inr here ↦ subst (λ (i : ℕ). path_at paths i ≢ path) (omega (arith, past, here)) other
    ]

    go : (next : Option ℕ) → IsLastWith paths k (key_of (path_at paths k)) next → IsSeeking paths path next
    go None none_before = λ j below same. elim (cases_lt j k) [
      | inl earlier ↦ none_before j (omega arith) earlier (ap (λ p. key_of p) same ∙ sym with_key)
      | inr later ↦ from j later below same
    ]
    go (Some i) (under, same_key, none_between) = (
      omega (arith, under, there),
      same_key ∙ with_key,
      λ j past below same. elim (cases_lt j k) [
        | inl earlier ↦ none_between j (omega (arith, past)) earlier (ap (λ p. key_of p) same ∙ sym with_key)
        | inr later ↦ from j later below same
      ],
    )

-- how far a search has to go
abbrev pub left_from : Option ℕ → ℕ
left_from None = 0
left_from (Some k) = k + 1

-- the next place is an earlier one
pub left-less : (paths : List (List ℕ)) (k key : ℕ) (next : Option ℕ) → IsLastWith paths k key next → left_from next < left_from (Some k)
left-less paths k key None before = omega arith
left-less paths k key (Some i) (under, is, none) = omega (arith, under)
