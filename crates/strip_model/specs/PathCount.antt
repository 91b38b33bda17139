-- How many label paths there are. Whoever has that many different ones has all.
use Rattle.std.specs.Prelude.{◌≢◌, ℕ, zero, suc, ◌+◌, ◌*◌, ◌<◌, Bool, true, not, ◌&&◌, ◌||◌, ◌==◌, nat_lt, nat_le, List, [], ◌∷◌, ◌++◌, length, map, count_by, slice_index_or, Contains}
use Rattle.std.specs.List.{flat_map, list_all, range_with_len}
use Rattle.std.specs.Option.{option_map_or}
use Rattle.strip_model.specs.Directed.{strip_of, direction_of, has_strip}
use Rattle.strip_model.specs.LabelPath.{LabelPath}
use Rattle.strip_model.specs.Orbit.{Orbit, late_at, duration_at, twin_at}
use Rattle.strip_model.specs.Side.{Face, face_of}
use Rattle.strip_model.specs.Starts.{Place, Root, After, arrive, place_after}
use Rattle.strip_model.specs.declared.end.End.{End}
use Rattle.strip_model.specs.declared.end.End.TheVariants.{Forward, Backward}

-- ---- a label path, as a test

-- no strip stands twice
abbrev pub are_distinct : List ℕ → Bool
are_distinct [] = true
are_distinct (x ∷ xs) = not (has_strip (strip_of x) xs) && are_distinct xs

-- earliest starts don't pass the windows' late ends
abbrev pub fit : Orbit → Place → List ℕ → Bool
fit J q [] = true
fit J q (y ∷ ys) = nat_le (arrive J q y) (late_at J y) && fit J (After (arrive J q y) y) ys

-- where y is of the twin of the strip of x, it has the direction of x
abbrev pub agree : Orbit → ℕ → ℕ → Bool
agree J x y = option_map_or (λ t. not (t == strip_of y) || direction_of y == direction_of x) (twin_at J (strip_of x)) true

-- the place is within the cap
abbrev pub is_within_cap : End → Face → Place → Bool
is_within_cap e S Root = true
is_within_cap Forward S (After s x) = nat_le s S.cut
is_within_cap Backward S (After s x) = nat_lt (s + duration_at S.instance x + S.cut) S.horizon

-- whether the list is a label path of the side
unfoldable pub is_label_path : Face → List ℕ → Bool
is_label_path S path =
    not (length path == 0)
    && list_all (λ x. nat_lt (strip_of x) (length S.instance.strips)) path
    && are_distinct path
    && fit S.instance Root path
    && list_all (λ x. list_all (agree S.instance x) path) path
    && is_within_cap S.end S (place_after S.instance Root path)

-- ---- their number

-- all lists of so many numbers below m
abbrev pub lists_of : ℕ → ℕ → List (List ℕ)
lists_of m zero = [] ∷ []
lists_of m (suc n) = flat_map (λ xs. map (λ y. y ∷ xs) (range_with_len 0 m)) (lists_of m n)

-- all lists of at most so many numbers below m
abbrev pub lists_up_to : ℕ → ℕ → List (List ℕ)
lists_up_to m zero = lists_of m zero
lists_up_to m (suc n) = lists_up_to m n ++ lists_of m (suc n)

-- The number of label paths of a side: a path has each strip once, so it is among the lists of at most as many directed
-- strips as there are strips.
unfoldable pub path_count : Face → ℕ
path_count S = count_by (is_label_path S) (lists_up_to (2 * length S.instance.strips) (length S.instance.strips))

-- the number of label paths of both sides of an instance with a cut
abbrev pub path_count_of : Orbit → ℕ → ℕ
path_count_of J cut = path_count (face_of J cut Forward) + path_count (face_of J cut Backward)

-- ---- lists of label paths

-- label paths of a side, none of them twice
pub record AreLabelPaths (S : Face) (paths : List (List ℕ)) : Type 0 where
  pub each : (k : ℕ) → k < length paths → LabelPath S (slice_index_or paths k [])
  pub once : (j k : ℕ) → j < k → k < length paths → slice_index_or paths j [] ≢ slice_index_or paths k []

-- every label path of the side stands in the list
abbrev pub HasAllPaths : Face → List (List ℕ) → Type 0
HasAllPaths S paths = (path : List ℕ) → LabelPath S path → Contains paths path
