-- The best pair of labels that are cut into parts.
use Rattle.std.proofs.Common.{◌≡◌, ◌⊎◌, ℕ, zero, suc, ◌+◌, ◌-◌, ◌*◌, ◌<◌, ◌≤◌, List, [], ◌∷◌, ◌++◌, map, All, Option, None, Some, IfSome, option_map, length, take, drop, slice_get, refl, sym, ◌∙◌, ap, subst, inl, inr, le_trans, arith}
use Rattle.std.proofs.Math.Seq.{take-append-add}
use Rattle.std.proofs.lemmas.Bool.{cases_lt}
use Rattle.std.proofs.lemmas.List.{length-append, length-drop, length-take, length-take-le, take-append-drop, take-map, drop-map}
use Rattle.std.proofs.lemmas.List.Elements.{All-take, All-drop}
use Rattle.std.specs.Fork.{slice_chunk}
use Rattle.joiner.proofs.Offering.{IsNoWorse-trans, IsKept-found}
use Rattle.joiner.specs.Offers.{Covers, IsAbove, IsKept}
use Rattle.joiner.specs.Pairs.{place_of, path_at, IsNoWorse, IsPair, IsGreatest, NoneAbove, IsBest}
use Rattle.joiner.specs.Parts.{moved}
use Rattle.joiner.specs.declared.pair.Pair.{Pair}
use Rattle.label.specs.Labels.{path_of}
use Rattle.label.specs.declared.label.Label.{Label}
use Rattle.label.specs.declared.limits.TheConstants.{MAX_LISTED}
use Rattle.strip_model.specs.Join.{Joins, join_gain}
use Rattle.strip_model.specs.Orbit.{Orbit}

-- ---- places in two lists, one after the other

slice_get-first : {X : Type 0} (xs ys : List X) (k : ℕ) → k < length xs → slice_get (xs ++ ys) k ≡ slice_get xs k
slice_get-first [] ys k l = absurd (omega arith)
slice_get-first (x ∷ xs) ys zero l = refl
slice_get-first (x ∷ xs) ys (suc k) l = slice_get-first xs ys k (omega arith)

slice_get-second : {X : Type 0} (xs ys : List X) (k : ℕ) → slice_get (xs ++ ys) (length xs + k) ≡ slice_get ys k
slice_get-second [] ys k = let same : 0 + k ≡ k = omega arith in ap (λ (n : ℕ). slice_get ys n) same
slice_get-second (x ∷ xs) ys k =
    let same : length (x ∷ xs) + k ≡ suc (length xs + k) = omega arith in
    ap (λ (n : ℕ). slice_get (x ∷ xs ++ ys) n) same ∙ slice_get-second xs ys k

-- the root and the labels of the first list keep their places
path_at-first : (xs ys : List Label) (i : ℕ) → i ≤ length xs → path_at (xs ++ ys) i ≡ path_at xs i
path_at-first xs ys zero l = refl
path_at-first xs ys (suc k) l = ap (λ (o : Option Label). path_of o) (slice_get-first xs ys k (omega arith))

-- the labels of the second come after them
path_at-second : (xs ys : List Label) (k : ℕ) → path_at (xs ++ ys) (suc (length xs + k)) ≡ path_at ys (suc k)
path_at-second xs ys k = ap (λ (o : Option Label). path_of o) (slice_get-second xs ys k)

-- a place of the second, and its root
path_at-moved : (xs ys : List Label) (o : Option ℕ) → path_at (xs ++ ys) (place_of (option_map (λ k. length xs + k) o)) ≡ path_at ys (place_of o)
path_at-moved xs ys None = refl
path_at-moved xs ys (Some k) = path_at-second xs ys k

moved_there : (n : ℕ) (o : Option ℕ) (m : ℕ) → place_of o ≤ m → place_of (option_map (λ k. n + k) o) ≤ n + m
moved_there n None m l = omega arith
moved_there n (Some k) m l = omega (arith, l)

moved_back : (n : ℕ) (o : Option ℕ) (k : ℕ) → place_of (option_map (λ k. n + k) o) ≡ suc (n + k) → place_of o ≡ suc k
moved_back n None k e = absurd (omega (arith, e))
moved_back n (Some m) k e = omega (arith, e)

moved_earlier : (n : ℕ) (o : Option ℕ) (k : ℕ) → place_of o ≤ suc k → place_of (option_map (λ k. n + k) o) ≤ suc (n + k)
moved_earlier n None k l = omega arith
moved_earlier n (Some m) k l = omega (arith, l)

-- ---- pairs of both lists

IsPair-first : (J : Orbit) (xs ys bs : List Label) (p : Pair) → IsPair J xs bs p → IsPair J (xs ++ ys) bs p
IsPair-first J xs ys bs p h =
    let same : path_at xs (place_of p.forward) ≡ path_at (xs ++ ys) (place_of p.forward) = sym (path_at-first xs ys (place_of p.forward) h.forward_there) in
    let other = path_at bs (place_of p.backward) in
    record {
      forward_there = further (place_of p.forward) (length xs) (length ys) (length (xs ++ ys)) (length-append xs ys) h.forward_there;
      backward_there = h.backward_there;
      joins = subst (λ (path : List ℕ). Joins J path other) same h.joins;
      gains = subst (λ (path : List ℕ). p.gain ≡ join_gain J path other) same h.gains;
    }
  where
    further : (i m n l : ℕ) → l ≡ m + n → i ≤ m → i ≤ l
    further i m n l e h = omega (arith, e, h)

IsPair-moved : (J : Orbit) (xs ys bs : List Label) (p : Pair) → IsPair J ys bs p → IsPair J (xs ++ ys) bs (moved (length xs) p)
IsPair-moved J xs ys bs p h =
    let same = sym (path_at-moved xs ys p.forward) in
    let other = path_at bs (place_of p.backward) in
    record {
      forward_there = subst (λ (n : ℕ). place_of (moved (length xs) p).forward ≤ n) (sym (length-append xs ys))
          (moved_there (length xs) p.forward (length ys) h.forward_there);
      backward_there = h.backward_there;
      joins = subst (λ (path : List ℕ). Joins J path other) same h.joins;
      gains = subst (λ (path : List ℕ). p.gain ≡ join_gain J path other) same h.gains;
    }

IsNoWorse-moved : (n : ℕ) (p : Pair) (gain k j : ℕ) → IsNoWorse p gain (suc k) j → IsNoWorse (moved n p) gain (suc (n + k)) j
IsNoWorse-moved n p gain k j h = record {
  no_less = h.no_less;
  no_later = λ e. moved_earlier n p.forward k (h.no_later e);
  then_no_later = λ e f. h.then_no_later e (moved_back n p.forward k f);
}

-- ---- what an answer says

pub IsAbove-best : (J : Orbit) (fs bs : List Label) (floor : ℕ) (best : Option Pair) → IsBest J fs bs floor best → IsAbove floor best
IsAbove-best J fs bs floor None h = tt
IsAbove-best J fs bs floor (Some p) h = h.above

IsPair-best : (J : Orbit) (fs bs : List Label) (floor : ℕ) (best : Option Pair) → IsBest J fs bs floor best → IfSome best (IsPair J fs bs)
IsPair-best J fs bs floor None h = tt
IsPair-best J fs bs floor (Some p) h = h.pair

-- all pairs that join are covered
abbrev AreCovered : Orbit → List Label → List Label → ℕ → Option Pair → Type 0
AreCovered J fs bs floor best =
    (i j : ℕ) → i ≤ length fs → j ≤ length bs → Joins J (path_at fs i) (path_at bs j) → Covers floor best (join_gain J (path_at fs i) (path_at bs j)) i j

AreCovered-best : (J : Orbit) (fs bs : List Label) (floor : ℕ) (best : Option Pair) → IsBest J fs bs floor best → AreCovered J fs bs floor best
AreCovered-best J fs bs floor None h i j li lj joins = h i li j lj joins
AreCovered-best J fs bs floor (Some p) h i j li lj joins = h.greatest i j li lj joins

IsBest-covered : (J : Orbit) (fs bs : List Label) (floor : ℕ) (best : Option Pair) → IsAbove floor best → IfSome best (IsPair J fs bs)
    → AreCovered J fs bs floor best → IsBest J fs bs floor best
IsBest-covered J fs bs floor None above pair covered = λ i li j lj joins. covered i j li lj joins
IsBest-covered J fs bs floor (Some p) above pair covered = record { pair = pair; above = above; greatest = covered }

-- what gains no more than the floor is covered
Covers-below : (floor gain i j : ℕ) (best : Option Pair) → IsAbove floor best → gain ≤ floor → Covers floor best gain i j
Covers-below floor gain i j None above l = l
Covers-below floor gain i j (Some p) above l = IsKept-found floor p above gain i j l

-- what is no better than a covered pair is covered
Covers-pair : (floor : ℕ) (best : Option Pair) (q : Pair) (gain i j : ℕ) → Covers floor best q.gain (place_of q.forward) (place_of q.backward)
    → IsNoWorse q gain i j → Covers floor best gain i j
Covers-pair floor None q gain i j h k = le_trans k.no_less h
Covers-pair floor (Some p) q gain i j h k = IsNoWorse-trans p q gain i j h k

-- ---- one list after the other

module _ (J : Orbit) (xs ys bs : List Label) (floor : ℕ) where
  -- the pairs of both lists are those of the first and those of the second's labels
  AreCovered-append : (best : Option Pair) → AreCovered J xs bs floor best
      → ((k j : ℕ) → suc k ≤ length ys → j ≤ length bs → Joins J (path_at ys (suc k)) (path_at bs j)
      → Covers floor best (join_gain J (path_at ys (suc k)) (path_at bs j)) (suc (length xs + k)) j)
      → AreCovered J (xs ++ ys) bs floor best
  AreCovered-append best first second i j li lj joins =
      let other = path_at bs j in
      elim (cases_lt (length xs) i) [
        | inl later ↦
            let k = i - length xs - 1 in
            let at : suc (length xs + k) ≡ i = omega (arith, later) in
            let same : path_at (xs ++ ys) i ≡ path_at ys (suc k) = ap (λ (n : ℕ). path_at (xs ++ ys) n) (sym at) ∙ path_at-second xs ys k in
            subst (λ (n : ℕ). Covers floor best (join_gain J (path_at (xs ++ ys) i) other) n j) at
            (subst (λ (path : List ℕ). Covers floor best (join_gain J path other) (suc (length xs + k)) j) (sym same)
            (second k j (omega (arith, later, li, length-append xs ys)) lj (subst (λ (path : List ℕ). Joins J path other) same joins)))
        | inr earlier ↦
            let same : path_at (xs ++ ys) i ≡ path_at xs i = path_at-first xs ys i earlier in
            subst (λ (path : List ℕ). Covers floor best (join_gain J path other) i j) (sym same)
            (first i j earlier lj (subst (λ (path : List ℕ). Joins J path other) same joins))
      ]

  IsPair-append : (best : Option Pair) → IfSome best (IsPair J xs bs) → IfSome best (IsPair J (xs ++ ys) bs)
  IsPair-append None h = tt
  IsPair-append (Some p) h = IsPair-first J xs ys bs p h

  -- the best of the first list is that of both, where the second has none over the floor
  pub IsBest-none : (best : Option Pair) → IsBest J xs bs floor best → NoneAbove J ys bs floor → IsBest J (xs ++ ys) bs floor best
  IsBest-none best h none =
      let above = IsAbove-best J xs bs floor best h in
      IsBest-covered J (xs ++ ys) bs floor best above (IsPair-append best (IsPair-best J xs bs floor best h))
      (AreCovered-append best (AreCovered-best J xs bs floor best h)
      (λ k j lk lj joins. Covers-below floor (join_gain J (path_at ys (suc k)) (path_at bs j)) (suc (length xs + k)) j best above (none (suc k) lk j lj joins)))

  -- the better of the first list's best and the second's is the best of both
  IsBest-better : (best later : Option Pair) (p : Pair) → IsBest J xs bs floor best → IsGreatest J ys bs floor p → IsAbove floor later
      → IsKept floor best later → Covers floor later p.gain (place_of (moved (length xs) p).forward) (place_of p.backward)
      → (later ≡ best) ⊎ (later ≡ Some (moved (length xs) p)) → IsBest J (xs ++ ys) bs floor later
  IsBest-better best later p h k above kept covers new =
      IsBest-covered J (xs ++ ys) bs floor later above (pair new)
      (AreCovered-append later
      (λ i j li lj joins. kept (join_gain J (path_at xs i) (path_at bs j)) i j (AreCovered-best J xs bs floor best h i j li lj joins))
      (λ i j li lj joins.
      let gain = join_gain J (path_at ys (suc i)) (path_at bs j) in
      Covers-pair floor later (moved (length xs) p) gain (suc (length xs + i)) j covers
      (IsNoWorse-moved (length xs) p gain i j (k.greatest (suc i) j li lj joins))))
    where
      pair : (later ≡ best) ⊎ (later ≡ Some (moved (length xs) p)) → IfSome later (IsPair J (xs ++ ys) bs)
      pair (inl same) = subst (λ (o : Option Pair). IfSome o (IsPair J (xs ++ ys) bs)) (sym same) (IsPair-append best (IsPair-best J xs bs floor best h))
      pair (inr is) = subst (λ (o : Option Pair). IfSome o (IsPair J (xs ++ ys) bs)) (sym is) (IsPair-moved J xs ys bs p k.pair)

  -- the same where the second list's best is counted from the length of the first
  pub IsBest-counted : (best later : Option Pair) (start : ℕ) (p q : Pair) → length xs ≡ start → q ≡ moved start p → IsBest J xs bs floor best
      → IsGreatest J ys bs floor p → IsAbove floor later → IsKept floor best later → Covers floor later q.gain (place_of q.forward) (place_of q.backward)
      → (later ≡ best) ⊎ (later ≡ Some q) → IsBest J (xs ++ ys) bs floor later
  IsBest-counted best later start p q size is h k above kept covers new =
      let here : q ≡ moved (length xs) p = is ∙ ap (λ (n : ℕ). moved n p) (sym size) in
      IsBest-better best later p h k above kept (subst (λ (r : Pair). Covers floor later r.gain (place_of r.forward) (place_of r.backward)) here covers)
      (subst (λ (r : Pair). (later ≡ best) ⊎ (later ≡ Some r)) here new)

-- ---- parts

next_part : (k size : ℕ) → (k + 1) * size ≡ k * size + size
next_part k size = omega arith

-- the labels before a part, and the part
pub take-part : {X : Type 0} (xs : List X) (size k : ℕ) → k * size ≤ length xs → take (k * size) xs ++ slice_chunk xs size k ≡ take ((k + 1) * size) xs
take-part xs size k l =
    let m = k * size in
    sym (take-append-add (take m xs) (drop m xs) size)
    ∙ ap (λ ys. take (length (take m xs) + size) ys) (take-append-drop m xs)
    ∙ ap (λ (n : ℕ). take (n + size) xs) (length-take-le m xs l)
    ∙ ap (λ (n : ℕ). take n xs) (sym (next_part k size))

-- a part of all
pub All-part : {X : Type 0} (P : X → Type 0) (xs : List X) (size start : ℕ) → All P xs → All P (take size (drop start xs))
All-part P xs size start h = All-take P size (drop start xs) (All-drop P start xs h)

-- the parts of what stands behind references
pub map-part : {X Y : Type 0} (f : X → Y) (xs : List X) (size start : ℕ) → map f (take size (drop start xs)) ≡ take size (drop start (map f xs))
map-part f xs size start = sym (take-map f size (drop start xs)) ∙ ap (λ ys. take size ys) (sym (drop-map f start xs))

-- the place of a part's label among all
room_in_part : {X : Type 0} (xs : List X) (size n : ℕ) (o : Option ℕ) → place_of o ≤ length (slice_chunk xs size n) → IfSome o (λ k. n * size + k < length xs)
room_in_part xs size n None l = tt
room_in_part xs size n (Some k) l =
    within k (n * size) (length xs) (length (drop (n * size) xs)) (length (slice_chunk xs size n)) (length-drop (n * size) xs) (shorter size (drop (n * size) xs)) l
  where
    shorter : {X : Type 0} (size : ℕ) (ys : List X) → length (take size ys) ≤ length ys
    shorter size ys = omega (arith, length-take size ys)

    within : (k m n d p : ℕ) → d ≡ n - m → p ≤ d → suc k ≤ p → m + k < n
    within k m n d p e h l = omega (arith, e, h, l)

-- a part's place counted from the first of all has room in its type
pub room_of_part : (J : Orbit) (fs bs : List Label) (floor size n : ℕ) (best : Option Pair) → length fs ≤ MAX_LISTED
    → IsBest J (slice_chunk fs size n) bs floor best → IfSome best (λ p. IfSome p.forward (λ k. n * size + k ≤ MAX_LISTED))
room_of_part J fs bs floor size n None few h = tt
room_of_part J fs bs floor size n (Some p) few h = wider p.forward (room_in_part fs size n p.forward h.pair.forward_there)
  where
    wider : (o : Option ℕ) → IfSome o (λ k. n * size + k < length fs) → IfSome o (λ k. n * size + k ≤ MAX_LISTED)
    wider None h = tt
    wider (Some k) h = omega (arith, few, h)
