-- The walk down the ranking.
use Rattle.std.proofs.Common.{◌≡◌, ℕ, ◌+◌, ◌-◌, ◌<◌, ◌≤◌, List, All, Option, Some, length, get_or, slice_get, sym, ap, subst, inl, inr, le_trans, arith}
use Rattle.std.proofs.lemmas.Bool.{cases_lt}
use Rattle.std.proofs.lemmas.Option.{get_or_from_slice_get, slice_get_within}
use Rattle.std.specs.List.Sorted.{IsNonDecreasingBy}
use Rattle.joiner.proofs.Looking.{All-at, one_at, Covered-kept}
use Rattle.joiner.specs.Entries.{root, IsAmong, Covered, IsNewOf}
use Rattle.joiner.specs.Offers.{Covers, IsKept}
use Rattle.joiner.specs.Pairs.{place_of}
use Rattle.joiner.specs.Represented.{IsFirst}
use Rattle.joiner.specs.Tips.{meet_gain}
use Rattle.joiner.specs.Walks.{IsBounding, IsFoundIn}
use Rattle.joiner.specs.declared.entry.Entry.{Entry}
use Rattle.joiner.specs.declared.group.Group.{Group}
use Rattle.joiner.specs.declared.pair.Pair.{Pair}
use Rattle.joiner.specs.declared.ranked.Ranked.{Ranked}
use Rattle.strip_model.specs.Orbit.{Orbit}

-- a look of one of the first finds a pair of the two
pub IsFoundIn-look : (J : Orbit) (first second : Entry → Type 0) (f : Entry) (before later : Option Pair) → first f → IsFoundIn J first second before
    → IsNewOf J f second before later → IsFoundIn J first second later
IsFoundIn-look J first second f before later of h (inl same) = subst (λ (o : Option Pair). IsFoundIn J first second o) (sym same) h
IsFoundIn-look J first second f before later of h (inr found) =
    subst (λ (o : Option Pair). IsFoundIn J first second o) (sym found.3) (f, found.0, of, found.2, found.4)

-- what is ranked no higher than a settled bound is covered
pub Covered-bounded : (J : Orbit) (floor : ℕ) (best : Option Pair) (groups : List Group) (order : List Ranked) (m n : ℕ) (r s : Ranked) (w : Entry)
    → IsNonDecreasingBy (λ r. r.bound) order → slice_get order m ≡ Some r → slice_get order n ≡ Some s → m ≤ n → IsBounding J groups r
    → IsAmong groups w → ((gain i j : ℕ) → gain ≤ s.bound → Covers floor best gain i j) → Covered J floor best r.entry w
Covered-bounded J floor best groups order m n r s w rising at also earlier bounding among settled meets =
    settled (meet_gain J r.entry.tip w.tip) (place_of r.entry.place) (place_of w.place)
    (le_trans (bounding w among meets)
    (along r.bound (get_or order m r).bound (get_or order n r).bound s.bound
    (ap (λ (x : Ranked). x.bound) (get_or_from_slice_get order m r r at)) (ap (λ (x : Ranked). x.bound) (get_or_from_slice_get order n s r also))
    (rising m n r earlier (slice_get_within order n s also))))
  where
    along : (a b c d : ℕ) → b ≡ a → c ≡ d → b ≤ c → a ≤ d
    along a b c d e f h = omega arith

-- what was looked at so far, from the end of the ranking
abbrev pub CoveredFrom : Orbit → ℕ → List Group → List Ranked → ℕ → Option Pair → Type 0
CoveredFrom J floor groups order k best =
    (m : ℕ) (r : Ranked) (w : Entry) → length order ≤ m + k → slice_get order m ≡ Some r → IsAmong groups w → Covered J floor best r.entry w

-- one more was looked at
pub CoveredFrom-more : (J : Orbit) (floor : ℕ) (groups : List Group) (order : List Ranked) (k : ℕ) (before later : Option Pair) (s : Ranked)
    → k < length order → slice_get order (length order - 1 - k) ≡ Some s → IsKept floor before later → CoveredFrom J floor groups order k before
    → ((w : Entry) → IsAmong groups w → Covered J floor later s.entry w) → CoveredFrom J floor groups order (k + 1) later
CoveredFrom-more J floor groups order k before later s within at kept so_far here m r w past there among =
    elim (cases_lt (m + k) (length order)) [
      | inl next ↦
          let same : s ≡ r = one_at order m (length order - 1 - k) r s (omega (arith, past, next, within)) there at in
          subst (λ (x : Ranked). Covered J floor later x.entry w) same (here w among)
      | inr earlier ↦ Covered-kept J floor before later r.entry w kept (so_far m r w earlier there among)
    ]

-- where the bound at hand is settled, all is covered
pub Covered-all : (J : Orbit) (floor : ℕ) (best : Option Pair) (groups : List Group) (order : List Ranked) (k : ℕ) (s : Ranked) → k < length order
    → slice_get order (length order - 1 - k) ≡ Some s → IsNonDecreasingBy (λ r. r.bound) order → All (IsBounding J groups) order
    → CoveredFrom J floor groups order k best → ((gain i j : ℕ) → gain ≤ s.bound → Covers floor best gain i j)
    → (m : ℕ) (r : Ranked) (w : Entry) → slice_get order m ≡ Some r → IsAmong groups w → Covered J floor best r.entry w
Covered-all J floor best groups order k s within at rising bounding so_far settled m r w there among =
    elim (cases_lt (m + k) (length order)) [
      | inl left ↦ Covered-bounded J floor best groups order m (length order - 1 - k) r s w rising there at (omega (arith, left, within))
          (All-at (IsBounding J groups) order m r bounding there) among settled
      | inr earlier ↦ so_far m r w earlier there among
    ]

-- the root and each label of the ranking
pub Covered-first : (J : Orbit) (floor : ℕ) (best : Option Pair) (groups : List Group) (order : List Ranked)
    → ((w : Entry) → IsAmong groups w → Covered J floor best root w)
    → ((m : ℕ) (r : Ranked) (w : Entry) → slice_get order m ≡ Some r → IsAmong groups w → Covered J floor best r.entry w)
    → (f w : Entry) → IsFirst order f → IsAmong groups w → Covered J floor best f w
Covered-first J floor best groups order at_root ranked f w (inl is) among =
    subst (λ (e : Entry). Covered J floor best e w) (sym is) (at_root w among)
Covered-first J floor best groups order at_root ranked f w (inr h) among =
    subst (λ (e : Entry). Covered J floor best e w) h.3 (ranked h.0 h.1 w h.2 among)
