-- The test for label paths tells exactly what a label path is.
use Rattle.std.proofs.Common.{◌≡◌, ◌≢◌, ℕ, suc, ◌+◌, ◌<◌, ◌≤◌, Bool, true, false, not, ◌&&◌, ◌||◌, ◌==◌, nat_lt, nat_le, List, [], ◌∷◌, length, Option, Some, None, Decides, refl, sym, ap, subst, inl, inr, true≢false, arith}
use Rattle.std.proofs.lemmas.Bool.{not-true, not_from_false, leb-true, le-leb, or_cases, or_left, or_right, eqb-true, eqb-false, eq-eqb, ne_eqb, cases_eq}
use Rattle.std.proofs.lemmas.Bool.Decides.{Decides-ltb, Decides-and, Decides-like}
use Rattle.std.specs.List.{AllByRecursion, list_all}
use Rattle.std.specs.Option.{option_map_or}
use Rattle.strip_model.proofs.Words.{has_head, has_tail, has_cons_cases}
use Rattle.strip_model.specs.Directed.{strip_of, direction_of, has, has_strip}
use Rattle.strip_model.specs.LabelPath.{LabelPath}
use Rattle.strip_model.specs.Orbit.{Orbit, late_at, duration_at, twin_at}
use Rattle.strip_model.specs.PathCount.{are_distinct, fit, agree, is_within_cap, is_label_path}
use Rattle.strip_model.specs.Plan.{StripsDistinct}
use Rattle.strip_model.specs.Side.{Face, IsWithinCap}
use Rattle.strip_model.specs.Starts.{Place, Root, After, arrive, Fits, place_after}
use Rattle.strip_model.specs.Twins.{HasTwinsOneWay}
use Rattle.strip_model.specs.declared.end.End.{End}
use Rattle.strip_model.specs.declared.end.End.TheVariants.{Forward, Backward}

Decides-leb : (a b : ℕ) → Decides (nat_le a b) (a ≤ b)
Decides-leb a b = (leb-true a b, le-leb a b)

Decides-lacks : (b : Bool) → Decides (not b) (b ≡ false)
Decides-lacks b = (not-true b, not_from_false b)

Decides-some : (path : List ℕ) → Decides (not (length path == 0)) (path ≢ [])
Decides-some [] = (λ t e. true≢false (sym t), λ some. absurd (some refl))
Decides-some (x ∷ path) = (λ t e. differ e, λ some. not_from_false (length (x ∷ path) == 0) (ne_eqb (suc (length path)) 0 (λ e. absurd (omega arith))))
  where
    differ : {x : ℕ} {path : List ℕ} → x ∷ path ≡ [] → ⊥
    differ e = cc

-- a test of each element
Decides-each : (p : ℕ → Bool) (P : ℕ → Type 0) → ((x : ℕ) → Decides (p x) (P x)) → (xs : List ℕ) → Decides (list_all p xs) (AllByRecursion P xs)
Decides-each p P each [] = (λ t. tt, λ h. refl)
Decides-each p P each (x ∷ xs) = Decides-and (p x) (list_all p xs) (each x) (Decides-each p P each xs)

-- the same, by what stands in the list
Decides-members : (p : ℕ → Bool) (P : ℕ → Type 0) → ((x : ℕ) → Decides (p x) (P x)) → (xs : List ℕ)
    → Decides (list_all p xs) ((x : ℕ) → has x xs ≡ true → P x)
Decides-members p P each [] = (λ t x there. absurd (true≢false (sym there)), λ h. refl)
Decides-members p P each (y ∷ ys) =
    Decides-like (p y && list_all p ys)
    (λ h x there. elim (has_cons_cases x y ys there) [ inl same ↦ subst P (sym same) h.0 | inr later ↦ h.1 x later ])
    (λ h. (h y (has_head y ys), λ x there. h x (has_tail x y ys there)))
    (Decides-and (p y) (list_all p ys) (each y) (Decides-members p P each ys))

Decides-are_distinct : (xs : List ℕ) → Decides (are_distinct xs) (StripsDistinct xs)
Decides-are_distinct [] = (λ t. tt, λ h. refl)
Decides-are_distinct (x ∷ xs) =
    Decides-and (not (has_strip (strip_of x) xs)) (are_distinct xs) (Decides-lacks (has_strip (strip_of x) xs)) (Decides-are_distinct xs)

Decides-fit : (J : Orbit) (q : Place) (xs : List ℕ) → Decides (fit J q xs) (Fits J q xs)
Decides-fit J q [] = (λ t. tt, λ h. refl)
Decides-fit J q (y ∷ ys) =
    Decides-and (nat_le (arrive J q y) (late_at J y)) (fit J (After (arrive J q y) y) ys)
    (Decides-leb (arrive J q y) (late_at J y)) (Decides-fit J (After (arrive J q y) y) ys)

-- the two have one direction, if the second is of the first one's twin
Decides-agree : (J : Orbit) (x y : ℕ) → Decides (agree J x y) (twin_at J (strip_of x) ≡ Some (strip_of y) → direction_of y ≡ direction_of x)
Decides-agree J x y = by_twin (twin_at J (strip_of x)) (strip_of y) (direction_of y) (direction_of x)
  where
    by_twin : (twin : Option ℕ) (s d e : ℕ) → Decides (option_map_or (λ t. not (t == s) || d == e) twin true) (twin ≡ Some s → d ≡ e)
    by_twin None s d e = (λ t is. absurd (none is), λ h. refl)
      where
        none : {s : ℕ} → None ≡ Some s → ⊥
        none e = cc
    by_twin (Some t) s d e = (
      λ h is. elim (or_cases (not (t == s)) (d == e) h) [
        | inl other ↦ absurd (eqb-false t s (not-true (t == s) other) (same is))
        | inr one ↦ eqb-true d e one
      ],
      λ h. elim (cases_eq t s) [
        | inl is ↦ or_right (not (t == s)) (d == e) (eq-eqb d e (h (ap Some is)))
        | inr other ↦ or_left (not (t == s)) (d == e) (not_from_false (t == s) (ne_eqb t s other))
      ],
    )
      where
        same : {t s : ℕ} → Some t ≡ Some s → t ≡ s
        same is = cc

Decides-is_within_cap : (e : End) (S : Face) (q : Place) → Decides (is_within_cap e S q) (IsWithinCap e S q)
Decides-is_within_cap e S Root = (λ t. tt, λ h. refl)
Decides-is_within_cap Forward S (After s x) = Decides-leb s S.cut
Decides-is_within_cap Backward S (After s x) = Decides-ltb (s + duration_at S.instance x + S.cut) S.horizon

-- x's twin, where it stands in the path, has the direction of x
abbrev HasTwinOneWay : Orbit → List ℕ → ℕ → Type 0
HasTwinOneWay J path x = (y : ℕ) → has y path ≡ true → twin_at J (strip_of x) ≡ Some (strip_of y) → direction_of y ≡ direction_of x

-- the test of directions
Decides-agreed : (J : Orbit) (path : List ℕ) → Decides (list_all (λ x. list_all (agree J x) path) path) (HasTwinsOneWay J path)
Decides-agreed J path =
    let each : (x : ℕ) → Decides (list_all (agree J x) path) (HasTwinOneWay J path x) = λ x.
    Decides-members (agree J x) (λ y. twin_at J (strip_of x) ≡ Some (strip_of y) → direction_of y ≡ direction_of x) (Decides-agree J x) path in
    Decides-like (list_all (λ x. list_all (agree J x) path) path)
    (λ h x y x_there y_there. h x x_there y y_there) (λ h x x_there y y_there. h x y x_there y_there)
    (Decides-members (λ x. list_all (agree J x) path) (HasTwinOneWay J path) each path)

-- the test is true exactly of label paths
pub Decides-is_label_path : (S : Face) (path : List ℕ) → Decides (is_label_path S path) (LabelPath S path)
unfolding is_label_path
Decides-is_label_path S path =
    let J = S.instance in
    let some = not (length path == 0) in
    let exist = list_all (λ x. nat_lt (strip_of x) (length J.strips)) path in
    let agreed = list_all (λ x. list_all (agree J x) path) path in
    let cap = is_within_cap S.end S (place_after J Root path) in
    let two = Decides-and some exist (Decides-some path)
    (Decides-each (λ x. nat_lt (strip_of x) (length J.strips)) (λ x. strip_of x < length J.strips)
    (λ x. Decides-ltb (strip_of x) (length J.strips)) path) in
    let three = Decides-and (some && exist) (are_distinct path) two (Decides-are_distinct path) in
    let four = Decides-and (some && exist && are_distinct path) (fit J Root path) three (Decides-fit J Root path) in
    let five = Decides-and (some && exist && are_distinct path && fit J Root path) agreed four (Decides-agreed J path) in
    let all = Decides-and (some && exist && are_distinct path && fit J Root path && agreed) cap five
    (Decides-is_within_cap S.end S (place_after J Root path)) in
    Decides-like (some && exist && are_distinct path && fit J Root path && agreed && cap)
    (λ h. record {
      some = h.0.0.0.0.0;
      in_time = record { exist = h.0.0.0.0.1; distinct = h.0.0.0.1; fits = h.0.0.1 };
      one_way = h.0.1;
      cap = h.1;
    })
    (λ h. (((((h.some, h.in_time.exist), h.in_time.distinct), h.in_time.fits), h.one_way), h.cap))
    all
