-- The twin rule of a list in full: of twins both are acquired or neither, and in one direction.
use Rattle.std.proofs.Common.{◌≡◌, ℕ, ◌+◌, ◌*◌, ◌<◌, Bool, true, false, List, length, Some, None, Option, IfSome, option_map, refl, sym, ◌∙◌, ap, subst, inl, inr, arith}
use Rattle.std.proofs.lemmas.Bool.{cases_lt}
use Rattle.std.specs.Option.{option_map_or}
use Rattle.std.proofs.lemmas.List.{get_or_past}
use Rattle.strip_model.proofs.Words.{has_strip-from_has, has-from_has_strip, same_from_strip}
use Rattle.strip_model.specs.Directed.{strip_of, direction_of, has, has_strip}
use Rattle.strip_model.specs.IsInstance.{IsInstance, IsTwinOf}
use Rattle.strip_model.specs.Orbit.{Orbit, no_strip, twin_at, partner_of}
use Rattle.strip_model.specs.Plan.{StripsDistinct, KeepsTwinsTogether}
use Rattle.strip_model.specs.Twins.{HasTwinsOneWay, KeepsTwinRule, keeps_twin}
use Rattle.strip_model.specs.declared.strip.Strip.{Strip}

-- the twin of a strip in the list stands in it in the same direction
pub KeepsTwinsTogether-twin : (J : Orbit) (xs : List ℕ) → KeepsTwinsTogether J xs
    → (x t : ℕ) → has x xs ≡ true → twin_at J (strip_of x) ≡ Some t → has (2 * t + direction_of x) xs ≡ true
KeepsTwinsTogether-twin J xs h x t there twin =
    h x (2 * t + direction_of x) there (ap (λ (o : Option ℕ). option_map (λ (twin : ℕ). 2 * twin + direction_of x) o) twin)

-- the twin of a strip in the list stands in it in no other direction
pub KeepsTwinsTogether-direction : (J : Orbit) (xs : List ℕ) → StripsDistinct xs → KeepsTwinsTogether J xs
    → (x t : ℕ) → has x xs ≡ true → twin_at J (strip_of x) ≡ Some t
    → (y : ℕ) → has y xs ≡ true → strip_of y ≡ t → direction_of y ≡ direction_of x
KeepsTwinsTogether-direction J xs d h x t there twin y also e =
    let z = 2 * t + direction_of x in
    let half : strip_of z ≡ t = omega arith in
    let odd : direction_of z ≡ direction_of x = omega arith in
    ap (λ (k : ℕ). direction_of k) (same_from_strip xs y z d also (KeepsTwinsTogether-twin J xs h x t there twin) (e ∙ sym half)) ∙ odd

-- the twin rule in full for a strip of the list
pub KeepsTwinsTogether-in_full : (J : Orbit) (xs : List ℕ) → StripsDistinct xs → KeepsTwinsTogether J xs
    → (x t : ℕ) → has x xs ≡ true → twin_at J (strip_of x) ≡ Some t
    → (has (2 * t + direction_of x) xs ≡ true) × ((y : ℕ) → has y xs ≡ true → strip_of y ≡ t → direction_of y ≡ direction_of x)
KeepsTwinsTogether-in_full J xs d h x t there twin =
    (KeepsTwinsTogether-twin J xs h x t there twin, KeepsTwinsTogether-direction J xs d h x t there twin)

-- the twin of a strip's twin is the strip
pub twin_at_mutual : (J : Orbit) (i t : ℕ) → IsInstance J → twin_at J i ≡ Some t → twin_at J t ≡ Some i
twin_at_mutual J i t h twin =
    elim (cases_lt i (length J.strips)) [
      | inl there ↦ (subst (λ (o : Option ℕ). IfSome o (IsTwinOf J.strips i)) twin (h.twins i there)).in_turn
      | inr past ↦ absurd (none (ap (λ (s : Strip). s.twin) (sym (get_or_past J.strips i no_strip past)) ∙ twin))
    ]
  where
    none : {t : ℕ} → None ≡ Some t → ⊥
    none e = cc

-- where a strip of the list has a twin, the twin stands in the list
has_strip-twin : (J : Orbit) (xs : List ℕ) → KeepsTwinsTogether J xs → (i t : ℕ) → twin_at J i ≡ Some t → has_strip i xs ≡ true → has_strip t xs ≡ true
has_strip-twin J xs h i t twin there =
    let found = has-from_has_strip i xs there in
    let x = found.0 in
    let z = 2 * t + direction_of x in
    let half : strip_of z ≡ t = omega arith in
    subst (λ (j : ℕ). has_strip j xs ≡ true) half
    (has_strip-from_has z xs (KeepsTwinsTogether-twin J xs h x t found.1 (ap (λ (j : ℕ). twin_at J j) found.2 ∙ twin)))

-- of twins both are in the list or neither
pub has_strip_both_twins : (J : Orbit) (xs : List ℕ) → IsInstance J → KeepsTwinsTogether J xs → (i t : ℕ) → twin_at J i ≡ Some t → has_strip i xs ≡ has_strip t xs
has_strip_both_twins J xs inst h i t twin =
    same (has_strip i xs) (has_strip t xs) (has_strip-twin J xs h i t twin) (has_strip-twin J xs h t i (twin_at_mutual J i t inst twin))
  where
    same : (a b : Bool) → (a ≡ true → b ≡ true) → (b ≡ true → a ≡ true) → a ≡ b
    same true b f g = sym (f refl)
    same false true f g = g refl
    same false false f g = refl

-- the strip of y is the twin of the strip of x, and both have one direction
pub record AreTwins (J : Orbit) (x y : ℕ) : Type 0 where
  pub twins : twin_at J (strip_of x) ≡ Some (strip_of y)
  pub one_way : direction_of y ≡ direction_of x

-- the partner of a directed strip is of its strip's twin, in its direction
pub AreTwins-partner : (J : Orbit) (x y : ℕ) → partner_of J x ≡ Some y → AreTwins J x y
AreTwins-partner J x y h = let p = parts (twin_at J (strip_of x)) (direction_of x) y (omega arith) h in record { twins = p.0; one_way = p.1 }
  where
    some : (a b : ℕ) → Some a ≡ Some b → a ≡ b
    some a b e = cc

    none : (b : ℕ) → None ≡ Some b → ⊥
    none b e = cc

    parts : (o : Option ℕ) (d y : ℕ) → d < 2 → option_map (λ t. 2 * t + d) o ≡ Some y → (o ≡ Some (strip_of y)) × (direction_of y ≡ d)
    parts None d y l e = absurd (none y e)
    parts (Some t) d y l e =
        let is = some (2 * t + d) y e in
        let half : t ≡ strip_of y = omega (arith, is, l) in
        (ap (λ (i : ℕ). Some i) half, omega (arith, is, l))

-- a directed strip of a strip's twin, in the strip's direction, is its partner
pub partner_of-from_AreTwins : (J : Orbit) (x y : ℕ) → AreTwins J x y → partner_of J x ≡ Some y
partner_of-from_AreTwins J x y h =
    ap (λ (o : Option ℕ). option_map (λ (twin : ℕ). 2 * twin + direction_of x) o) h.twins
    ∙ ap (λ (z : ℕ). Some z) (number (strip_of y) (direction_of x) y refl h.one_way)
  where
    number : (i d y : ℕ) → strip_of y ≡ i → direction_of y ≡ d → 2 * i + d ≡ y
    number i d y half odd = omega (arith, half, odd)

-- the partner of a directed strip's partner is the directed strip
pub partner_of_mutual : (J : Orbit) (x y : ℕ) → IsInstance J → partner_of J x ≡ Some y → partner_of J y ≡ Some x
partner_of_mutual J x y h partner =
    let twins = AreTwins-partner J x y partner in
    partner_of-from_AreTwins J y x (record {
      twins = twin_at_mutual J (strip_of x) (strip_of y) h twins.twins;
      one_way = sym twins.one_way;
    })

-- where twins in the list have one direction, a strip of it that is a twin of another stands in it as that one's partner
pub partner_of-one_way : (J : Orbit) (xs : List ℕ) → HasTwinsOneWay J xs → (x y z : ℕ) → has x xs ≡ true → has y xs ≡ true
    → partner_of J x ≡ Some z → strip_of y ≡ strip_of z → y ≡ z
partner_of-one_way J xs way x y z hx hy partner same =
    let twins = AreTwins-partner J x z partner in
    let odd = way x y hx hy (twins.twins ∙ ap (λ (i : ℕ). Some i) (sym same)) in
    one y z same (odd ∙ sym twins.one_way)
  where
    one : (y z : ℕ) → strip_of y ≡ strip_of z → direction_of y ≡ direction_of z → y ≡ z
    one y z half odd = omega (arith, half, odd)

-- where twins come together, each directed strip of the list has its twin
pub keeps_twin-from_together : (J : Orbit) (xs : List ℕ) (x : ℕ) → KeepsTwinsTogether J xs → has x xs ≡ true → keeps_twin J xs x ≡ true
keeps_twin-from_together J xs x h there = kept (partner_of J x) (λ y e. h x y there e)
  where
    kept : (o : Option ℕ) → ((y : ℕ) → o ≡ Some y → has y xs ≡ true) → option_map_or (λ y. has y xs) o true ≡ true
    kept None f = refl
    kept (Some y) f = f y refl

-- where each directed strip of the list has its twin, twins come together
pub KeepsTwinsTogether-from_each : (J : Orbit) (xs : List ℕ) → ((x : ℕ) → has x xs ≡ true → keeps_twin J xs x ≡ true) → KeepsTwinsTogether J xs
KeepsTwinsTogether-from_each J xs each x y there partner =
    subst (λ (o : Option ℕ). option_map_or (λ y. has y xs) o true ≡ true) partner (each x there)

-- where each directed strip comes with its twin, of two twins both are there or neither, and they have one direction
pub KeepsTwinRule-from_together : (J : Orbit) (xs : List ℕ) → IsInstance J → StripsDistinct xs → KeepsTwinsTogether J xs → KeepsTwinRule J xs
KeepsTwinRule-from_together J xs inst d h = record {
  both = λ i j twin. has_strip_both_twins J xs inst h i j twin;
  one_way = λ x y hx hy twin. KeepsTwinsTogether-direction J xs d h x (strip_of y) hx twin y hy refl;
}

-- and the way back
pub KeepsTwinsTogether-from_rule : (J : Orbit) (xs : List ℕ) → KeepsTwinRule J xs → KeepsTwinsTogether J xs
KeepsTwinsTogether-from_rule J xs h x y there partner =
    let twins = AreTwins-partner J x y partner in
    let found = has-from_has_strip (strip_of y) xs (sym (h.both (strip_of x) (strip_of y) twins.twins) ∙ has_strip-from_has x xs there) in
    let same = partner_of-one_way J xs h.one_way x found.0 y there found.1 partner found.2 in
    subst (λ (z : ℕ). has z xs ≡ true) same found.1
