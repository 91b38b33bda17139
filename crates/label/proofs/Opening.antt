-- What is open once one more directed strip has come.
use Rattle.std.proofs.Common.{◌≡◌, ◌≢◌, ℕ, ◌+◌, ◌*◌, Bool, true, false, not, ◌||◌, ◌==◌, if◌then◌else◌, List, ◌∷◌, Option, Some, None, Decides, refl, sym, ◌∙◌, ap, subst, inl, inr, true≢false, arith}
use Rattle.std.proofs.lemmas.Bool.{cases_eq, eq-eqb, ne_eqb, or_left, or_right, and_parts, and_from, not-true, not_from_false, false_from_ne_true}
use Rattle.std.proofs.lemmas.Bool.Decides.{same_from_decides}
use Rattle.std.specs.Option.{option_map, option_map_or}
use Rattle.label.specs.Labels.{IsNewIn}
use Rattle.strip_model.proofs.Twins.{AreTwins-partner, twin_at_mutual}
use Rattle.strip_model.proofs.TwinRules.{IsTwinOf-twins_in}
use Rattle.strip_model.proofs.TwinWords.{twin-twins_of}
use Rattle.strip_model.proofs.Words.{has_head, has_tail, has_cons_cases, has_strip-from_has, has-from_has_strip}
use Rattle.strip_model.specs.Directed.{strip_of, direction_of, has, has_strip}
use Rattle.strip_model.specs.IsInstance.{IsInstance}
use Rattle.strip_model.specs.Orbit.{Orbit, twin_at, partner_of}
use Rattle.strip_model.specs.Reach.{lacks_twin, is_open}

-- y stands in the list, and its strip has a twin that doesn't
record IsOpen (J : Orbit) (xs : List ℕ) (y : ℕ) : Type 0 where
  there : has y xs ≡ true
  twin : ℕ
  is : twin_at J (strip_of y) ≡ Some twin
  lacks : has_strip twin xs ≡ false

lacks_twin-parts : (xs : List ℕ) (o : Option ℕ) → option_map_or (λ t. not (has_strip t xs)) o false ≡ true
    → (t : ℕ) × (o ≡ Some t) × (has_strip t xs ≡ false)
lacks_twin-parts xs None h = absurd (true≢false (sym h))
lacks_twin-parts xs (Some t) h = (t, refl, not-true (has_strip t xs) h)

IsOpen-from : (J : Orbit) (xs : List ℕ) (y : ℕ) → is_open J xs y ≡ true → IsOpen J xs y
IsOpen-from J xs y h =
    let parts = and_parts (has y xs) (lacks_twin J xs y) h in
    let twin = lacks_twin-parts xs (twin_at J (strip_of y)) parts.1 in
    record { there = parts.0; twin = twin.0; is = twin.1; lacks = twin.2 }

is_open-from : (J : Orbit) (xs : List ℕ) (y : ℕ) → IsOpen J xs y → is_open J xs y ≡ true
is_open-from J xs y h =
    and_from (has y xs) (lacks_twin J xs y) h.there
    (ap (λ (o : Option ℕ). option_map_or (λ t. not (has_strip t xs)) o false) h.is ∙ not_from_false (has_strip h.twin xs) h.lacks)

-- whether y is open
Decides-is_open : (J : Orbit) (xs : List ℕ) (y : ℕ) → Decides (is_open J xs y) (IsOpen J xs y)
Decides-is_open J xs y = (IsOpen-from J xs y, is_open-from J xs y)

-- a list without its head lacks what the list lacks
lacks-tail : (t x : ℕ) (xs : List ℕ) → has_strip t (x ∷ xs) ≡ false → has_strip t xs ≡ false
lacks-tail t x xs h = false_from_ne_true (has_strip t xs) (λ there. true≢false (sym (or_right (strip_of x == t) (has_strip t xs) there) ∙ h))

-- with a head of another strip it lacks what it lacked
lacks-cons : (t x : ℕ) (xs : List ℕ) → strip_of x ≢ t → has_strip t xs ≡ false → has_strip t (x ∷ xs) ≡ false
lacks-cons t x xs other h = ap (λ (b : Bool). b || has_strip t xs) (ne_eqb (strip_of x) t other) ∙ h

-- what is open behind a new head was open before
IsOpen-before : (J : Orbit) (xs : List ℕ) (x y : ℕ) → y ≢ x → IsOpen J (x ∷ xs) y → IsOpen J xs y
IsOpen-before J xs x y other h = record {
  there = elim (has_cons_cases y x xs h.there) [ inl same ↦ absurd (other same) | inr there ↦ there ];
  twin = h.twin;
  is = h.is;
  lacks = lacks-tail h.twin x xs h.lacks;
}

-- what was open still is, unless the new head is of its twin
IsOpen-still : (J : Orbit) (xs : List ℕ) (x y : ℕ) → twin_at J (strip_of y) ≢ Some (strip_of x) → IsOpen J xs y → IsOpen J (x ∷ xs) y
IsOpen-still J xs x y other h = record {
  there = has_tail y x xs h.there;
  twin = h.twin;
  is = h.is;
  lacks = lacks-cons h.twin x xs (λ same. other (h.is ∙ ap (λ (t : ℕ). Some t) (sym same))) h.lacks;
}

-- a strip that doesn't stand in a list has no directed strip there
absent : (x : ℕ) (xs : List ℕ) → has_strip (strip_of x) xs ≡ false → has x xs ≡ true → ⊥
absent x xs new there = true≢false (sym (has_strip-from_has x xs there) ∙ new)

-- a directed strip of this strip and direction
same_directed : (x y : ℕ) → strip_of x ≡ strip_of y → direction_of x ≡ direction_of y → x ≡ y
same_directed x y strips directions = omega (arith, strips, directions)

some : {a b : ℕ} → Some a ≡ Some b → a ≡ b
some e = cc

-- a strip isn't its own twin
other_strip : (J : Orbit) (i j : ℕ) → IsInstance J → twin_at J i ≡ Some j → j ≢ i
other_strip J i j inst twin = (IsTwinOf-twins_in J.strips i j inst.twins (twin-twins_of J i ∙ twin)).other

-- Of a strip without a twin, nothing changes.
pub open_alone : (J : Orbit) (xs lone : List ℕ) (x : ℕ) → IsInstance J → IsNewIn J xs x → ((y : ℕ) → has y lone ≡ is_open J xs y)
    → partner_of J x ≡ None → (y : ℕ) → has y lone ≡ is_open J (x ∷ xs) y
open_alone J xs lone x inst is_new opens alone y =
    opens y ∙ same_from_decides (is_open J xs y) (is_open J (x ∷ xs) y) (Decides-is_open J xs y) (
      λ h. IsOpen-before J xs x y (λ same. no_twin (IsOpen-from J (x ∷ xs) y h).twin
          (ap (λ (z : ℕ). twin_at J (strip_of z)) (sym same) ∙ (IsOpen-from J (x ∷ xs) y h).is)) (IsOpen-from J (x ∷ xs) y h),
      λ h. is_open-from J (x ∷ xs) y (IsOpen-still J xs x y (λ twin. no_twin (strip_of y) (twin_at_mutual J (strip_of y) (strip_of x) inst twin)) h),
    )
  where
    none : {t : ℕ} → Some t ≡ None → ⊥
    none e = cc

    no_twin : (t : ℕ) → twin_at J (strip_of x) ≡ Some t → ⊥
    no_twin t twin = none (sym (ap (λ (o : Option ℕ). option_map (λ (z : ℕ). 2 * z + direction_of x) o) twin) ∙ alone)

-- Where its twin is there, both stand together now: the twin is no longer open.
pub open_paired : (J : Orbit) (xs lone : List ℕ) (x p : ℕ) → IsInstance J → IsNewIn J xs x → ((y : ℕ) → has y lone ≡ is_open J xs y)
    → partner_of J x ≡ Some p → has p xs ≡ true → (y : ℕ) → (if y == p then false else has y lone) ≡ is_open J (x ∷ xs) y
open_paired J xs lone x p inst is_new opens partner there y =
    elim (cases_eq y p) [
      | inl same ↦
          ap (λ (b : Bool). if b then false else has y lone) (eq-eqb y p same)
          ∙ sym (false_from_ne_true (is_open J (x ∷ xs) y) (λ h. not_partner (subst (λ (z : ℕ). IsOpen J (x ∷ xs) z) same (IsOpen-from J (x ∷ xs) y h))))
      | inr other ↦
          ap (λ (b : Bool). if b then false else has y lone) (ne_eqb y p other)
          ∙ opens y
          ∙ same_from_decides (is_open J xs y) (is_open J (x ∷ xs) y) (Decides-is_open J xs y) (
            λ h. IsOpen-before J xs x y (λ same. not_new (subst (λ (z : ℕ). IsOpen J (x ∷ xs) z) same (IsOpen-from J (x ∷ xs) y h))) (IsOpen-from J (x ∷ xs) y h),
            λ h. is_open-from J (x ∷ xs) y (IsOpen-still J xs x y (λ twin. other (is_partner y h.there (twin_at_mutual J (strip_of y) (strip_of x) inst twin))) h),
          )
    ]
  where
    is_partner : (y : ℕ) → has y xs ≡ true → twin_at J (strip_of x) ≡ Some (strip_of y) → y ≡ p
    is_partner y there twin =
        let twins = AreTwins-partner J x p partner in
        same_directed y p (some (sym twin ∙ twins.twins)) (is_new.agrees y there twin ∙ sym twins.one_way)

    not_partner : IsOpen J (x ∷ xs) p → ⊥
    not_partner h =
        let back = twin_at_mutual J (strip_of x) (strip_of p) inst (AreTwins-partner J x p partner).twins in
        let twin = some (sym h.is ∙ back) in
        true≢false (sym (or_left (strip_of x == h.twin) (has_strip h.twin xs) (eq-eqb (strip_of x) h.twin (sym twin))) ∙ h.lacks)

    not_new : IsOpen J (x ∷ xs) x → ⊥
    not_new h =
        let twin = some (sym h.is ∙ (AreTwins-partner J x p partner).twins) in
        absent p xs (ap (λ (t : ℕ). has_strip t xs) (sym twin) ∙ lacks-tail h.twin x xs h.lacks) there

-- Where its twin isn't there, it is open now.
pub open_first : (J : Orbit) (xs lone : List ℕ) (x p : ℕ) → IsInstance J → IsNewIn J xs x → ((y : ℕ) → has y lone ≡ is_open J xs y)
    → partner_of J x ≡ Some p → has p xs ≡ false → (y : ℕ) → (if y == x then true else has y lone) ≡ is_open J (x ∷ xs) y
open_first J xs lone x p inst is_new opens partner lacks y =
    elim (cases_eq y x) [
      | inl same ↦
          ap (λ (b : Bool). if b then true else has y lone) (eq-eqb y x same)
          ∙ sym (is_open-from J (x ∷ xs) y (subst (λ (z : ℕ). IsOpen J (x ∷ xs) z) (sym same) itself))
      | inr other ↦
          ap (λ (b : Bool). if b then true else has y lone) (ne_eqb y x other)
          ∙ opens y
          ∙ same_from_decides (is_open J xs y) (is_open J (x ∷ xs) y) (Decides-is_open J xs y) (
            λ h. IsOpen-before J xs x y other (IsOpen-from J (x ∷ xs) y h),
            λ h. is_open-from J (x ∷ xs) y (IsOpen-still J xs x y (λ twin. no_twin_there y h.there (twin_at_mutual J (strip_of y) (strip_of x) inst twin)) h),
          )
    ]
  where
    no_twin_there : (y : ℕ) → has y xs ≡ true → twin_at J (strip_of x) ≡ Some (strip_of y) → ⊥
    no_twin_there y there twin =
        let twins = AreTwins-partner J x p partner in
        let is = same_directed y p (some (sym twin ∙ twins.twins)) (is_new.agrees y there twin ∙ sym twins.one_way) in
        true≢false (sym (ap (λ (z : ℕ). has z xs) (sym is) ∙ there) ∙ lacks)

    no_strip_there : has_strip (strip_of p) xs ≡ true → ⊥
    no_strip_there there =
        let found = has-from_has_strip (strip_of p) xs there in
        no_twin_there found.0 found.1 ((AreTwins-partner J x p partner).twins ∙ ap (λ (t : ℕ). Some t) (sym found.2))

    itself : IsOpen J (x ∷ xs) x
    itself = record {
      there = has_head x xs;
      twin = strip_of p;
      is = (AreTwins-partner J x p partner).twins;
      lacks =
          lacks-cons (strip_of p) x xs (λ same. other_strip J (strip_of x) (strip_of p) inst (AreTwins-partner J x p partner).twins (sym same))
          (false_from_ne_true (has_strip (strip_of p) xs) no_strip_there);
    }
