-- What crates that use a twin map cite of its words.
use Rattle.std.proofs.Common.{◌≡◌, ℕ, ◌+◌, ◌*◌, ◌/◌, ◌%◌, ◌<◌, false, not, ◌&&◌, ◌||◌, List, [], ◌∷◌, Option, Some, None, Decides, refl, sym, ap, ap₂, ◌∙◌, arith, ◌==◌}
use Rattle.std.specs.Option.{option_map, option_map_or}
use Rattle.std.proofs.lemmas.Bool.{eqb-true, eq-eqb, false≢true}
use Rattle.std.proofs.lemmas.Bool.Decides.{Decides-like, same_from_decides}
use Rattle.std.proofs.lemmas.Option.{same_Some, none-some}
use Rattle.strip_set.specs.Members.{has, has_strip}
use Rattle.strip_set.proofs.Members.{has_strip-directions}
use Rattle.stereo_twins.specs.Twins.{twin, partner, IsSound, Admits, lacks_twin, is_open, is_need}

-- the partner of x is the twin of its strip in its direction
pub record IsPartner (twins : List (Option ℕ)) (x y : ℕ) : Type 0 where
  pub strips : twin twins (x / 2) ≡ Some (y / 2)
  pub direction : y % 2 ≡ x % 2

parts_of : (o : Option ℕ) (direction y : ℕ) → direction < 2 → option_map (λ i. 2 * i + direction) o ≡ Some y → (o ≡ Some (y / 2)) × (y % 2 ≡ direction)
parts_of None direction y small at = absurd (none-some y at)
parts_of (Some i) direction y small at =
    let whole : 2 * i + direction ≡ y = same_Some (2 * i + direction) y at in
    (ap Some (omega arith), omega arith)

pub IsPartner-partner : (twins : List (Option ℕ)) (x y : ℕ) → partner twins x ≡ Some y → IsPartner twins x y
IsPartner-partner twins x y at =
    let parts = parts_of (twin twins (x / 2)) (x % 2) y (omega arith) at in
    record { strips = parts.0; direction = parts.1 }

pub partner-IsPartner : (twins : List (Option ℕ)) (x y : ℕ) → IsPartner twins x y → partner twins x ≡ Some y
partner-IsPartner twins x y pair =
    let whole : 2 * (y / 2) + x % 2 ≡ y = omega (arith, pair.direction) in
    ap (option_map (λ i. 2 * i + x % 2)) pair.strips ∙ ap Some whole

-- x is the partner of its partner
pub partner-returns : (twins : List (Option ℕ)) → IsSound twins → (x y : ℕ) → partner twins x ≡ Some y → partner twins y ≡ Some x
partner-returns twins sound x y at =
    let pair = IsPartner-partner twins x y at in
    partner-IsPartner twins y x record { strips = sound.returns (x / 2) (y / 2) pair.strips; direction = sym pair.direction }

Some_decides : (o : Option ℕ) (y : ℕ) → Decides (option_map_or (λ z. z == y) o false) (o ≡ Some y)
Some_decides None y = (λ e. absurd (false≢true e), λ e. absurd (none-some y e))
Some_decides (Some z) y = (λ e. ap Some (eqb-true z y e), λ e. eq-eqb z y (same_Some z y e))

decides_Some : (o : Option ℕ) (x : ℕ) → Decides (option_map_or (λ w. x == w) o false) (o ≡ Some x)
decides_Some None x = (λ e. absurd (false≢true e), λ e. absurd (none-some x e))
decides_Some (Some w) x = (λ e. ap Some (sym (eqb-true x w e)), λ e. eq-eqb x w (sym (same_Some w x e)))

-- y is the partner of x exactly where x is the partner of y
mutual_test : (twins : List (Option ℕ)) → IsSound twins → (x y : ℕ) → option_map_or (λ z. z == y) (partner twins x) false ≡ option_map_or (λ w. x == w) (partner twins y) false
mutual_test twins sound x y =
    same_from_decides (option_map_or (λ z. z == y) (partner twins x) false) (option_map_or (λ w. x == w) (partner twins y) false)
    (Decides-like (option_map_or (λ z. z == y) (partner twins x) false) (partner-returns twins sound x y) (partner-returns twins sound y x)
    (Some_decides (partner twins x) y))
    (decides_Some (partner twins y) x)

none_in : (o : Option ℕ) → option_map_or (λ x. has x []) o false ≡ false
none_in None = refl
none_in (Some x) = refl

in_longer : (x : ℕ) (xs : List ℕ) (o : Option ℕ) → option_map_or (λ w. has w (x ∷ xs)) o false ≡ (option_map_or (λ w. x == w) o false || option_map_or (λ w. has w xs) o false)
in_longer x xs None = refl
in_longer x xs (Some w) = refl

-- y is a need of the list exactly where its partner is in the list
pub is_need-partner : (twins : List (Option ℕ)) → IsSound twins → (list : List ℕ) (y : ℕ) → is_need twins list y ≡ option_map_or (λ x. has x list) (partner twins y) false
is_need-partner twins sound [] y = sym (none_in (partner twins y))
is_need-partner twins sound (x ∷ xs) y =
    ap₂ ◌||◌ (mutual_test twins sound x y) (is_need-partner twins sound xs y) ∙ sym (in_longer x xs (partner twins y))

-- ---- only the members of a path count, and not their order

module _ (twins : List (Option ℕ)) (xs ys : List ℕ) (same : (y : ℕ) → has y xs ≡ has y ys) where
  pub has_strip-same : (i : ℕ) → has_strip i xs ≡ has_strip i ys
  has_strip-same i = has_strip-directions i xs ∙ ap₂ ◌||◌ (same (2 * i)) (same (2 * i + 1)) ∙ sym (has_strip-directions i ys)

  pub lacks_twin-same : (x : ℕ) → lacks_twin twins xs x ≡ lacks_twin twins ys x
  lacks_twin-same x =
      elim (twin twins (x / 2)) as (λ o. option_map_or (λ i. not (has_strip i xs)) o false ≡ option_map_or (λ i. not (has_strip i ys)) o false) [
        | None ↦ refl
        | Some i ↦ ap not (has_strip-same i)
      ]

  pub is_open-same : (x : ℕ) → is_open twins xs x ≡ is_open twins ys x
  is_open-same x = ap₂ ◌&&◌ (same x) (lacks_twin-same x)

  pub is_need-same : IsSound twins → (y : ℕ) → is_need twins xs y ≡ is_need twins ys y
  is_need-same sound y =
      is_need-partner twins sound xs y
      ∙ elim (partner twins y) as (λ o. option_map_or (λ x. has x xs) o false ≡ option_map_or (λ x. has x ys) o false) [ None ↦ refl | Some x ↦ same x ]
      ∙ sym (is_need-partner twins sound ys y)

  pub Admits-same : (x : ℕ) → Admits twins xs x → Admits twins ys x
  Admits-same x admits = record {
    new_strip = sym (has_strip-same (x / 2)) ∙ admits.new_strip;
    agrees = λ y member. admits.agrees y (same y ∙ member);
  }
