-- The words of a map of twins, which sees a list of twins alone, say the same as those of an instance.
use Rattle.std.proofs.Common.{◌≡◌, ℕ, ◌+◌, ◌*◌, ◌==◌, Bool, true, false, not, List, [], ◌∷◌, Option, Some, None, refl, sym, ◌∙◌, ap, inl, inr, true≢false}
use Rattle.std.proofs.lemmas.Bool.{or_cases, or_left, or_right, and_parts, and_from, not-true, not_from_false, eqb-true, eq-eqb}
use Rattle.std.proofs.lemmas.Bool.Decides.{same_from_decides}
use Rattle.std.specs.Option.{option_map, option_map_or}
use Rattle.stereo_twins.specs.Twins.{twin, partner, is_need}
use Rattle.strip_model.proofs.Needing.{Need-from_needs, needs-from_Need}
use Rattle.strip_model.proofs.TwinRules.{twin-twins_in}
use Rattle.strip_model.proofs.Twins.{AreTwins-partner}
use Rattle.strip_model.proofs.Words.{has_head, has_tail, has_cons_cases}
use Rattle.strip_model.specs.Directed.{strip_of, direction_of, has, has_strip}
use Rattle.strip_model.specs.Orbit.{Orbit, twin_at, partner_of}
use Rattle.strip_model.specs.Reach.{lacks_twin, is_open, needs}
use Rattle.strip_model.specs.Twins.{twins_of}

-- a strip's twin, by the list of twins
pub twin-twins_of : (J : Orbit) (i : ℕ) → twin (twins_of J) i ≡ twin_at J i
twin-twins_of J i = twin-twins_in J.strips i

-- a directed strip's partner, by the list of twins
pub partner-twins_of : (J : Orbit) (x : ℕ) → partner (twins_of J) x ≡ partner_of J x
partner-twins_of J x = ap (λ (o : Option ℕ). option_map (λ (t : ℕ). 2 * t + direction_of x) o) (twin-twins_of J (strip_of x))

-- whether what may be there is z
abbrev is_number : ℕ → Option ℕ → Bool
is_number z o = option_map_or (λ k. k == z) o false

is_number-true : (z : ℕ) (o : Option ℕ) → is_number z o ≡ true → o ≡ Some z
is_number-true z None h = absurd (true≢false (sym h))
is_number-true z (Some k) h = ap Some (eqb-true k z h)

-- a directed strip of the list whose partner is z
record IsNeededBy (J : Orbit) (list : List ℕ) (z : ℕ) : Type 0 where
  by : ℕ
  there : has by list ≡ true
  is : partner_of J by ≡ Some z

IsNeededBy-from_is_need : (J : Orbit) (list : List ℕ) (z : ℕ) → is_need (twins_of J) list z ≡ true → IsNeededBy J list z
IsNeededBy-from_is_need J [] z h = absurd (true≢false (sym h))
IsNeededBy-from_is_need J (x ∷ list) z h =
    elim (or_cases (is_number z (partner (twins_of J) x)) (is_need (twins_of J) list z) h) [
      | inl here ↦ record {
        by = x;
        there = has_head x list;
        is = sym (partner-twins_of J x) ∙ is_number-true z (partner (twins_of J) x) here;
      }
      | inr later ↦ let rest = IsNeededBy-from_is_need J list z later in
          record { by = rest.by; there = has_tail rest.by x list rest.there; is = rest.is }
    ]

is_need-from_partner : (J : Orbit) (list : List ℕ) (z x : ℕ) → has x list ≡ true → partner_of J x ≡ Some z → is_need (twins_of J) list z ≡ true
is_need-from_partner J [] z x there is = absurd (true≢false (sym there))
is_need-from_partner J (y ∷ list) z x there is =
    elim (has_cons_cases x y list there) [
      | inl same ↦ or_left (is_number z (partner (twins_of J) y)) (is_need (twins_of J) list z)
          (ap (λ (k : ℕ). is_number z (partner (twins_of J) k)) (sym same)
          ∙ ap (λ (o : Option ℕ). is_number z o) (partner-twins_of J x ∙ is) ∙ eq-eqb z z refl)
      | inr later ↦ or_right (is_number z (partner (twins_of J) y)) (is_need (twins_of J) list z) (is_need-from_partner J list z x later is)
    ]

-- whether a directed strip lacks its twin, at its partner
lacks_twin-partner : (J : Orbit) (path : List ℕ) (x z : ℕ) → partner_of J x ≡ Some z → lacks_twin J path x ≡ not (has_strip (strip_of z) path)
lacks_twin-partner J path x z is =
    ap (λ (o : Option ℕ). option_map_or (λ t. not (has_strip t path)) o false) (AreTwins-partner J x z is).twins

-- The twins of the open directed strips of a path, in their directions, are its needs.
pub is_need-needs : (J : Orbit) (path lone : List ℕ) → ((y : ℕ) → has y lone ≡ is_open J path y)
    → (z : ℕ) → is_need (twins_of J) lone z ≡ has z (needs J path)
is_need-needs J path lone opens z =
    same_from_decides (is_need (twins_of J) lone z) (has z (needs J path)) (to, from) (λ h. h, λ h. h)
  where
    to : is_need (twins_of J) lone z ≡ true → has z (needs J path) ≡ true
    to h =
        let need = IsNeededBy-from_is_need J lone z h in
        let is_open = and_parts (has need.by path) (lacks_twin J path need.by) (sym (opens need.by) ∙ need.there) in
        needs-from_Need J path z need.by is_open.0 need.is
        (not-true (has_strip (strip_of z) path) (sym (lacks_twin-partner J path need.by z need.is) ∙ is_open.1))

    from : has z (needs J path) ≡ true → is_need (twins_of J) lone z ≡ true
    from h =
        let need = Need-from_needs J path z h in
        is_need-from_partner J lone z need.of
        (opens need.of ∙ and_from (has need.of path) (lacks_twin J path need.of) need.there
        (lacks_twin-partner J path need.of z need.is ∙ not_from_false (has_strip (strip_of z) path) need.lacks)) need.is
