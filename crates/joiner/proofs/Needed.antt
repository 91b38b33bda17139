-- The loop that gathers what a path needs.
use Rattle.std.proofs.Common.{◌≡◌, ℕ, ◌==◌, Bool, true, false, ◌||◌, if◌then◌else◌, List, [], ◌∷◌, Option, Some, None, refl, sym, ◌∙◌, ap, inl, inr}
use Rattle.std.proofs.lemmas.Bool.{cases_Bool, eqb-true, eq-eqb, or_right, cond-true, cond-false}
use Rattle.std.specs.Option.{option_map_or}
use Rattle.joiner.specs.Tips.{waits_for}
use Rattle.stereo_twins.specs.Twins.{is_need}
use Rattle.strip_model.proofs.TwinWords.{partner-twins_of, is_need-needs}
use Rattle.strip_model.specs.Directed.{has}
use Rattle.strip_model.specs.Orbit.{Orbit, partner_of}
use Rattle.strip_model.specs.Reach.{is_open}
use Rattle.strip_model.specs.Side.{facing}
use Rattle.strip_model.specs.Twins.{twins_of}
use Rattle.strip_model.specs.declared.end.End.{End}
use Rattle.strip_model.specs.declared.end.End.TheVariants.{Forward, Backward}

-- what the list needs was found, or is needed by the rest
pub record IsNeeding (J : Orbit) (list rest needs : List ℕ) : Type 0 where
  pub inside : (y : ℕ) → has y rest ≡ true → has y list ≡ true
  pub gathered : (z : ℕ) → (has z needs || is_need (twins_of J) rest z) ≡ is_need (twins_of J) list z

-- whether what may be there is z
abbrev is_number : ℕ → Option ℕ → Bool
is_number z o = option_map_or (λ k. k == z) o false

pub IsNeeding-start : (J : Orbit) (list rest needs : List ℕ) → rest ≡ list → needs ≡ [] → IsNeeding J list rest needs
IsNeeding-start J list rest needs same none = record {
  inside = λ y h. ap (λ (xs : List ℕ). has y xs) (sym same) ∙ h;
  gathered = λ z. ap (λ (xs : List ℕ). has z xs || is_need (twins_of J) rest z) none ∙ ap (λ (xs : List ℕ). is_need (twins_of J) xs z) same;
}

pub IsNeeding-takes : (J : Orbit) (list rest needs next : List ℕ) (x y : ℕ) → IsNeeding J list (x ∷ rest) needs → partner_of J x ≡ Some y
    → ((z : ℕ) → has z next ≡ (if z == y then true else has z needs)) → IsNeeding J list rest next
IsNeeding-takes J list rest needs next x y so_far is added = record {
  inside = λ z h. so_far.inside z (or_right (x == z) (has z rest) h);
  gathered = λ z.
      ap (λ (b : Bool). b || is_need (twins_of J) rest z) (added z)
      ∙ moved y z (has z needs) (is_need (twins_of J) rest z)
      ∙ ap (λ (o : Option ℕ). has z needs || (is_number z o || is_need (twins_of J) rest z)) (sym (partner-twins_of J x ∙ is))
      ∙ so_far.gathered z;
}
  where
    first : (n r : Bool) → (true || r) ≡ (n || (true || r))
    first true r = refl
    first false r = refl

    false_true : false ≡ true → ⊥
    false_true e = cc

    turned : (y z : ℕ) → (z == y) ≡ false → (y == z) ≡ false
    turned y z other =
        elim (cases_Bool (y == z)) [
          | inl same ↦ absurd (false_true (sym other ∙ eq-eqb z y (sym (eqb-true y z same))))
          | inr none ↦ none
        ]

    moved : (y z : ℕ) (n r : Bool) → ((if z == y then true else n) || r) ≡ (n || ((y == z) || r))
    moved y z n r =
        elim (cases_Bool (z == y)) [
          | inl same ↦ ap (λ (b : Bool). b || r) (cond-true (z == y) true n same) ∙ first n r
              ∙ ap (λ (b : Bool). n || (b || r)) (sym (eq-eqb y z (sym (eqb-true z y same))))
          | inr other ↦ ap (λ (b : Bool). b || r) (cond-false (z == y) true n other)
              ∙ ap (λ (b : Bool). n || (b || r)) (sym (turned y z other))
        ]

pub IsNeeding-skips : (J : Orbit) (list rest needs : List ℕ) (x : ℕ) → IsNeeding J list (x ∷ rest) needs → partner_of J x ≡ None
    → IsNeeding J list rest needs
IsNeeding-skips J list rest needs x so_far none = record {
  inside = λ z h. so_far.inside z (or_right (x == z) (has z rest) h);
  gathered = λ z.
      ap (λ (o : Option ℕ). has z needs || (is_number z o || is_need (twins_of J) rest z)) (sym (partner-twins_of J x ∙ none))
      ∙ so_far.gathered z;
}

-- what is needed by the open directed strips of a path is what it waits for at the front
pub waits_for-needed : (J : Orbit) (e : End) (lone needs path : List ℕ) → e ≡ Forward → ((z : ℕ) → has z needs ≡ is_need (twins_of J) lone z)
    → ((y : ℕ) → has y lone ≡ is_open (facing J e) path y) → (z : ℕ) → has z needs ≡ waits_for J e path z
waits_for-needed J Forward lone needs path front found opens z = found z ∙ is_need-needs J path lone opens z
waits_for-needed J Backward lone needs path front found opens z = absurd (cc)
