-- The directed strips whose strip has a twin, and what is open among them.
use Rattle.std.proofs.Common.{◌≡◌, ℕ, ◌+◌, ◌*◌, Bool, true, false, not, ◌&&◌, ◌||◌, ◌==◌, is_some, if◌then◌else◌, List, Option, Some, None, refl, sym, ◌∙◌, ap, ap₂, inl, inr, arith}
use Rattle.std.proofs.lemmas.Bool.{cases_eq, eq-eqb, ne_eqb}
use Rattle.std.specs.Option.{option_map_or}
use Rattle.label.specs.Tables.{ArePaired}
use Rattle.stereo_twins.specs.Twins.{is_open as is_open_in}
use Rattle.strip_model.proofs.TwinWords.{twin-twins_of}
use Rattle.strip_model.proofs.Twins.{twin_at_mutual}
use Rattle.strip_model.specs.Directed.{strip_of, has, has_strip}
use Rattle.strip_model.specs.IsInstance.{IsInstance}
use Rattle.strip_model.specs.Orbit.{Orbit, twin_at}
use Rattle.strip_model.specs.Reach.{is_open}
use Rattle.strip_model.specs.Twins.{twins_of}
use Rattle.strip_set.proofs.Members.{has_strip-directions}

-- both directions of a strip
pub both_of_strip : (there : Bool) (strip y first second : ℕ) → first ≡ 2 * strip → second ≡ 2 * strip + 1
    → (if y == second then true else (if y == first then true else there)) ≡ (there || (strip_of y == strip))
both_of_strip there strip y first second is_first is_second =
    elim (cases_eq y second) [
      | inl same ↦ is_there (y == second) (strip_of y == strip) there (if y == first then true else there)
          (eq-eqb y second same) (eq-eqb (strip_of y) strip (omega arith))
      | inr other ↦ elim (cases_eq y first) [
        | inl same ↦
            ap (λ (b : Bool). if b then true else (if y == first then true else there)) (ne_eqb y second other)
            ∙ is_there (y == first) (strip_of y == strip) there there (eq-eqb y first same) (eq-eqb (strip_of y) strip (omega arith))
        | inr neither ↦
            stays (y == second) (y == first) (strip_of y == strip) there
            (ne_eqb y second other) (ne_eqb y first neither) (ne_eqb (strip_of y) strip (λ e. omega arith))
      ]
    ]
  where
    is_there : (p q there rest : Bool) → p ≡ true → q ≡ true → (if p then true else rest) ≡ (there || q)
    is_there p q true rest is strip = rw is refl
    is_there p q false rest is strip = rw (is, strip) refl

    stays : (p q r there : Bool) → p ≡ false → q ≡ false → r ≡ false → (if p then true else (if q then true else there)) ≡ (there || r)
    stays p q r true isnt neither strip = rw (isnt, neither) refl
    stays p q r false isnt neither strip = rw (isnt, neither, strip) refl

module _ (J : Orbit) (visited paired both : List ℕ) (inst : IsInstance J) (are_paired : ArePaired J paired)
    (meets : (y : ℕ) → has y both ≡ (has y visited && has y paired)) where
  paired_there : (y : ℕ) → has y paired ≡ true → has y both ≡ has y visited
  paired_there y h = meets y ∙ ap (λ (b : Bool). has y visited && b) h ∙ same (has y visited)
    where
      same : (b : Bool) → (b && true) ≡ b
      same true = refl
      same false = refl

  -- of a strip that has a twin, the same directions stand there
  paired_strip : (i t : ℕ) → twin_at J i ≡ Some t → has_strip i both ≡ has_strip i visited
  paired_strip i t twin =
      let forth : strip_of (2 * i) ≡ i = omega arith in
      let back : strip_of (2 * i + 1) ≡ i = omega arith in
      let has_twin : is_some (twin_at J i) ≡ true = ap (λ (o : Option ℕ). is_some o) twin in
      has_strip-directions i both
      ∙ ap₂ (λ (p q : Bool). p || q)
      (paired_there (2 * i) (are_paired (2 * i) ∙ ap (λ (k : ℕ). is_some (twin_at J k)) forth ∙ has_twin))
      (paired_there (2 * i + 1) (are_paired (2 * i + 1) ∙ ap (λ (k : ℕ). is_some (twin_at J k)) back ∙ has_twin))
      ∙ sym (has_strip-directions i visited)

  open_at : (y : ℕ) (o : Option ℕ) → twin_at J (strip_of y) ≡ o
      → (has y both && option_map_or (λ t. not (has_strip t both)) o false) ≡ (has y visited && option_map_or (λ t. not (has_strip t visited)) o false)
  open_at y None is = none (has y both) (has y visited)
    where
      none : (a b : Bool) → (a && false) ≡ (b && false)
      none true true = refl
      none true false = refl
      none false true = refl
      none false false = refl
  open_at y (Some t) is =
      ap₂ (λ (p q : Bool). p && not q)
      (paired_there y (are_paired y ∙ ap (λ (o : Option ℕ). is_some o) is))
      (paired_strip t (strip_of y) (twin_at_mutual J (strip_of y) t inst is))

  -- What is open of a set is open of those of its members whose strip has a twin.
  pub open_of_paired : (members : List ℕ) (twins : List (Option ℕ)) → twins ≡ twins_of J → ((y : ℕ) → has y members ≡ is_open_in twins both y)
      → (y : ℕ) → has y members ≡ is_open J visited y
  open_of_paired members twins are opens y =
      opens y
      ∙ ap (λ (ts : List (Option ℕ)). is_open_in ts both y) are
      ∙ ap (λ (o : Option ℕ). has y both && option_map_or (λ t. not (has_strip t both)) o false) (twin-twins_of J (strip_of y))
      ∙ open_at y (twin_at J (strip_of y)) refl
