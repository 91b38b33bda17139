-- What follows of lists of twins.
use Rattle.std.proofs.Common.{◌≡◌, ℕ, ◌+◌, ◌*◌, ◌/◌, ◌%◌, ◌<◌, ◌≤◌, Bool, true, false, not, ◌&&◌, ◌||◌, List, ◌∷◌, Option, Some, None, length, sym, ap, ap₂, ◌∙◌, inl, inr, arith, if◌then◌else◌, ◌==◌, slice_index, nat_eq}
use Rattle.std.specs.Option.{option_map, option_map_or, option_eq}
use Rattle.std.proofs.lemmas.Bool.{cases_lt, cases_eq, eqb-true, not-false, false≢true, eq-eqb, ne_eqb, and_from, and_right, or_left, or_right}
use Rattle.std.proofs.lemmas.Bool.Decides.{nat_tests}
use Rattle.std.proofs.lemmas.List.{get_or_past}
use Rattle.std.proofs.lemmas.Option.{same_Some, none-some}
use Rattle.strip_set.specs.declared.directed_set.TheConstants.{MAX_DIRECTED}
use Rattle.strip_set.specs.declared.strip_set.TheConstants.{MAX_STRIPS}
use Rattle.strip_set.specs.Members.{has, IsSet}
use Rattle.strip_set.proofs.Members.{IsSet-tail, has-head, has-tail}
use Rattle.stereo_twins.specs.Refusal.{KeepsRules, KeptBelow}
use Rattle.stereo_twins.specs.Twins.{twin, TwinsExist, IsSound, AreOfOneRequest, lacks_twin, is_open, is_need}

-- a strip with a twin is in the list
pub twin-within : (twins : List (Option ℕ)) (i j : ℕ) → twin twins i ≡ Some j → i < length twins
twin-within twins i j at =
    elim (cases_lt i (length twins)) [
      | inl within ↦ within
      | inr beyond ↦ absurd (none-some j (sym (get_or_past twins i None beyond) ∙ at))
    ]

module _ (twins : List (Option ℕ)) (requests : List ℕ) (kept : KeptBelow twins requests (length twins)) where
  pub IsSound-kept : length twins ≤ MAX_STRIPS → TwinsExist twins → IsSound twins
  IsSound-kept few exist = record {
    few = few;
    exist = exist;
    returns = λ i j at. (kept i (twin-within twins i j at)).returns j at;
    differ = λ i j at. (kept i (twin-within twins i j at)).differs j at;
  }

  pub AreOfOneRequest-kept : AreOfOneRequest twins requests
  AreOfOneRequest-kept i j at = (kept i (twin-within twins i j at)).one_request j at

added_need : (z y : ℕ) (p q : Bool) → ((if y == z then true else p) || q) ≡ (p || ((z == y) || q))
added_need z y true q = grind (arith, nat_tests)
added_need z y false q = grind (arith, nat_tests)

-- ---- the loop that gathers the open members

-- what is open of the set is open so far, or left and lacks its twin
pub record IsOpening (twins : List (Option ℕ)) (set rest found : List ℕ) : Type 0 where
  pub rest_set : IsSet MAX_DIRECTED rest
  pub found_set : IsSet MAX_DIRECTED found
  pub inside : (y : ℕ) → has y rest ≡ true → has y set ≡ true
  pub gathered : (y : ℕ) → (has y found || (has y rest && lacks_twin twins set y)) ≡ is_open twins set y

module _ (twins : List (Option ℕ)) (set : List ℕ) where
  pub IsOpening-takes : (x : ℕ) (rest old new : List ℕ) → IsOpening twins set (x ∷ rest) old → lacks_twin twins set x ≡ true → IsSet MAX_DIRECTED new
      → ((y : ℕ) → has y new ≡ (if y == x then true else has y old)) → IsOpening twins set rest new
  IsOpening-takes x rest old new so_far lacks is_set added = record {
    rest_set = IsSet-tail MAX_DIRECTED x rest so_far.rest_set;
    found_set = is_set;
    inside = λ y member. so_far.inside y (or_right (x == y) (has y rest) member);
    gathered = λ y.
        elim (cases_eq y x) [
          | inl same ↦
              let lacks_y : lacks_twin twins set y ≡ true = ap (lacks_twin twins set) same ∙ lacks in
              let in_new : has y new ≡ true = added y ∙ ap (λ t. if t then true else has y old) (eq-eqb y x same) in
              let first : ((x == y) || has y rest) ≡ true = has-head y x rest (sym same) in
              or_left (has y new) _ in_new
              ∙ sym (sym (so_far.gathered y) ∙ or_right (has y old) _ (and_from _ _ first lacks_y))
          | inr differs ↦
              let kept : has y new ≡ has y old = added y ∙ ap (λ t. if t then true else has y old) (ne_eqb y x differs) in
              ap₂ (λ p q. p || (q && lacks_twin twins set y)) kept (sym (has-tail y x rest (λ e. differs (sym e))))
              ∙ so_far.gathered y
        ];
  }

  pub IsOpening-skips : (x : ℕ) (rest found : List ℕ) → IsOpening twins set (x ∷ rest) found → lacks_twin twins set x ≡ false → IsOpening twins set rest found
  IsOpening-skips x rest found so_far lacks = record {
    rest_set = IsSet-tail MAX_DIRECTED x rest so_far.rest_set;
    found_set = so_far.found_set;
    inside = λ y member. so_far.inside y (or_right (x == y) (has y rest) member);
    gathered = λ y.
        elim (cases_eq y x) [
          | inl same ↦
              let has_twin : lacks_twin twins set y ≡ false = ap (lacks_twin twins set) same ∙ lacks in
              ap (λ b. has y found || b) (and_right (has y rest) _ has_twin ∙ sym (and_right (has y (x ∷ rest)) _ has_twin))
              ∙ so_far.gathered y
          | inr differs ↦
              ap (λ b. has y found || (b && lacks_twin twins set y)) (sym (has-tail y x rest (λ e. differs (sym e))))
              ∙ so_far.gathered y
        ];
  }

-- ---- the loop that gathers the needs

-- the needs of the list are needs so far, or needs of what is left
pub record IsNeeding (twins : List (Option ℕ)) (list rest needs : List ℕ) : Type 0 where
  pub rest_set : IsSet MAX_DIRECTED rest
  pub needs_set : IsSet MAX_DIRECTED needs
  pub inside : (y : ℕ) → has y rest ≡ true → has y list ≡ true
  pub gathered : (y : ℕ) → (has y needs || is_need twins rest y) ≡ is_need twins list y

module _ (twins : List (Option ℕ)) (list : List ℕ) where
  pub IsNeeding-takes : (x t : ℕ) (rest old new : List ℕ) → IsNeeding twins list (x ∷ rest) old → twin twins (x / 2) ≡ Some t → IsSet MAX_DIRECTED new
      → ((y : ℕ) → has y new ≡ (if y == 2 * t + x % 2 then true else has y old)) → IsNeeding twins list rest new
  IsNeeding-takes x t rest old new so_far has_twin is_set added = record {
    rest_set = IsSet-tail MAX_DIRECTED x rest so_far.rest_set;
    needs_set = is_set;
    inside = λ y member. so_far.inside y (or_right (x == y) (has y rest) member);
    gathered = λ y.
        ap (λ b. b || is_need twins rest y) (added y)
        ∙ added_need (2 * t + x % 2) y (has y old) (is_need twins rest y)
        ∙ ap (λ o. has y old || (option_map_or (λ z. z == y) (option_map (λ i. 2 * i + x % 2) o) false || is_need twins rest y)) (sym has_twin)
        ∙ so_far.gathered y;
  }

  pub IsNeeding-skips : (x : ℕ) (rest needs : List ℕ) → IsNeeding twins list (x ∷ rest) needs → twin twins (x / 2) ≡ None → IsNeeding twins list rest needs
  IsNeeding-skips x rest needs so_far no_twin = record {
    rest_set = IsSet-tail MAX_DIRECTED x rest so_far.rest_set;
    needs_set = so_far.needs_set;
    inside = λ y member. so_far.inside y (or_right (x == y) (has y rest) member);
    gathered = λ y.
        ap (λ o. has y needs || (option_map_or (λ z. z == y) (option_map (λ i. 2 * i + x % 2) o) false || is_need twins rest y)) (sym no_twin)
        ∙ so_far.gathered y;
  }

-- ---- the test of one strip

pub KeepsRules-alone : (twins : List (Option ℕ)) (requests : List ℕ) (i : ℕ) → twin twins i ≡ None → KeepsRules twins requests i
KeepsRules-alone twins requests i none = record {
  differs = λ j at. absurd (none-some j (sym none ∙ at));
  one_request = λ j at. absurd (none-some j (sym none ∙ at));
  returns = λ j at. absurd (none-some j (sym none ∙ at));
}

Some-tested : (o : Option ℕ) (i : ℕ) → false ≡ not (option_eq nat_eq o (Some i)) → o ≡ Some i
Some-tested None i tested = absurd (false≢true tested)
Some-tested (Some k) i tested = ap Some (eqb-true k i (not-false (nat_eq k i) (sym tested)))

pub KeepsRules-tested : (twins : List (Option ℕ)) (requests : List ℕ) (i t : ℕ) → twin twins i ≡ Some t → (t ≡ i → ⊥)
    → slice_index requests t ≡ slice_index requests i → false ≡ not (option_eq nat_eq (twin twins t) (Some i)) → KeepsRules twins requests i
KeepsRules-tested twins requests i t has_twin differs one_request tested =
    let same : (j : ℕ) → twin twins i ≡ Some j → j ≡ t = λ j at. same_Some j t (sym at ∙ has_twin) in
    record {
      differs = λ j at e. differs (sym (same j at) ∙ e);
      one_request = λ j at. ap (slice_index requests) (same j at) ∙ one_request;
      returns = λ j at. ap (twin twins) (same j at) ∙ Some-tested (twin twins t) i tested;
    }
