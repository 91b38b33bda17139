-- A path that dominates another takes over whatever completes that one.
use Rattle.std.proofs.Common.{◌≡◌, ℕ, ◌≤◌, true, List, ◌++◌, Some, sym, ◌∙◌, subst, inl, inr, le_trans, le_of_eq}
use Rattle.std.proofs.lemmas.Bool.{cases_Bool}
use Rattle.strip_model.proofs.Completing.{completion_has_needs}
use Rattle.strip_model.proofs.JoinedGains.{gain_in-append, gain_with-no_less}
use Rattle.strip_model.proofs.Needing.{Need-from_needs, needs-from_Need}
use Rattle.strip_model.proofs.Orders.{IsFeasibleOrder}
use Rattle.strip_model.proofs.Reaching.{completion_in_reach, area_in-completion}
use Rattle.strip_model.proofs.Starts.{Fits-no_later, Fits-append, Fits-append_parts}
use Rattle.strip_model.proofs.Twins.{partner_of_mutual, partner_of-one_way}
use Rattle.strip_model.proofs.Words.{Apart-parts, StripsDistinct-joined, has_left, has_right, has_cases, has-from_has_strip, StripsExist-append, StripsExist-append_parts}
use Rattle.strip_model.specs.Directed.{strip_of, has, has_strip}
use Rattle.strip_model.specs.Dominance.{Dominates}
use Rattle.strip_model.specs.Gain.{area_in, gain_in}
use Rattle.strip_model.specs.IsInstance.{IsInstance}
use Rattle.strip_model.specs.Orbit.{Orbit, partner_of}
use Rattle.strip_model.specs.Plan.{KeepsTwinsTogether}
use Rattle.strip_model.specs.Starts.{Root, IsInTime, place_after}
use Rattle.strip_model.specs.Twins.{HasTwinsOneWay}

-- the path b and then c is a feasible order that gains no less than that
pub record TakesOver (J : Orbit) (b c : List ℕ) (least : ℕ) : Type 0 where
  pub feasible : IsFeasibleOrder J (b ++ c)
  pub gains : least ≤ gain_in J (b ++ c)

IsInTime-taken_over : (J : Orbit) → IsInstance J → (b a c : List ℕ) → IsInTime J b → Dominates J b a → IsInTime J (a ++ c) → IsInTime J (b ++ c)
IsInTime-taken_over J inst b a c hb dom h =
    let exist = StripsExist-append_parts J a c h.exist in
    let d = Apart-parts a c h.distinct in
    record {
      exist = StripsExist-append J b c hb.exist exist.1;
      distinct = StripsDistinct-joined b c hb.distinct d.right (λ y there. dom.apart y (completion_in_reach J inst a c h y there));
      fits = Fits-append J Root b c hb.fits
          (Fits-no_later J (place_after J Root b) (place_after J Root a) c dom.no_later (Fits-append_parts J Root a c h.fits).1);
    }

-- The twin of what stands in the rest stands in the rest too, or in b: what a lacks of it b lacks too.
twins_of_rest : (J : Orbit) → IsInstance J → (b a c : List ℕ) → Dominates J b a → IsFeasibleOrder J (a ++ c)
    → (x y : ℕ) → has x c ≡ true → partner_of J x ≡ Some y → has y (b ++ c) ≡ true
twins_of_rest J inst b a c dom h x y there twin =
    let d = Apart-parts a c h.in_time.distinct in
    let back = partner_of_mutual J x y inst twin in
    elim (has_cases y a c (h.twins x y (has_right x a c there) twin)) [
      | inl in_path ↦
          let need = Need-from_needs J b x (dom.same_needs x ∙ needs-from_Need J a x y in_path back (d.apart x there)) in
          let same : need.of ≡ y = some_same (sym (partner_of_mutual J need.of x inst need.is) ∙ twin) in
          has_left y b c (subst (λ (k : ℕ). has k b ≡ true) same need.there)
      | inr in_rest ↦ has_right y b c in_rest
    ]
  where
    some_same : {k y : ℕ} → Some k ≡ Some y → k ≡ y
    some_same e = cc

-- The twin of what stands in b stands in b too, or it is a need of b, then one of a, and the rest has it.
twins_of_path : (J : Orbit) (b a c : List ℕ) → HasTwinsOneWay J b → Dominates J b a → IsFeasibleOrder J (a ++ c)
    → (x y : ℕ) → has x b ≡ true → partner_of J x ≡ Some y → has y (b ++ c) ≡ true
twins_of_path J b a c one_way dom h x y there twin =
    elim (cases_Bool (has_strip (strip_of y) b)) [
      | inl stands ↦
          let found = has-from_has_strip (strip_of y) b stands in
          let same = partner_of-one_way J b one_way x found.0 y there found.1 twin found.2 in
          has_left y b c (subst (λ (k : ℕ). has k b ≡ true) same found.1)
      | inr lacks ↦ has_right y b c (completion_has_needs J a c h y (sym (dom.same_needs y) ∙ needs-from_Need J b y x there twin lacks))
    ]

KeepsTwinsTogether-taken_over : (J : Orbit) → IsInstance J → (b a c : List ℕ) → HasTwinsOneWay J b → Dominates J b a
    → IsFeasibleOrder J (a ++ c) → KeepsTwinsTogether J (b ++ c)
KeepsTwinsTogether-taken_over J inst b a c one_way dom h x y there twin =
    elim (has_cases x b c there) [
      | inl in_path ↦ twins_of_path J b a c one_way dom h x y in_path twin
      | inr in_rest ↦ twins_of_rest J inst b a c dom h x y in_rest twin
    ]

-- A path that dominates another gives with any completion of that one a feasible order too, which gains no less.
pub dominator_takes_over : (J : Orbit) → IsInstance J → (b a c : List ℕ) → IsInTime J b → HasTwinsOneWay J b → Dominates J b a
    → IsFeasibleOrder J (a ++ c) → TakesOver J b c (gain_in J (a ++ c))
dominator_takes_over J inst b a c hb one_way dom h = record {
  feasible = record {
    in_time = IsInTime-taken_over J inst b a c hb dom h.in_time;
    twins = KeepsTwinsTogether-taken_over J inst b a c one_way dom h;
  };
  gains =
      le_trans (le_of_eq (gain_in-append J a c))
      (le_trans (gain_with-no_less J b a (λ r. area_in J r c) dom.gains (λ r. area_in-completion J inst r a c h.in_time))
      (le_of_eq (sym (gain_in-append J b c))));
}
