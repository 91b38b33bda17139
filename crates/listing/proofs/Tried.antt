-- A loop that tries each directed strip after a plan.
use Rattle.std.proofs.Common.{◌≡◌, ℕ, ◌+◌, ◌-◌, ◌*◌, ◌<◌, ◌≤◌, List, [], ◌∷◌, ◌++◌, length, sym, ◌∙◌, ap, subst, arith, append_assoc, length-append, ⊎_elim}
use Rattle.std.proofs.lemmas.List.{length-map}
use Rattle.std.proofs.lemmas.Bool.{cases_lt}
use Rattle.listing.specs.Best.{IsBest}
use Rattle.listing.specs.Listing.{IsListed, IsCandidate}
use Rattle.listing.specs.declared.exploring.Best.{Best}
use Rattle.strip_model.proofs.Distinct.{length_distinct-le}
use Rattle.strip_model.proofs.Words.{order_of-append}
use Rattle.strip_model.specs.Gain.{gain_in}
use Rattle.strip_model.specs.Orbit.{Orbit}
use Rattle.strip_model.specs.Plan.{order_of, gain_of, KeepsTwinsTogether}
use Rattle.strip_model.specs.declared.acquisition.Acquisition.{Acquisition}

-- every directed strip below x was tried after the plan
pub record HasTried (J : Orbit) (plan : List Acquisition) (gain x : ℕ) (best : Best) : Type 0 where
  pub kept : IsBest J best
  pub rises : gain ≤ best.gain
  pub here : KeepsTwinsTogether J (order_of plan) → gain_of J plan ≤ best.gain
  pub tried : (at : ℕ) → at < x → (more : List ℕ) → IsCandidate J (order_of plan ++ at ∷ more) → gain_in J (order_of plan ++ at ∷ more) ≤ best.gain

-- one directed strip more was tried
pub tried_more : (J : Orbit) (plan after : List Acquisition) (gain x : ℕ) (old new : Best) → after ≡ plan → HasTried J plan gain x old → IsBest J new
    → old.gain ≤ new.gain
    → ((more : List ℕ) → IsCandidate J (order_of after ++ x ∷ more) → gain_in J (order_of after ++ x ∷ more) ≤ new.gain)
    → HasTried J plan gain (x + 1) new
tried_more J plan after gain x old new same h kept rises greatest = record {
  kept = kept;
  rises = omega (arith, h.rises, rises);
  here = λ twins. omega (arith, h.here twins, rises);
  tried = λ at below more candidate. ⊎_elim
      (λ l. omega (arith, h.tried at l more candidate, rises))
      (λ l. last at (omega arith) more candidate)
      (cases_lt at x);
}
  where
    last : (at : ℕ) → at ≡ x → (more : List ℕ) → IsCandidate J (order_of plan ++ at ∷ more) → gain_in J (order_of plan ++ at ∷ more) ≤ new.gain
    last at e more candidate =
        let whole : order_of after ++ x ∷ more ≡ order_of plan ++ at ∷ more =
        ap (λ (p : List Acquisition). order_of p ++ x ∷ more) same ∙ ap (λ (y : ℕ). order_of plan ++ y ∷ more) (sym e) in
        let C : List ℕ → Type 0 = λ order. IsCandidate J order in
        let G : List ℕ → Type 0 = λ order. gain_in J order ≤ new.gain in
        subst G whole (greatest more (subst C (sym whole) candidate))

-- the order of a plan that goes on with one acquisition
pub order_of-next : (plan : List Acquisition) (next : Acquisition) (more : List ℕ) → order_of (plan ++ next ∷ []) ++ more ≡ order_of plan ++ next.at ∷ more
order_of-next plan next more =
    ap (λ (order : List ℕ). order ++ more) (order_of-append plan (next ∷ [])) ∙ append_assoc (order_of plan) (next.at ∷ []) more

-- what bounds the candidates after the longer plan bounds those that go on with its last directed strip
pub greatest_with : (J : Orbit) (plan longer : List Acquisition) (next : Acquisition) (gain : ℕ) → longer ≡ plan ++ next ∷ []
    → ((more : List ℕ) → IsCandidate J (order_of longer ++ more) → gain_in J (order_of longer ++ more) ≤ gain)
    → (more : List ℕ) → IsCandidate J (order_of plan ++ next.at ∷ more) → gain_in J (order_of plan ++ next.at ∷ more) ≤ gain
greatest_with J plan longer next gain same greatest more candidate =
    let whole : order_of longer ++ more ≡ order_of plan ++ next.at ∷ more =
    ap (λ (p : List Acquisition). order_of p ++ more) same ∙ order_of-next plan next more in
    let C : List ℕ → Type 0 = λ order. IsCandidate J order in
    let G : List ℕ → Type 0 = λ order. gain_in J order ≤ gain in
    subst G whole (greatest more (subst C (sym whole) candidate))

-- fewer strips are left after the longer plan
pub fewer_left : (J : Orbit) (plan longer : List Acquisition) (next : Acquisition) (t : ℕ) → IsListed J (plan ++ next ∷ []) → longer ≡ plan ++ next ∷ []
    → t ≡ 2 * (length J.strips - length plan) → 2 * (length J.strips - length longer) + 1 < t
fewer_left J plan longer next t h same left =
    let few = length_distinct-le J (order_of (plan ++ next ∷ [])) h.order.exist h.order.distinct in
    omega (arith, few, ap (λ (p : List Acquisition). length p) same, length-append plan (next ∷ []), length-map (plan ++ next ∷ []) (λ a. a.at), left)

-- what bounds the candidates after the empty plan bounds all
pub greatest_of_all : (J : Orbit) (plan : List Acquisition) (gain : ℕ) → plan ≡ []
    → ((more : List ℕ) → IsCandidate J (order_of plan ++ more) → gain_in J (order_of plan ++ more) ≤ gain)
    → (order : List ℕ) → IsCandidate J order → gain_in J order ≤ gain
greatest_of_all J plan gain nil greatest order candidate =
    let whole : order_of plan ++ order ≡ order = ap (λ (p : List Acquisition). order_of p ++ order) nil in
    let C : List ℕ → Type 0 = λ order. IsCandidate J order in
    let G : List ℕ → Type 0 = λ order. gain_in J order ≤ gain in
    subst G whole (greatest order (subst C (sym whole) candidate))
