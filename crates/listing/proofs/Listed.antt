-- Plans that the listing comes to, and the best of them.
use Rattle.std.proofs.Common.{◌≡◌, ℕ, ◌<◌, ◌≤◌, List, [], ◌∷◌, ◌++◌, length, refl, sym, ◌∙◌, ap, subst, arith, append_assoc, append-nil, ◌*◌}
use Rattle.listing.specs.Best.{IsBest}
use Rattle.listing.specs.Listing.{IsListed, IsCandidate}
use Rattle.listing.specs.declared.exploring.Best.{Best}
use Rattle.strip_model.proofs.Gains.{gain_in-nil}
use Rattle.strip_model.proofs.InTime.{IsInTime-front, order_of-push}
use Rattle.strip_model.proofs.Starts.{Feasible-earliest, Fits-from_Feasible}
use Rattle.strip_model.proofs.Words.{StripsExist-append_parts}
use Rattle.strip_model.specs.Directed.{strip_of}
use Rattle.strip_model.specs.Gain.{gain_in}
use Rattle.strip_model.specs.Optimal.{Optimal}
use Rattle.strip_model.specs.Orbit.{Orbit}
use Rattle.strip_model.specs.Plan.{Feasible, order_of, gain_of, KeepsTwinsTogether}
use Rattle.strip_model.specs.Starts.{IsInTime, HasEarliestStarts}
use Rattle.strip_model.specs.declared.acquisition.Acquisition.{Acquisition}

-- a listed plan whose twins come together is feasible
pub Feasible-listed : (J : Orbit) (plan : List Acquisition) → IsListed J plan → KeepsTwinsTogether J (order_of plan) → Feasible J plan
Feasible-listed J plan h twins =
    let F : List Acquisition → Type 0 = λ plan. Feasible J plan in
    subst F (sym h.earliest) (Feasible-earliest J (order_of plan) h.order.exist h.order.distinct h.order.fits twins)

-- a listed plan whose twins come together can be kept as the best
pub IsBest-listed : (J : Orbit) (plan : List Acquisition) (best : Best) → IsListed J plan → KeepsTwinsTogether J (order_of plan)
    → best.plan.items ≡ plan → best.gain ≡ gain_of J plan → IsBest J best
IsBest-listed J plan best h twins same gain =
    let F : List Acquisition → Type 0 = λ plan. Feasible J plan in
    let E : List Acquisition → Type 0 = λ plan. HasEarliestStarts J plan in
    record {
      feasible = subst F (sym same) (Feasible-listed J plan h twins);
      earliest = subst E (sym same) h.earliest;
      gain = gain ∙ ap (λ (plan : List Acquisition). gain_of J plan) (sym same);
    }

-- the empty plan is listed, and can be kept as the best
pub IsListed-nil : (J : Orbit) → IsListed J []
IsListed-nil J = record { order = record { exist = tt; distinct = tt; fits = tt }; earliest = refl }

twins-nil : (J : Orbit) → KeepsTwinsTogether J []
twins-nil J x y there partner = absurd (cc)

pub IsBest-nil : (J : Orbit) (best : Best) → best.plan.items ≡ [] → best.gain ≡ 0 → IsBest J best
IsBest-nil J best same gain = IsBest-listed J [] best (IsListed-nil J) (twins-nil J) same (gain ∙ sym (gain_in-nil J))

-- a directed strip that follows goes on from a listed plan to a listed one
pub IsListed-push : (J : Orbit) (plan : List Acquisition) (next : Acquisition) (at : ℕ) → next.at ≡ at → IsInTime J (order_of plan ++ at ∷ [])
    → HasEarliestStarts J (plan ++ next ∷ []) → IsListed J (plan ++ next ∷ [])
IsListed-push J plan next at same in_time starts =
    let T : List ℕ → Type 0 = λ order. IsInTime J order in
    let more : order_of (plan ++ next ∷ []) ≡ order_of plan ++ at ∷ [] =
    order_of-push plan next ∙ ap (λ (x : ℕ). order_of plan ++ x ∷ []) same in
    record { order = subst T (sym more) in_time; earliest = starts }

-- a directed strip that doesn't follow a plan doesn't go on from it
pub none_follows : (J : Orbit) (plan : List Acquisition) (at : ℕ) (more : List ℕ) → (IsInTime J (order_of plan ++ at ∷ []) → ⊥)
    → IsInTime J (order_of plan ++ at ∷ more) → ⊥
none_follows J plan at more none h =
    let T : List ℕ → Type 0 = λ order. IsInTime J order in
    none (IsInTime-front J (order_of plan ++ at ∷ []) more (subst T (sym (append_assoc (order_of plan) (at ∷ []) more)) h))

-- the next directed strip of an order that is in time exists
pub next_exists : (J : Orbit) (order : List ℕ) (at : ℕ) (more : List ℕ) → IsInTime J (order ++ at ∷ more) → strip_of at < length J.strips
next_exists J order at more h = (StripsExist-append_parts J order (at ∷ more) h.exist).1.0

-- the order of a feasible plan is a candidate
pub IsCandidate-feasible : (J : Orbit) (plan : List Acquisition) → Feasible J plan → IsCandidate J (order_of plan)
IsCandidate-feasible J plan h = record {
  in_time = record { exist = h.exist; distinct = h.distinct; fits = Fits-from_Feasible J plan h };
  twins = h.twins;
}

-- where no candidate gains more than the best plan, that is optimal
pub Optimal-best : (J : Orbit) (best : Best) → IsBest J best → ((order : List ℕ) → IsCandidate J order → gain_in J order ≤ best.gain) → Optimal J best.plan.items
Optimal-best J best h greatest = record {
  feasible = h.feasible;
  best = λ other feasible. rw (← h.gain) (greatest (order_of other) (IsCandidate-feasible J other feasible));
}

-- the candidates that go on from a plan, or are the plan itself, are bounded where each next directed strip was tried
pub greatest_from : (J : Orbit) (plan : List Acquisition) (gain : ℕ) → (KeepsTwinsTogether J (order_of plan) → gain_of J plan ≤ gain)
    → ((at : ℕ) → at < 2 * length J.strips → (more : List ℕ) → IsCandidate J (order_of plan ++ at ∷ more) → gain_in J (order_of plan ++ at ∷ more) ≤ gain)
    → (more : List ℕ) → IsCandidate J (order_of plan ++ more) → gain_in J (order_of plan ++ more) ≤ gain
greatest_from J plan gain here tried [] h =
    let whole : order_of plan ++ [] ≡ order_of plan = append-nil (order_of plan) in
    let twins : KeepsTwinsTogether J (order_of plan) = subst (λ (order : List ℕ). KeepsTwinsTogether J order) whole h.twins in
    subst (λ (order : List ℕ). gain_in J order ≤ gain) (sym whole) (here twins)
greatest_from J plan gain here tried (at ∷ more) h =
    tried at (omega (arith, next_exists J (order_of plan) at more h.in_time)) more h
