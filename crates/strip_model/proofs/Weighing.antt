-- That a path gains no less than another comes down to one number for each request, and the sum of these.
use Rattle.std.proofs.Common.{◌≡◌, ℕ, zero, suc, ◌<◌, List, length, ℤ, pos, ◌*ℤ◌, ◌+ℤ◌, ◌≤ℤ◌, refl, ap, ap₂, subst, arith}
use Rattle.gain_curve.proofs.DifferenceLaws.{IsLeastDifference-worst, worst-is}
use Rattle.gain_curve.specs.Difference.{worst}
use Rattle.strip_model.specs.Dominance.{int_sum_below, GainsNoLess}
use Rattle.strip_model.specs.Gain.{area_in, whole_area}
use Rattle.strip_model.specs.Orbit.{Orbit, gain_at}
use Rattle.strip_model.specs.Reach.{area_reached}

-- the least by which request r gains more with b than with a, for a request of gain 1
abbrev pub worst_of : Orbit → List ℕ → List ℕ → ℕ → ℤ
worst_of J b a r = worst (area_in J r b) (area_in J r a) (area_reached J r a) (whole_area J r)

-- these, weighted with the requests' gains and added up
abbrev pub weighed : Orbit → List ℕ → List ℕ → ℤ
weighed J b a = int_sum_below (length J.requests) (λ r. pos (gain_at J r) *ℤ worst_of J b a r)

-- a sum of the same summands is the same
pub int_sum_below_same : (n : ℕ) (f g : ℕ → ℤ) → ((i : ℕ) → i < n → f i ≡ g i) → int_sum_below n f ≡ int_sum_below n g
int_sum_below_same zero f g h = refl
int_sum_below_same (suc n) f g h = ap₂ (λ (a b : ℤ). a +ℤ b) (int_sum_below_same n f g (λ i l. h i (omega arith))) (h n (omega arith))

-- a path that gains no less: the weighted sum of its least differences is at least 0
pub sum-GainsNoLess : (J : Orbit) (b a : List ℕ) → GainsNoLess J b a → pos 0 ≤ℤ weighed J b a
sum-GainsNoLess J b a h =
    subst (λ (d : ℤ). pos 0 ≤ℤ d)
    (int_sum_below_same (length J.requests) (λ r. pos (gain_at J r) *ℤ h.worst r) (λ r. pos (gain_at J r) *ℤ worst_of J b a r)
    (λ r l. ap (λ (d : ℤ). pos (gain_at J r) *ℤ d)
    (worst-is (area_in J r b) (area_in J r a) (area_reached J r a) (whole_area J r) (h.worst r) (h.is_worst r l))))
    h.sum

-- the way back
pub GainsNoLess-sum : (J : Orbit) (b a : List ℕ) → pos 0 ≤ℤ weighed J b a → GainsNoLess J b a
GainsNoLess-sum J b a h = record {
  worst = λ r. worst_of J b a r;
  is_worst = λ r l. IsLeastDifference-worst (area_in J r b) (area_in J r a) (area_reached J r a) (whole_area J r);
  sum = h;
}
