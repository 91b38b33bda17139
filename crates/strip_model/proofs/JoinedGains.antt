-- The gain of joined lists, by the areas of each.
use Rattle.std.proofs.Common.{◌≡◌, ℕ, ◌+◌, ◌≤◌, List, ◌++◌}
use Rattle.strip_model.proofs.Gains.{area_in-append}
use Rattle.strip_model.proofs.Shares.{gain_with_same, gain_with-differences}
use Rattle.strip_model.specs.Dominance.{GainsNoLess}
use Rattle.strip_model.specs.Gain.{area_in, gain_with, gain_in}
use Rattle.strip_model.specs.Orbit.{Orbit}
use Rattle.strip_model.specs.Reach.{area_reached}

-- the gain of joined lists
pub gain_in-append : (J : Orbit) (xs ys : List ℕ) → gain_in J (xs ++ ys) ≡ gain_with J (λ r. area_in J r xs + area_in J r ys)
gain_in-append J xs ys =
    gain_with_same J (λ r. area_in J r (xs ++ ys)) (λ r. area_in J r xs + area_in J r ys) (λ r l. area_in-append J r xs ys)

-- a path that gains no less does so with whatever area is still added to both within the reach of the other
pub gain_with-no_less : (J : Orbit) (b a : List ℕ) (c : ℕ → ℕ) → GainsNoLess J b a → ((r : ℕ) → c r ≤ area_reached J r a)
    → gain_with J (λ r. area_in J r a + c r) ≤ gain_with J (λ r. area_in J r b + c r)
gain_with-no_less J b a c gains within =
    gain_with-differences J (λ r. area_in J r b) (λ r. area_in J r a) c gains.worst
    (λ r l. (gains.is_worst r l).lowest (c r) (within r)) gains.sum
