-- Where the least difference of two shares lies, and that there is one alone.
use Rattle.std.proofs.Common.{◌≡◌, ℕ, ◌+◌, ◌≤◌, nat_lt, ℤ, ◌≤ℤ◌, sym, ap, inl, inr, arith}
use Rattle.std.proofs.lemmas.Bool.{cases_lt, cond-true, cond-false, lt-ltb, le-ltb}
use Rattle.std.proofs.lemmas.Int.{ints}
use Rattle.gain_curve.specs.Curve.{phi}
use Rattle.gain_curve.specs.Difference.{difference, IsLeastDifference, worst}
use Rattle.gain_curve.proofs.CurveLaws.{phi-convex_at}

-- Where the first area is the greater, the difference never falls as both grow.
pub difference_rises :
    (a1 a2 c d area : ℕ) → a2 ≤ a1 → c ≤ d → difference a1 a2 c area ≤ℤ difference a1 a2 d area
difference_rises a1 a2 c d area above up_to =
    let convex : phi (a2 + d) area + phi (a1 + c) area ≤ phi (a1 + d) area + phi (a2 + c) area =
    phi-convex_at (a2 + c) (a2 + d) (a1 + c) (a1 + d) area (omega arith) (omega arith) (omega arith)
    in omega (arith, ints)

-- Where the second area is the greater, the difference never rises as both grow.
pub difference_falls :
    (a1 a2 c d area : ℕ) → a1 ≤ a2 → c ≤ d → difference a1 a2 d area ≤ℤ difference a1 a2 c area
difference_falls a1 a2 c d area above up_to =
    let convex : phi (a1 + d) area + phi (a2 + c) area ≤ phi (a2 + d) area + phi (a1 + c) area =
    phi-convex_at (a1 + c) (a1 + d) (a2 + c) (a2 + d) area (omega arith) (omega arith) (omega arith)
    in omega (arith, ints)

-- Where the first area is the greater, the difference is least before anything is added.
pub least_at_start :
    (a1 a2 room area : ℕ) (d : ℤ) → a2 ≤ a1 → difference a1 a2 0 area ≡ d →
    IsLeastDifference a1 a2 room area d
least_at_start a1 a2 room area d above is = record {
  attained = (0, omega arith, is);
  lowest = λ c _. rw (← is) (difference_rises a1 a2 0 c area above (omega arith));
}

-- Where the second area is the greater, the difference is least once all the room is added.
pub least_at_end :
    (a1 a2 room area : ℕ) (d : ℤ) → a1 ≤ a2 → difference a1 a2 room area ≡ d →
    IsLeastDifference a1 a2 room area d
least_at_end a1 a2 room area d above is = record {
  attained = (room, omega arith, is);
  lowest = λ c within. rw (← is) (difference_falls a1 a2 c room area above within);
}

-- There is one least difference alone.
pub least_difference_unique :
    (a1 a2 room area : ℕ) (d e : ℤ) → IsLeastDifference a1 a2 room area d →
    IsLeastDifference a1 a2 room area e → d ≡ e
least_difference_unique a1 a2 room area d e left right =
    omega (
      arith,
      ints,
      left.lowest right.attained.0 right.attained.1,
      right.attained.2,
      right.lowest left.attained.0 left.attained.1,
      left.attained.2,
    )

-- The number that is said to be the least difference is it.
pub IsLeastDifference-worst : (a1 a2 room area : ℕ) → IsLeastDifference a1 a2 room area (worst a1 a2 room area)
IsLeastDifference-worst a1 a2 room area =
    elim (cases_lt a1 a2) [
      | inl below ↦
          least_at_end a1 a2 room area (worst a1 a2 room area) (omega arith)
          (ap (λ (c : ℕ). difference a1 a2 c area) (sym (cond-true (nat_lt a1 a2) room 0 (lt-ltb a1 a2 below))))
      | inr above ↦
          least_at_start a1 a2 room area (worst a1 a2 room area) above
          (ap (λ (c : ℕ). difference a1 a2 c area) (sym (cond-false (nat_lt a1 a2) room 0 (le-ltb a1 a2 above))))
    ]

-- The least difference is that number.
pub worst-is : (a1 a2 room area : ℕ) (d : ℤ) → IsLeastDifference a1 a2 room area d → d ≡ worst a1 a2 room area
worst-is a1 a2 room area d least =
    least_difference_unique a1 a2 room area d (worst a1 a2 room area) least (IsLeastDifference-worst a1 a2 room area)
