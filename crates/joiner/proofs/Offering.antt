-- What the better of two pairs covers.
use Rattle.std.proofs.Common.{◌≡◌, ℕ, ◌<◌, ◌≤◌, None, Some, sym, ◌∙◌, le_trans, arith}
use Rattle.joiner.specs.Offers.{IsKept}
use Rattle.joiner.specs.Pairs.{place_of, IsNoWorse}
use Rattle.joiner.specs.declared.pair.Pair.{Pair}

-- what is no worse than a pair is no worse than what that is no worse than
pub IsNoWorse-trans : (p q : Pair) (gain i j : ℕ) → IsNoWorse p q.gain (place_of q.forward) (place_of q.backward) → IsNoWorse q gain i j → IsNoWorse p gain i j
IsNoWorse-trans p q gain i j h k =
    let same : gain ≡ p.gain → (gain ≡ q.gain) × (q.gain ≡ p.gain) = λ e. (between gain q.gain p.gain k.no_less h.no_less e, between_2 gain q.gain p.gain k.no_less h.no_less e) in
    record {
      no_less = le_trans k.no_less h.no_less;
      no_later = λ e. le_trans (h.no_later (same e).1) (k.no_later (same e).0);
      then_no_later = λ e f.
          let first : place_of q.forward ≡ i = squeezed (place_of p.forward) (place_of q.forward) i (h.no_later (same e).1) (k.no_later (same e).0) f in
          le_trans (h.then_no_later (same e).1 (f ∙ sym first)) (k.then_no_later (same e).0 first);
    }
  where
    between : (a b c : ℕ) → a ≤ b → b ≤ c → a ≡ c → a ≡ b
    between a b c h k e = omega arith

    between_2 : (a b c : ℕ) → a ≤ b → b ≤ c → a ≡ c → b ≡ c
    between_2 a b c h k e = omega arith

    squeezed : (p q i : ℕ) → p ≤ q → q ≤ i → p ≡ i → q ≡ i
    squeezed p q i h k e = omega arith

-- a pair that is no worse than the best covers what the best covers
pub IsKept-better : (floor : ℕ) (p q : Pair) → IsNoWorse q p.gain (place_of p.forward) (place_of p.backward) → IsKept floor (Some p) (Some q)
IsKept-better floor p q h gain i j covered = IsNoWorse-trans q p gain i j h covered

-- a pair over the floor covers what the floor covers
pub IsKept-found : (floor : ℕ) (q : Pair) → floor < q.gain → IsKept floor None (Some q)
IsKept-found floor q above gain i j covered = record {
  no_less = omega (arith, above, covered);
  no_later = λ e. absurd (omega (arith, above, covered, e));
  then_no_later = λ e f. absurd (omega (arith, above, covered, e));
}
