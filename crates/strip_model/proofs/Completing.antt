-- What a path can still become: whatever completes it to a feasible order has its needs, and no completion gains more than
-- its bound.
use Rattle.std.proofs.Common.{◌≡◌, ℕ, ◌+◌, ◌≤◌, Bool, true, List, [], ◌∷◌, ◌++◌, refl, inl, inr, le_trans, le_of_eq, arith}
use Rattle.std.proofs.lemmas.Bool.{cond-true, and_from, both_ways}
use Rattle.std.specs.List.{list_all}
use Rattle.strip_model.proofs.JoinedGains.{gain_in-append}
use Rattle.strip_model.proofs.Needing.{Need-from_needs}
use Rattle.strip_model.proofs.Orders.{IsFeasibleOrder}
use Rattle.strip_model.proofs.Reaching.{completion_in_reach, area_in-completion}
use Rattle.strip_model.proofs.Shares.{gain_with-rises}
use Rattle.strip_model.proofs.Words.{has_left, has_cases, has_head, has_tail, has_strip-from_has}
use Rattle.strip_model.specs.Directed.{strip_of, has, has_strip}
use Rattle.strip_model.specs.Gain.{area_in, gain_with, gain_in}
use Rattle.strip_model.specs.IsInstance.{IsInstance}
use Rattle.strip_model.specs.Orbit.{Orbit}
use Rattle.strip_model.specs.Reach.{needs, reaches, area_reached, bound}

-- what completes a path to a feasible order has all that the path needs
pub completion_has_needs : (J : Orbit) (a c : List ℕ) → IsFeasibleOrder J (a ++ c) → (z : ℕ) → has z (needs J a) ≡ true → has z c ≡ true
completion_has_needs J a c h z needed =
    let need = Need-from_needs J a z needed in
    elim (has_cases z a c (h.twins need.of z (has_left need.of a c need.there) need.is)) [
      | inl in_path ↦ absurd (both_ways (has_strip (strip_of z) a) need.lacks (has_strip-from_has z a in_path))
      | inr in_rest ↦ in_rest
    ]

-- a test that passes each member of a list passes the list
list_all-from_has : (p : ℕ → Bool) (xs : List ℕ) → ((z : ℕ) → has z xs ≡ true → p z ≡ true) → list_all p xs ≡ true
list_all-from_has p [] h = refl
list_all-from_has p (x ∷ xs) h =
    and_from (p x) (list_all p xs) (h x (has_head x xs)) (list_all-from_has p xs (λ z t. h z (has_tail z x xs t)))

-- no completion of a path to a feasible order gains more than the path's bound
pub completion_bounded : (J : Orbit) → IsInstance J → (a c : List ℕ) → IsFeasibleOrder J (a ++ c) → gain_in J (a ++ c) ≤ bound J a
unfolding bound
completion_bounded J inst a c h =
    let all = list_all-from_has (reaches J a) (needs J a)
    (λ z needed. completion_in_reach J inst a c h.in_time z (completion_has_needs J a c h z needed)) in
    rw (cond-true (list_all (reaches J a) (needs J a)) (gain_with J (λ r. area_in J r a + area_reached J r a)) 0 all)
    (le_trans (le_of_eq (gain_in-append J a c))
    (gain_with-rises J (λ r. area_in J r a + area_in J r c) (λ r. area_in J r a + area_reached J r a)
    (λ r. more (area_in J r a) (area_in J r c) (area_reached J r a) (area_in-completion J inst r a c h.in_time))))
  where
    more : (a c d : ℕ) → c ≤ d → a + c ≤ a + d
    more a c d h = omega arith
