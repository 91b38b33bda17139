-- Tickets and turns, stage by stage.
use Rattle.std.proofs.Common.{◌≡◌, ◌≢◌, ◌≤◌, ◌<◌, ◌+◌, ◌==◌, ℕ, List, refl, arith}
use Rattle.std.proofs.lemmas.Bool.Decides.{nat_tests}
use Rattle.turn_lock.specs.declared.view.Stage.{Stage}
use Rattle.turn_lock.specs.declared.view.Stage.TheVariants.{Idle, Waiting, Holding}
use Rattle.turn_lock.specs.Views.{one_if, tickets, tickets_of, turns_held, IsInLine, IsHolder}

pub one_where : (k n : ℕ) → k ≡ n → one_if (k == n) ≡ 1
one_where k n e = grind (arith, nat_tests)

pub none_where : (k n : ℕ) → k ≢ n → one_if (k == n) ≡ 0
none_where k n ne = grind (arith, nat_tests)

pub one_at_most : (k n : ℕ) → one_if (k == n) ≤ 1
one_at_most k n = grind (arith, nat_tests)

module _ {E : Type 0} where
  -- a ticket is before the next one
  pub none_past : (serving next n : ℕ) (stage : Stage E) → IsInLine serving next stage → next ≤ n → tickets_of n stage ≡ 0
  none_past serving next n Idle in' h = refl
  none_past serving next n (Waiting k) in' h = none_where k n (λ e. omega arith)
  none_past serving next n (Holding k found) in' h = none_where k n (λ e. omega arith)

  pub later_next : (serving next : ℕ) (stage : Stage E) → IsInLine serving next stage → IsInLine serving (next + 1) stage
  later_next serving next Idle in' = tt
  later_next serving next (Waiting k) in' = (in'.0, omega arith)
  later_next serving next (Holding k found) in' = (in'.0, omega arith)

  pub later_serving : (serving next : ℕ) (stage : Stage E) → IsInLine serving next stage → tickets_of serving stage ≡ 0 → IsInLine (serving + 1) next stage
  later_serving serving next Idle in' none = tt
  later_serving serving next (Waiting k) in' none = (other k in' none, in'.1)
    where
      other : (k : ℕ) → (serving ≤ k) × (k < next) → one_if (k == serving) ≡ 0 → serving + 1 ≤ k
      other k in' none = grind (arith, nat_tests)
  later_serving serving next (Holding k found) in' none = (other k in' none, in'.1)
    where
      other : (k : ℕ) → (serving ≤ k) × (k < next) → one_if (k == serving) ≡ 0 → serving + 1 ≤ k
      other k in' none = grind (arith, nat_tests)

  -- who holds the turn has the ticket that is served
  pub holder_ticket : (serving : ℕ) (served : List E) (stage : Stage E) → IsHolder serving served stage → turns_held stage ≤ tickets_of serving stage
  holder_ticket serving served Idle is = omega arith
  holder_ticket serving served (Waiting k) is = omega arith
  holder_ticket serving served (Holding k found) is = let one = one_where k serving is.0 in omega arith

  -- who holds no turn meets what is asked of the holder
  pub no_holder : (serving : ℕ) (served : List E) (stage : Stage E) → turns_held stage ≡ 0 → IsHolder serving served stage
  no_holder serving served Idle none = tt
  no_holder serving served (Waiting k) none = tt
  no_holder serving served (Holding k found) none = absurd (omega arith)

  pub one_ticket : (stage : Stage E) → tickets stage ≤ 1
  one_ticket Idle = omega arith
  one_ticket (Waiting k) = omega arith
  one_ticket (Holding k found) = omega arith
