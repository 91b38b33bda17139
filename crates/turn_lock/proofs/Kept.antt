-- What a table that keeps the rule says of one view.
use Rattle.std.proofs.Common.{◌≡◌, ◌≤◌, ◌+◌, ◌^◌, ◌⊎◌, ⊎_elim, inl, inr, ℕ, List, [], sum_by, Option, Some, ap, sym, ◌∙◌, subst, arith}
use Rattle.std.proofs.lemmas.List.Sums.{sum_by-cons}
use mathlib.Core.Option.{some}
use lib.ListN.{get_elem?}
use Rattle.pass_weight.specs.declared.whole_weight.TheConstants.{WHOLE_WEIGHT}
use Rattle.atomic_table.specs.Table.{State}
use Rattle.turn_lock.specs.declared.view.View.{View}
use Rattle.turn_lock.specs.Views.{tickets, turns_held, times, times_in}
use Rattle.turn_lock.specs.Rule.{left_over, IsKept, IsSlot}
use Rattle.pass_weight.proofs.Totals.{all_at, all_map, sum_le}
use Rattle.turn_lock.proofs.Tickets.{one_ticket}

-- what was left over has no place
pub left_over_times : (E F : Type 0) (n : ℕ) → times_in n (left_over {E = E} {F = F}) ≡ 0
left_over_times E F n = sum_by-cons (times {E = E} n) [] []

module _ {E F : Type 0} where
  -- a view with a weight isn't left over
  pub not_left : (P : Type 0) (v : View E F) → 1 ≤ v.weight → (v ≡ left_over) ⊎ P → P
  not_left P v pos either = ⊎_elim (λ (e : v ≡ left_over). absurd (let w = ap (λ (u : View E F). u.weight) e in omega arith)) (λ p. p) either

  tickets_by_weight : (v : View E F) → (v ≡ left_over) ⊎ (1 ≤ v.weight) → tickets v.stage ≤ v.weight
  tickets_by_weight v either = ⊎_elim
      (λ (e : v ≡ left_over). subst (λ (u : View E F). tickets u.stage ≤ u.weight) (sym e) (omega arith))
      (λ (h : 1 ≤ v.weight). let one = one_ticket v.stage in omega arith)
      either

module _ {T E F : Type 0} (history : T → List E) (frame : T → F) (f : F) (next serving : ℕ) (served : List E) (s : State (Option T) (View E F)) where
  -- fewer tickets are out than the words count
  pub few_tickets : IsKept history frame f next serving served s → next ≤ serving + WHOLE_WEIGHT
  few_tickets kept =
      let by_weight = sum_le (λ (u : View E F). tickets u.stage) (λ u. u.weight) s.views (all_map _ (λ (u : View E F). tickets u.stage ≤ u.weight) s.views tickets_by_weight kept.positive) in
      let drawn = kept.drawn in
      let whole = kept.weights in
      omega arith

  pub own_frame : IsKept history frame f next serving served s → (id : ℕ) (v : View E F) → get_elem? s.views id ≡ some v → 1 ≤ v.weight → v.frame ≡ Some f
  own_frame kept id v at pos = not_left (v.frame ≡ Some f) v pos (all_at (λ (u : View E F). (u ≡ left_over) ⊎ (u.frame ≡ Some f)) s.views id v kept.frames at)

  -- the slot stays as it is where as many turns are held
  pub slot_stays : (views : List (View E F)) → sum_by (λ (u : View E F). turns_held u.stage) views ≡ sum_by (λ (u : View E F). turns_held u.stage) s.views
      → IsSlot history frame f served s.homes s.views → IsSlot history frame f served s.homes views
  slot_stays views same slot = ⊎_elim (λ home. inl (home.0, home.1, home.2, home.3, same ∙ home.4)) (λ out. inr (out.0, same ∙ out.1)) slot
