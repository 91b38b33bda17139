-- A ticket is drawn.
use Rattle.std.proofs.Common.{◌≡◌, ◌≤◌, ◌+◌, ◌%◌, ◌^◌, ◌⊎◌, inr, ℕ, List, [], ◌∷◌, get_or, set, sum_by, All, Option, Some, refl, ap, sym, ◌∙◌, subst, arith}
use Rattle.std.proofs.Math.Nat.{mod-add-mod}
use Rattle.std.proofs.lemmas.List.Elements.{All-set}
use mathlib.Core.Logic.{dite}
use mathlib.Core.List.{IsPrefix}
use mathlib.Core.Option.{some}
use native.Mathlib.Decide.{ℕ_discrete}
use lib.ListN.{get_elem?}
use Rattle.atomic_table.specs.Table.{State, Step, Me, Allows, keeps}
use Rattle.turn_lock.specs.declared.view.View.{View}
use Rattle.turn_lock.specs.declared.view.Stage.TheVariants.{Idle}
use Rattle.turn_lock.specs.Views.{tickets, tickets_of, turns_held, IsInLine, IsHolder, StandsFrom, placed_parties, times_in}
use Rattle.turn_lock.specs.Rule.{left_over, IsKept, Keeps}
use Rattle.turn_lock.specs.Steps.{Draws, waiting}
use Rattle.pass_weight.proofs.Totals.{all_at, all_map, sum_set, sum_stays, sum_zero}
use Rattle.turn_lock.proofs.Tickets.{none_past, later_next, one_at_most, none_where}
use Rattle.turn_lock.proofs.Kept.{own_frame, slot_stays}

module _ {T E F : Type 0} (history : T → List E) (frame : T → F) (f : F) where
  module _ (s : State (Option T) (View E F)) (next serving : ℕ) (served : List E) (kept : IsKept history frame f next serving served s) (id : ℕ) (v : View E F)
      (at : get_elem? s.views id ≡ some v) (idle : v.stage ≡ Idle) (pos : 1 ≤ v.weight) where
    drawn_different : (n : ℕ) → sum_by (λ (u : View E F). tickets_of n u.stage) (set s.views id (waiting v next)) ≤ 1
    drawn_different n =
        let e = sum_set (λ (u : View E F). tickets_of n u.stage) s.views id v (waiting v next) at in
        let mine = ap (tickets_of n) idle in
        let before = kept.different n in
        dite (ℕ_discrete next n)
        (λ same.
        let none = sum_zero (λ (u : View E F). tickets_of n u.stage) s.views
        (all_map (λ (u : View E F). IsInLine serving next u.stage) (λ u. tickets_of n u.stage ≡ 0) s.views (λ u in'. none_past serving next n u.stage in' (omega arith)) kept.in_line) in
        let one = one_at_most next n in
        omega arith)
        (λ other. let off = none_where next n other in omega arith)

    pub drawn_kept : IsKept history frame f (next + 1) serving served
        (record { words = set s.words 0 ((get_or s.words 0 0 + 1) % 2 ^ 64); homes = s.homes; views = set s.views id (waiting v next) })
    drawn_kept =
        let w = waiting v next in
        let none = ap tickets idle in
        let drawn = sum_set (λ (u : View E F). tickets u.stage) s.views id v w at in
        let before = kept.drawn in
        let turns : turns_held w.stage ≡ turns_held v.stage = sym (ap turns_held idle) in
        record {
          words = subst (λ (ws : List ℕ). set ws 0 ((get_or ws 0 0 + 1) % 2 ^ 64) ≡ (next + 1) % 2 ^ 64 ∷ serving % 2 ^ 64 ∷ []) (sym kept.words)
              (ap (λ (x : ℕ). x ∷ serving % 2 ^ 64 ∷ []) (mod-add-mod next (2 ^ 64) 1));
          drawn = omega arith;
          different = drawn_different;
          in_line = All-set (λ (u : View E F). IsInLine serving (next + 1) u.stage) s.views id w (omega arith, omega arith)
              (all_map (λ (u : View E F). IsInLine serving next u.stage) (λ u. IsInLine serving (next + 1) u.stage) s.views (λ u in'. later_next serving next u.stage in') kept.in_line);
          slot = slot_stays history frame f next serving served s (set s.views id w) (sum_stays (λ (u : View E F). turns_held u.stage) s.views id v w at turns) kept.slot;
          holder = All-set (λ (u : View E F). IsHolder serving served u.stage) s.views id w tt kept.holder;
          frames = All-set (λ (u : View E F). (u ≡ left_over) ⊎ (u.frame ≡ Some f)) s.views id w (inr (own_frame history frame f next serving served s kept id v at pos)) kept.frames;
          seen = All-set (λ (u : View E F). IsPrefix u.seen served × IsPrefix u.told served) s.views id w (all_at (λ (u : View E F). IsPrefix u.seen served × IsPrefix u.told served) s.views id v kept.seen at) kept.seen;
          stand = All-set (λ (u : View E F). All (StandsFrom 0 served) (placed_parties u)) s.views id w (all_at (λ (u : View E F). All (StandsFrom 0 served) (placed_parties u)) s.views id v kept.stand at) kept.stand;
          places = λ n. sum_stays (times_in n) s.views id v w at refl ∙ kept.places n;
          weights = sum_stays (λ (u : View E F). u.weight) s.views id v w at refl ∙ kept.weights;
          positive = All-set (λ (u : View E F). (u ≡ left_over) ⊎ (1 ≤ u.weight)) s.views id w (inr pos) kept.positive;
        }

  -- the step that draws a ticket keeps the rule
  pub draws : (slots id : ℕ) (m : Me (Option T) (View E F)) (st : Step (Option T)) → m.0.stage ≡ Idle → 1 ≤ m.0.weight
      → Allows (Keeps history frame f) slots id m 0 (λ n. (n + 1) % 2 ^ 64) (Draws st m)
  draws slots id m st idle pos s h full at below =
      let kept = h.3 in
      let read : get_or s.words 0 0 ≡ h.0 % 2 ^ 64 = ap (λ (ws : List ℕ). get_or ws 0 0) kept.words in
      (waiting m.0 h.0, keeps, tt, (h.0 + 1, h.1, h.2, drawn_kept s h.0 h.1 h.2 kept id m.0 at idle pos), (h.0, read, refl))
