-- The ticket that is served is looked at.
use Rattle.std.proofs.Common.{◌≡◌, ◌≢◌, ◌≤◌, ◌+◌, ◌%◌, ◌^◌, ◌⊎◌, ⊎_elim, inr, ℕ, List, [], ◌∷◌, get_or, set, sum_by, All, Option, Some, refl, ap, sym, ◌∙◌, subst, arith}
use Rattle.std.proofs.lemmas.List.Elements.{All-set}
use Rattle.std.proofs.lemmas.List.{set-get_or}
use mathlib.Core.Logic.{dite}
use mathlib.Core.List.{IsPrefix}
use mathlib.Core.Option.{Option as Slot, some, none}
use native.Mathlib.Decide.{ℕ_discrete}
use lib.ListN.{get_elem?}
use Rattle.atomic_table.specs.Table.{State, Step, Me, Allows, keeps, takes}
use Rattle.atomic_table.proofs.Lists.{one_turn, set_again}
use Rattle.turn_lock.specs.declared.view.View.{View}
use Rattle.turn_lock.specs.declared.view.Stage.{Stage}
use Rattle.turn_lock.specs.declared.view.Stage.TheVariants.{Waiting}
use Rattle.turn_lock.specs.Views.{tickets, tickets_of, turns_held, IsInLine, IsHolder, StandsFrom, placed_parties, times_in}
use Rattle.turn_lock.specs.Rule.{left_over, IsKept, Keeps}
use Rattle.turn_lock.specs.Steps.{Looks, Takes, holding}
use Rattle.pass_weight.proofs.Totals.{all_at, all_map, sum_set, sum_stays, sum_le}
use Rattle.turn_lock.proofs.Tickets.{one_where, holder_ticket}
use Rattle.turn_lock.proofs.Kept.{own_frame, few_tickets}

-- of two stages that wait for a ticket, the tickets are the same
same_ticket : {E : Type 0} (k n : ℕ) (stage : Stage E) → stage ≡ Waiting k → stage ≡ Waiting n → k ≡ n
same_ticket k n stage a b = cc

module _ {T E F : Type 0} (history : T → List E) (frame : T → F) (f : F) where
  -- a value at home with the served history and the lock's frame
  abbrev Home : List E → State (Option T) (View E F) → Type 0
  Home served s = (value : T) × (s.homes ≡ some (Some value) ∷ []) × (history value ≡ served) × (frame value ≡ f) × (sum_by (λ (u : View E F). turns_held u.stage) s.views ≡ 0)

  module _ (s : State (Option T) (View E F)) (next serving : ℕ) (served : List E) (kept : IsKept history frame f next serving served s) (id : ℕ) (v : View E F)
      (at : get_elem? s.views id ≡ some v) (pos : 1 ≤ v.weight) where
    -- while a view waits with the ticket that is served, nobody holds the turn
    at_home : v.stage ≡ Waiting serving → Home served s
    at_home waits = ⊎_elim (λ home. home) (λ out. absurd (impossible out.1)) kept.slot
      where
        impossible : sum_by (λ (u : View E F). turns_held u.stage) s.views ≡ 1 → ⊥
        impossible one =
            let held = λ (u : View E F). turns_held u.stage in
            let served' = λ (u : View E F). tickets_of serving u.stage in
            let others = set s.views id (left_over {E = E} {F = F}) in
            let held_sum = sum_set held s.views id v left_over at in
            let ticket_sum = sum_set served' s.views id v left_over at in
            let mine : turns_held v.stage ≡ 0 = ap turns_held waits in
            let mine' : tickets_of serving v.stage ≡ 1 = ap (tickets_of serving) waits ∙ one_where serving serving refl in
            let different = kept.different serving in
            let below = sum_le held served' others
            (All-set (λ (u : View E F). turns_held u.stage ≤ tickets_of serving u.stage) s.views id left_over (omega arith)
            (all_map (λ (u : View E F). IsHolder serving served u.stage) (λ u. turns_held u.stage ≤ tickets_of serving u.stage) s.views (λ u is. holder_ticket serving served u.stage is) kept.holder)) in
            omega arith

    taken_kept : v.stage ≡ Waiting serving → (home : Home served s) → IsKept history frame f next serving served
        (record { words = set s.words 1 (get_or s.words 1 0); homes = set s.homes 0 none; views = set s.views id (holding v serving (history home.0)) })
    taken_kept waits home =
        let w = holding v serving (history home.0) in
        let held = sum_set (λ (u : View E F). turns_held u.stage) s.views id v w at in
        let mine : turns_held v.stage ≡ 0 = ap turns_held waits in
        let nobody = home.4 in
        let in' = subst (IsInLine serving next) waits (all_at (λ (u : View E F). IsInLine serving next u.stage) s.views id v kept.in_line at) in
        record {
          words = subst (λ (ws : List ℕ). set ws 1 (get_or ws 1 0) ≡ next % 2 ^ 64 ∷ serving % 2 ^ 64 ∷ []) (sym kept.words) refl;
          drawn = ap (λ (n : ℕ). serving + n) (sum_stays (λ (u : View E F). tickets u.stage) s.views id v w at (sym (ap tickets waits))) ∙ kept.drawn;
          different = λ n. subst (λ (m : ℕ). m ≤ 1) (sym (sum_stays (λ (u : View E F). tickets_of n u.stage) s.views id v w at (sym (ap (tickets_of n) waits)))) (kept.different n);
          in_line = All-set (λ (u : View E F). IsInLine serving next u.stage) s.views id w in' kept.in_line;
          slot = inr (ap (λ (hs : List (Slot (Option T))). set hs 0 none) home.1, omega arith);
          holder = All-set (λ (u : View E F). IsHolder serving served u.stage) s.views id w (refl, home.2) kept.holder;
          frames = All-set (λ (u : View E F). (u ≡ left_over) ⊎ (u.frame ≡ Some f)) s.views id w (inr (own_frame history frame f next serving served s kept id v at pos)) kept.frames;
          seen = All-set (λ (u : View E F). IsPrefix u.seen served × IsPrefix u.told served) s.views id w (all_at (λ (u : View E F). IsPrefix u.seen served × IsPrefix u.told served) s.views id v kept.seen at) kept.seen;
          stand = All-set (λ (u : View E F). All (StandsFrom 0 served) (placed_parties u)) s.views id w (all_at (λ (u : View E F). All (StandsFrom 0 served) (placed_parties u)) s.views id v kept.stand at) kept.stand;
          places = λ n. sum_stays (times_in n) s.views id v w at refl ∙ kept.places n;
          weights = sum_stays (λ (u : View E F). u.weight) s.views id v w at refl ∙ kept.weights;
          positive = All-set (λ (u : View E F). (u ≡ left_over) ⊎ (1 ≤ u.weight)) s.views id w (inr pos) kept.positive;
        }

    -- the ticket that is served is found exactly where it is the own one
    found_own : (k : ℕ) → v.stage ≡ Waiting k → get_or s.words 1 0 ≡ k % 2 ^ 64 → serving ≡ k
    found_own k waits found =
        let in' = subst (IsInLine serving next) waits (all_at (λ (u : View E F). IsInLine serving next u.stage) s.views id v kept.in_line at) in
        let few = few_tickets history frame f next serving served s kept in
        let read : get_or s.words 1 0 ≡ serving % 2 ^ 64 = ap (λ (ws : List ℕ). get_or ws 1 0) kept.words in
        one_turn serving k (2 ^ 64) in'.0 (omega arith) (sym read ∙ found)

    unchanged : Keeps history frame f (record { words = set s.words 1 (get_or s.words 1 0); homes = s.homes; views = set s.views id v })
    unchanged =
        let words = set-get_or s.words 1 0 in
        let views = set_again s.views id v at in
        let same : (record { words = set s.words 1 (get_or s.words 1 0); homes = s.homes; views = set s.views id v }) ≡ s =
        λ i. record { words = words i; homes = s.homes; views = views i } in
        subst (Keeps history frame f) (sym same) (next, serving, served, kept)

  looks_from : (slots id : ℕ) (v : View E F) (k : ℕ) (st : Step (Option T)) → v.stage ≡ Waiting k → 1 ≤ v.weight
      → Allows (Keeps history frame f) slots id (v, []) 1 (λ n. n) (Looks history frame st (v, []))
  looks_from slots id v k st waits pos s h full at below =
      let kept = h.3 in
      let next = h.0 in
      let serving = h.1 in
      let served = h.2 in
      dite (ℕ_discrete serving k)
      (λ (same : serving ≡ k).
      let waits' : v.stage ≡ Waiting serving = subst (λ (n : ℕ). v.stage ≡ Waiting n) (sym same) waits in
      let home = at_home s next serving served kept id v at pos waits' in
      let w = holding v serving (history home.0) in
      let seen = all_at (λ (u : View E F). IsPrefix u.seen served × IsPrefix u.told served) s.views id v kept.seen at in
      let begins : IsPrefix v.seen (history home.0) = subst (IsPrefix v.seen) (sym home.2) seen.0 in
      let framed : v.frame ≡ Some (frame home.0) = own_frame history frame f next serving served s kept id v at pos ∙ ap (λ (x : F). Some x) (sym home.3) in
      let read : get_or s.words 1 0 ≡ serving % 2 ^ 64 = ap (λ (ws : List ℕ). get_or ws 1 0) kept.words in (
        w,
        takes 0 (Some home.0),
        ap (λ (hs : List (Slot (Option T))). get_elem? hs 0) home.1,
        (next, serving, served, taken_kept s next serving served kept id v at pos waits' home),
        λ n waits''.
            let is : serving ≡ n = same_ticket serving n v.stage waits' waits'' in (
              (λ _. (home.0, ap (λ (m : ℕ). (holding v m (history home.0), (0, Some home.0) ∷ [])) is, begins, framed)),
              (λ other. absurd (other (read ∙ ap (λ (m : ℕ). m % 2 ^ 64) is))),
            ),
      ))
      (λ (other : serving ≢ k). (
        v,
        keeps,
        tt,
        unchanged s next serving served kept id v at pos,
        λ n waits'. (
          (λ found. absurd (other (found_own s next serving served kept id v at pos n waits' found ∙ same_ticket n k v.stage waits' waits))),
          (λ _. refl),
        ),
      ))

  -- the step that looks keeps the rule
  pub looks : (slots id : ℕ) (m : Me (Option T) (View E F)) (k : ℕ) (st : Step (Option T)) → m.0.stage ≡ Waiting k → m.1 ≡ [] → 1 ≤ m.0.weight
      → Allows (Keeps history frame f) slots id m 1 (λ n. n) (Looks history frame st m)
  looks slots id m k st waits empty pos =
      subst (λ (c : List (ℕ × Option T)). Allows (Keeps history frame f) slots id (m.0, c) 1 (λ n. n) (Looks history frame st (m.0, c))) (sym empty)
      (looks_from slots id m.0 k st waits pos)

module _ {T E F : Type 0} (history : T → List E) (frame : T → F) where
  -- a look that found the own ticket took the value
  pub looked_own : (st : Step (Option T)) (m seat n : Me (Option T) (View E F)) (r ticket j k : ℕ) → seat ≡ m → Looks history frame st seat r n
      → m.0.stage ≡ Waiting j → ticket ≡ j % 2 ^ 64 → r ≡ ticket → m.0.stage ≡ Waiting k → Takes history frame k m n
  looked_own st m seat n r ticket j k same look waits is found waits' =
      let look' = subst (λ (x : Me (Option T) (View E F)). Looks history frame st x r n) same look in
      let j_is = same_ticket j k m.0.stage waits waits' in
      (look' k waits').0 (found ∙ is ∙ ap (λ (x : ℕ). x % 2 ^ 64) j_is)

  -- a look that found another ticket changed nothing
  pub looked_other : (st : Step (Option T)) (m seat n : Me (Option T) (View E F)) (r ticket j : ℕ) → seat ≡ m → Looks history frame st seat r n
      → m.0.stage ≡ Waiting j → ticket ≡ j % 2 ^ 64 → r ≢ ticket → n ≡ m
  looked_other st m seat n r ticket j same look waits is other =
      let look' = subst (λ (x : Me (Option T) (View E F)). Looks history frame st x r n) same look in
      (look' j waits).1 (λ e. other (e ∙ sym is))
