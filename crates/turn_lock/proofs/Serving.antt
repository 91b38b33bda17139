-- The next ticket is served.
use Rattle.std.proofs.Common.{◌≡◌, ◌≤◌, ◌+◌, ◌%◌, ◌^◌, ◌⊎◌, ⊎_elim, inl, inr, ℕ, List, [], ◌∷◌, length, drop, get_or, set, sum_by, All, Option, Some, None, refl, ap, sym, ◌∙◌, subst, arith, length-append}
use Rattle.std.specs.Prelude.{nat_lt}
use Rattle.std.proofs.Math.Nat.{mod-add-mod}
use Rattle.std.proofs.lemmas.List.Elements.{All-set, All-cons, All-head, All-tail}
use Rattle.std.proofs.lemmas.List.Sums.{sum_by-cons}
use mathlib.Core.List.{IsPrefix}
use mathlib.Core.Option.{Option as Slot, some, none}
use lib.ListN.{get_elem?}
use Rattle.atomic_table.specs.Table.{State, Step, Me, Allows, gives}
use Rattle.turn_lock.specs.declared.view.View.{View}
use Rattle.turn_lock.specs.declared.view.Stage.{Stage}
use Rattle.turn_lock.specs.declared.view.Stage.TheVariants.{Holding}
use Rattle.turn_lock.specs.Views.{one_if, tickets, tickets_of, turns_held, IsInLine, IsHolder, StandsFrom, placed_parties, times, times_in, placed}
use Rattle.turn_lock.specs.Rule.{left_over, IsKept, Keeps}
use Rattle.turn_lock.specs.Steps.{Serves, after_turn}
use Rattle.pass_weight.proofs.Totals.{all_at, all_map, sum_at, sum_set, sum_stays, terms_zero}
use Rattle.turn_lock.proofs.Prefixes.{prefix_self, prefix_trans, prefix_rest}
use Rattle.turn_lock.proofs.Places.{stands_longer, stands_added, times_append, times_placed}
use Rattle.turn_lock.proofs.Tickets.{one_where, later_serving, no_holder}
use Rattle.turn_lock.proofs.Kept.{own_frame}

module _ {T E F : Type 0} (history : T → List E) (frame : T → F) (f : F) where
  module _ (s : State (Option T) (View E F)) (next serving : ℕ) (found : List E) (kept : IsKept history frame f next serving found s) (id : ℕ) (v : View E F)
      (at : get_elem? s.views id ≡ some v) (pos : 1 ≤ v.weight) (holds : v.stage ≡ Holding serving found) (value : T) (grown : IsPrefix found (history value))
      (framed : v.frame ≡ Some (frame value)) where
    abbrev left : View E F
    left = after_turn v found (history value)

    -- nobody else holds the turn, so the slot is out
    out : (s.homes ≡ none ∷ []) × (sum_by (λ (u : View E F). turns_held u.stage) (set s.views id left) ≡ 0)
    out =
        let held = λ (u : View E F). turns_held u.stage in
        let mine : turns_held v.stage ≡ 1 = ap turns_held holds in
        let some_one = sum_at held s.views id v at in
        let changed = sum_set held s.views id v left at in
        ⊎_elim (λ home. absurd (let nobody = home.4 in omega arith)) (λ away. (away.0, (let one = away.1 in omega arith))) kept.slot

    -- nobody else has the ticket
    no_ticket : All (λ (u : View E F). tickets_of serving u.stage ≡ 0) (set s.views id left)
    no_ticket =
        let served = λ (u : View E F). tickets_of serving u.stage in
        let mine : tickets_of serving v.stage ≡ 1 = ap (tickets_of serving) holds ∙ one_where serving serving refl in
        let changed = sum_set served s.views id v left at in
        let different = kept.different serving in
        terms_zero served (set s.views id left) (omega arith)

    left_stand : All (StandsFrom 0 (history value)) (placed_parties left)
    left_stand =
        let all = all_at (λ (u : View E F). All (StandsFrom 0 found) (placed_parties u)) s.views id v kept.stand at in
        let added = drop (length found) (history value) in
        let whole = prefix_rest found (history value) grown in
        All-cons (StandsFrom 0 (history value)) left.own left.joined
        (subst (λ (l : List E). StandsFrom 0 l left.own) whole (stands_added 0 found added v.own (omega arith) (All-head (StandsFrom 0 found) v.own v.joined all)))
        (all_map (StandsFrom 0 found) (StandsFrom 0 (history value)) v.joined (λ ps st. stands_longer 0 found (history value) ps grown st) (All-tail (StandsFrom 0 found) v.own v.joined all))

    left_times : (n : ℕ) → times_in n left + one_if (nat_lt n (length found)) ≡ times_in n v + one_if (nat_lt n (length (history value)))
    left_times n =
        let added = drop (length found) (history value) in
        let now = sum_by-cons (times n) left.own left.joined in
        let before = sum_by-cons (times n) v.own v.joined in
        let own = times_append n v.own (placed (length found) added) in
        let more = times_placed n (length found) added in
        let size : length found + length added ≡ length (history value) = sym (length-append found added) ∙ ap length (prefix_rest found (history value) grown) in
        let more' : times n (placed (length found) added) + one_if (nat_lt n (length found)) ≡ one_if (nat_lt n (length (history value))) =
        more ∙ ap (λ (m : ℕ). one_if (nat_lt n m)) size in
        omega arith

    served_kept : IsKept history frame f next (serving + 1) (history value)
        (record { words = set s.words 1 ((get_or s.words 1 0 + 1) % 2 ^ 64); homes = set s.homes 0 (some (Some value)); views = set s.views id left })
    served_kept =
        let tickets' = sum_set (λ (u : View E F). tickets u.stage) s.views id v left at in
        let mine : tickets v.stage ≡ 1 = ap tickets holds in
        let drawn = kept.drawn in
        let none_held = terms_zero (λ (u : View E F). turns_held u.stage) (set s.views id left) out.1 in
        let in_line = All-set (λ (u : View E F). IsInLine serving next u.stage) s.views id left tt kept.in_line in
        let f_is : Some (frame value) ≡ Some f = sym framed ∙ own_frame history frame f next serving found s kept id v at pos in
        let told = all_at (λ (u : View E F). IsPrefix u.seen found × IsPrefix u.told found) s.views id v kept.seen at in
        record {
          words = subst (λ (ws : List ℕ). set ws 1 ((get_or ws 1 0 + 1) % 2 ^ 64) ≡ next % 2 ^ 64 ∷ (serving + 1) % 2 ^ 64 ∷ []) (sym kept.words)
              (ap (λ (x : ℕ). next % 2 ^ 64 ∷ x ∷ []) (mod-add-mod serving (2 ^ 64) 1));
          drawn = omega arith;
          different = λ n. (let changed = sum_set (λ (u : View E F). tickets_of n u.stage) s.views id v left at in let before = kept.different n in omega arith);
          in_line = λ k d h. later_serving serving next _ (in_line k d h) (no_ticket k d h);
          slot = inl (value, ap (λ (hs : List (Slot (Option T))). set hs 0 (some (Some value))) out.0, refl, (let e = f_is in cc), out.1);
          holder = λ k d h. no_holder (serving + 1) (history value) _ (none_held k d h);
          frames = All-set (λ (u : View E F). (u ≡ left_over) ⊎ (u.frame ≡ Some f)) s.views id left (inr (own_frame history frame f next serving found s kept id v at pos)) kept.frames;
          seen = All-set (λ (u : View E F). IsPrefix u.seen (history value) × IsPrefix u.told (history value)) s.views id left
              (prefix_self (history value), prefix_trans v.told found (history value) told.1 grown)
              (all_map (λ (u : View E F). IsPrefix u.seen found × IsPrefix u.told found) (λ u. IsPrefix u.seen (history value) × IsPrefix u.told (history value)) s.views
              (λ u p. (prefix_trans u.seen found (history value) p.0 grown, prefix_trans u.told found (history value) p.1 grown)) kept.seen);
          stand = All-set (λ (u : View E F). All (StandsFrom 0 (history value)) (placed_parties u)) s.views id left left_stand
              (all_map (λ (u : View E F). All (StandsFrom 0 found) (placed_parties u)) (λ u. All (StandsFrom 0 (history value)) (placed_parties u)) s.views
              (λ u all. all_map (StandsFrom 0 found) (StandsFrom 0 (history value)) (placed_parties u) (λ ps st. stands_longer 0 found (history value) ps grown st) all) kept.stand);
          places = λ n. (let changed = sum_set (times_in n) s.views id v left at in let before = kept.places n in let mine' = left_times n in omega arith);
          weights = sum_stays (λ (u : View E F). u.weight) s.views id v left at refl ∙ kept.weights;
          positive = All-set (λ (u : View E F). (u ≡ left_over) ⊎ (1 ≤ u.weight)) s.views id left (inr pos) kept.positive;
        }

  -- a stage that holds the turn shows its ticket and what it found
  same_turn : (k n : ℕ) (a b : List E) (stage : Stage E) → stage ≡ Holding k a → stage ≡ Holding n b → (k ≡ n) × (a ≡ b)
  same_turn k n a b stage e h = (cc, cc)

  first_slot : List (ℕ × Option T) → Option T
  first_slot [] = None
  first_slot (x ∷ xs) = x.1

  same_value : (a b : T) → ◌≡◌ {A = List (ℕ × Option T)} ((0, Some a) ∷ []) ((0, Some b) ∷ []) → a ≡ b
  unfolding first_slot
  same_value a b e = let same : Some a ≡ Some b = ap first_slot e in cc

  serves_from : (slots id : ℕ) (v : View E F) (k : ℕ) (found : List E) (value : T) (st : Step (Option T)) → v.stage ≡ Holding k found → 1 ≤ v.weight
      → IsPrefix found (history value) → v.frame ≡ Some (frame value)
      → Allows (Keeps history frame f) slots id (v, (0, Some value) ∷ []) 1 (λ n. (n + 1) % 2 ^ 64) (Serves history frame st (v, (0, Some value) ∷ []))
  serves_from slots id v k found value st holds pos grown framed s h full at below =
      let is = subst (IsHolder h.1 h.2) holds (all_at (λ (u : View E F). IsHolder h.1 h.2 u.stage) s.views id v (h.3).holder at) in
      let holds' : v.stage ≡ Holding h.1 h.2 = holds ∙ (λ i. Holding (is.0 i) (is.1 i)) in
      let grown' : IsPrefix h.2 (history value) = subst (λ (l : List E). IsPrefix l (history value)) is.1 grown in (
        after_turn v h.2 (history value),
        gives,
        tt,
        (h.0, h.1 + 1, history value, served_kept s h.0 h.1 h.2 h.3 id v at pos holds' value grown' framed),
        λ n found' value' holds'' slots'.
            let same = same_turn h.1 n h.2 found' v.stage holds' holds'' in
            let taken = same_value value value' slots' in
            λ i. (after_turn v (same.1 i) (history (taken i)), []),
      )

  -- the step that serves the next ticket keeps the rule
  pub serves : (slots id : ℕ) (v : View E F) (m : Me (Option T) (View E F)) (k : ℕ) (found : List E) (value : T) (st : Step (Option T)) → m ≡ (v, (0, Some value) ∷ [])
      → v.stage ≡ Holding k found → 1 ≤ v.weight → IsPrefix found (history value) → v.frame ≡ Some (frame value)
      → Allows (Keeps history frame f) slots id m 1 (λ n. (n + 1) % 2 ^ 64) (Serves history frame st m)
  serves slots id v m k found value st is holds pos grown framed =
      subst (λ (x : Me (Option T) (View E F)). Allows (Keeps history frame f) slots id x 1 (λ n. (n + 1) % 2 ^ 64) (Serves history frame st x)) (sym is)
      (serves_from slots id v k found value st holds pos grown framed)
