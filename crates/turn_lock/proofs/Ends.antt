-- The table at its start and at its end.
use Rattle.std.proofs.Common.{◌≡◌, ◌≤◌, ◌+◌, ◌^◌, ◌⊎◌, ⊎_elim, inl, inr, ℕ, List, [], ◌∷◌, map, sum_by, All, Option, Some, refl, ap, sym, ◌∙◌, subst, arith}
use Rattle.std.specs.Prelude.{nat_lt}
use Rattle.std.proofs.lemmas.Bool.Decides.{nat_tests}
use Rattle.std.proofs.lemmas.List.Elements.{All-nil, All-cons}
use Rattle.std.proofs.lemmas.List.Sums.{sum_by-cons}
use mathlib.Core.List.{IsPrefix}
use mathlib.Core.Option.{Option as Slot, some, some-injective}
use lib.ListN.{get_elem?}
use Rattle.pass_weight.specs.declared.whole_weight.TheConstants.{WHOLE_WEIGHT}
use Rattle.atomic_table.specs.Table.{State, Final, Seen, opening}
use Rattle.turn_lock.specs.declared.view.View.{View}
use Rattle.turn_lock.specs.declared.view.Stage.TheVariants.{Idle}
use Rattle.turn_lock.specs.Interleaving.{IsInterleaving}
use Rattle.turn_lock.specs.Views.{one_if, turns_held, IsInLine, IsHolder, StandsFrom, placed_parties, times, times_in}
use Rattle.turn_lock.specs.Rule.{first_view, left_over, IsKept, Keeps}
use Rattle.turn_lock.specs.Inside.{entries}
use Rattle.pass_weight.proofs.Totals.{all_at, all_map, sum_alone}
use Rattle.turn_lock.proofs.Prefixes.{prefix_nil}
use Rattle.turn_lock.proofs.Interleavings.{interleaved_from}
use Rattle.turn_lock.proofs.Kept.{own_frame, left_over_times}

none_yet : (n : ℕ) → one_if (nat_lt n 0) ≡ 0
none_yet n = grind (arith, nat_tests)

module _ {T E F : Type 0} (history : T → List E) (frame : T → F) (f : F) where
  first_times : (n : ℕ) → times_in n (first_view {E = E} f) + 0 ≡ 0
  first_times n = let none' = sum_by-cons (times {E = E} n) [] [] in omega arith

  -- the table of a new lock keeps the rule
  pub opens : (first : T) → history first ≡ [] → frame first ≡ f → Keeps history frame f (opening (0 ∷ 0 ∷ []) (Some first ∷ []) (first_view f))
  opens first empty framed = (
    0,
    0,
    [],
    record {
      words = refl;
      drawn = refl;
      different = λ n. omega arith;
      in_line = All-cons (λ (u : View E F). IsInLine 0 0 u.stage) (first_view f) [] tt (All-nil _);
      slot = inl (first, refl, empty, framed, refl);
      holder = All-cons (λ (u : View E F). IsHolder 0 [] u.stage) (first_view f) [] tt (All-nil _);
      frames = All-cons (λ (u : View E F). (u ≡ left_over) ⊎ (u.frame ≡ Some f)) (first_view f) [] (inr refl) (All-nil _);
      seen = All-cons (λ (u : View E F). IsPrefix u.seen [] × IsPrefix u.told []) (first_view f) [] (prefix_nil [], prefix_nil []) (All-nil _);
      stand = All-cons (λ (u : View E F). All (StandsFrom 0 []) (placed_parties u)) (first_view f) [] (All-cons (StandsFrom {E = E} 0 []) [] [] tt (All-nil _)) (All-nil _);
      places = λ n. sum_by-cons (times_in {E = E} {F = F} n) (first_view f) [] ∙ first_times n ∙ sym (none_yet n);
      weights = refl;
      positive = All-cons (λ (u : View E F). (u ≡ left_over) ⊎ (1 ≤ u.weight)) (first_view f) [] (inr (omega arith)) (All-nil _);
    },
  )

  -- what a pass with the whole weight knows of the value at the end
  pub record IsLast (v : View E F) (value : T) : Type 0 where
    pub framed : v.frame ≡ Some (frame value)
    pub begins : IsPrefix v.seen (history value)
    pub interleaved : IsInterleaving (history value) (map entries (placed_parties v))

  -- a view without weight has no place and holds no turn
  weightless : (g : View E F → ℕ) → g left_over ≡ 0 → (u : View E F) → (u ≡ left_over) ⊎ (1 ≤ u.weight) → u.weight ≡ 0 → g u ≡ 0
  weightless g none' u either light = ⊎_elim (λ (e : u ≡ left_over). ap g e ∙ none') (λ (h : 1 ≤ u.weight). absurd (omega arith)) either

  module _ (s : State (Option T) (View E F)) (next serving : ℕ) (served : List E) (kept : IsKept history frame f next serving served s) (id : ℕ) (v : View E F)
      (at : get_elem? s.views id ≡ some v) (idle : v.stage ≡ Idle) (whole : v.weight ≡ WHOLE_WEIGHT) where
    -- a pass with the whole weight has all that all views have
    alone : (g : View E F → ℕ) → g left_over ≡ 0 → sum_by g s.views ≡ g v
    alone g none' = sum_alone (λ (u : View E F). u.weight) g s.views id v left_over at refl none' (kept.weights ∙ sym whole)
        (all_map (λ (u : View E F). (u ≡ left_over) ⊎ (1 ≤ u.weight)) (λ u. u.weight ≡ 0 → g u ≡ 0) s.views (λ u either. weightless g none' u either) kept.positive)

    last : (value : T) × (s.homes ≡ some (Some value) ∷ []) × IsLast v value
    last =
        let nobody : sum_by (λ (u : View E F). turns_held u.stage) s.views ≡ 0 = alone (λ u. turns_held u.stage) refl ∙ ap turns_held idle in
        let framed = own_frame history frame f next serving served s kept id v at (omega arith) in
        let begins = all_at (λ (u : View E F). IsPrefix u.seen served × IsPrefix u.told served) s.views id v kept.seen at in
        let stand = all_at (λ (u : View E F). All (StandsFrom 0 served) (placed_parties u)) s.views id v kept.stand at in
        let interleaved = interleaved_from [] served served (placed_parties v) 0 refl refl stand
        (λ k le. sym (alone (times_in k) (left_over_times E F k)) ∙ kept.places k) in
        ⊎_elim
        (λ home. (
          home.0,
          home.1,
          record {
            framed = framed ∙ ap (λ (x : F). Some x) (sym home.3);
            begins = subst (IsPrefix v.seen) (sym home.2) begins.0;
            interleaved = subst (λ (l : List E). IsInterleaving l (map entries (placed_parties v))) (sym home.2) interleaved;
          },
        ))
        (λ away. absurd (let one = away.1 in omega arith))
        kept.slot

  -- the value that comes out at the end
  pub closes : (id : ℕ) (v : View E F) (words : List ℕ) (items : List (Option T)) (x : Option T) → v.stage ≡ Idle → v.weight ≡ WHOLE_WEIGHT
      → Final (Seen (Keeps history frame f) id v) words items → get_elem? items 0 ≡ some x → (value : T) × (x ≡ Some value) × IsLast v value
  closes id v words items x idle whole final taken =
      let h = final.1.0 in
      let l = last final.0 h.0 h.1 h.2 h.3 id v final.1.1 idle whole in
      let there : get_elem? items 0 ≡ some (Some l.0) = final.4 0 (Some l.0) (ap (λ (hs : List (Slot (Option T))). get_elem? hs 0) l.1) in
      (l.0, some-injective _ _ (sym taken ∙ there), l.2)
