-- A pass is split, two passes are joined, and the joined pass compares what both had seen.
use Rattle.std.proofs.Common.{◌≡◌, ◌≤◌, ◌+◌, ◌^◌, ◌⊎◌, ⊎_elim, inl, inr, ℕ, List, [], ◌∷◌, ◌++◌, length, get_or, set, sum_by, All, Option, Some, refl, ap, sym, ◌∙◌, subst, arith}
use Rattle.std.proofs.lemmas.List.{set-get_or}
use Rattle.std.proofs.lemmas.List.Elements.{All-set, All-cons, All-head, All-tail, All-push, All-append}
use Rattle.std.proofs.lemmas.List.Sums.{sum_by-cons, sum_by-append, sum_by_push}
use mathlib.Core.Logic.{dite}
use mathlib.Core.List.{IsPrefix}
use mathlib.Core.Option.{some}
use native.Mathlib.Decide.{dec_le}
use lib.ListN.{get_elem?}
use Rattle.pass_weight.specs.declared.whole_weight.TheConstants.{WHOLE_WEIGHT}
use Rattle.atomic_table.specs.Table.{State, Step, Me, Allows, Splits, Joins, keeps}
use Rattle.atomic_table.proofs.Lists.{at_set}
use Rattle.turn_lock.specs.declared.view.View.{View}
use Rattle.turn_lock.specs.declared.view.Stage.TheVariants.{Idle}
use Rattle.turn_lock.specs.Views.{tickets, tickets_of, turns_held, IsInLine, IsHolder, StandsFrom, placed_parties, times, times_in}
use Rattle.turn_lock.specs.Rule.{left_over, IsKept, Keeps}
use Rattle.turn_lock.specs.Steps.{Compares, kept_half, new_half, merged, settled}
use Rattle.pass_weight.proofs.Totals.{all_at, sum_at, sum_set, sum_stays}
use Rattle.turn_lock.proofs.Prefixes.{prefix_self, prefix_nil, prefix_shorter}
use Rattle.turn_lock.proofs.Kept.{own_frame, slot_stays, left_over_times}

module _ {T E F : Type 0} (history : T → List E) (frame : T → F) (f : F) where
  -- a sum over the views after a split
  split_sum : (g : View E F → ℕ) (views : List (View E F)) (id : ℕ) (v : View E F) → get_elem? views id ≡ some v
      → sum_by g (set views id (kept_half v) ++ new_half v ∷ []) + g v ≡ sum_by g views + (g (kept_half v) + g (new_half v))
  split_sum g views id v at =
      let changed = sum_set g views id v (kept_half v) at in
      let pushed = sum_by_push g (set views id (kept_half v)) (new_half v) in
      omega arith

  split_all : (P : View E F → Type 0) (views : List (View E F)) (id : ℕ) (v : View E F) → All P views → P (kept_half v) → P (new_half v)
      → All P (set views id (kept_half v) ++ new_half v ∷ [])
  split_all P views id v all old new = All-push P (set views id (kept_half v)) (new_half v) (All-set P views id (kept_half v) old all) new

  module _ (s : State (Option T) (View E F)) (next serving : ℕ) (served : List E) (kept : IsKept history frame f next serving served s) (id : ℕ) (v : View E F)
      (at : get_elem? s.views id ≡ some v) where
    split_kept : 2 ≤ v.weight → IsKept history frame f next serving served
        (record { words = s.words; homes = s.homes; views = set s.views id (kept_half v) ++ new_half v ∷ [] })
    split_kept pos =
        let views = set s.views id (kept_half v) ++ new_half v ∷ [] in
        let seen = all_at (λ (u : View E F). IsPrefix u.seen served × IsPrefix u.told served) s.views id v kept.seen at in
        let framed = own_frame history frame f next serving served s kept id v at (omega arith) in
        let stays : (g : View E F → ℕ) → g (kept_half v) ≡ g v → g (new_half v) ≡ 0 → sum_by g views ≡ sum_by g s.views =
        (λ g old new. let e = split_sum g s.views id v at in omega arith) in
        record {
          words = kept.words;
          drawn = ap (λ (n : ℕ). serving + n) (stays (λ u. tickets u.stage) refl refl) ∙ kept.drawn;
          different = λ n. subst (λ (m : ℕ). m ≤ 1) (sym (stays (λ u. tickets_of n u.stage) refl refl)) (kept.different n);
          in_line = split_all (λ u. IsInLine serving next u.stage) s.views id v kept.in_line (all_at (λ (u : View E F). IsInLine serving next u.stage) s.views id v kept.in_line at) tt;
          slot = slot_stays history frame f next serving served s views (stays (λ u. turns_held u.stage) refl refl) kept.slot;
          holder = split_all (λ u. IsHolder serving served u.stage) s.views id v kept.holder (all_at (λ (u : View E F). IsHolder serving served u.stage) s.views id v kept.holder at) tt;
          frames = split_all (λ u. (u ≡ left_over) ⊎ (u.frame ≡ Some f)) s.views id v kept.frames (inr framed) (inr framed);
          seen = split_all (λ u. IsPrefix u.seen served × IsPrefix u.told served) s.views id v kept.seen seen (seen.0, prefix_nil served);
          stand = split_all (λ u. All (StandsFrom 0 served) (placed_parties u)) s.views id v kept.stand
              (all_at (λ (u : View E F). All (StandsFrom 0 served) (placed_parties u)) s.views id v kept.stand at)
              (All-cons (StandsFrom 0 served) [] [] tt (λ k d h. absurd (omega arith)));
          places = λ n. stays (times_in n) refl (sum_by-cons (times {E = E} n) [] []) ∙ kept.places n;
          weights = (let e = split_sum (λ u. u.weight) s.views id v at in let whole = kept.weights in omega arith);
          positive = split_all (λ u. (u ≡ left_over) ⊎ (1 ≤ u.weight)) s.views id v kept.positive (inr (omega arith)) (inr (omega arith));
        }

    compared_kept : (seen : List E) → IsPrefix seen served → 1 ≤ v.weight → IsKept history frame f next serving served
        (record { words = set s.words 0 (get_or s.words 0 0); homes = s.homes; views = set s.views id (settled v seen) })
    compared_kept seen begins pos =
        let w = settled v seen in
        record {
          words = set-get_or s.words 0 0 ∙ kept.words;
          drawn = ap (λ (n : ℕ). serving + n) (sum_stays (λ (u : View E F). tickets u.stage) s.views id v w at refl) ∙ kept.drawn;
          different = λ n. subst (λ (m : ℕ). m ≤ 1) (sym (sum_stays (λ (u : View E F). tickets_of n u.stage) s.views id v w at refl)) (kept.different n);
          in_line = All-set (λ (u : View E F). IsInLine serving next u.stage) s.views id w (all_at (λ (u : View E F). IsInLine serving next u.stage) s.views id v kept.in_line at) kept.in_line;
          slot = slot_stays history frame f next serving served s (set s.views id w) (sum_stays (λ (u : View E F). turns_held u.stage) s.views id v w at refl) kept.slot;
          holder = All-set (λ (u : View E F). IsHolder serving served u.stage) s.views id w (all_at (λ (u : View E F). IsHolder serving served u.stage) s.views id v kept.holder at) kept.holder;
          frames = All-set (λ (u : View E F). (u ≡ left_over) ⊎ (u.frame ≡ Some f)) s.views id w (inr (own_frame history frame f next serving served s kept id v at pos)) kept.frames;
          seen = All-set (λ (u : View E F). IsPrefix u.seen served × IsPrefix u.told served) s.views id w (begins, prefix_nil served) kept.seen;
          stand = All-set (λ (u : View E F). All (StandsFrom 0 served) (placed_parties u)) s.views id w (all_at (λ (u : View E F). All (StandsFrom 0 served) (placed_parties u)) s.views id v kept.stand at) kept.stand;
          places = λ n. sum_stays (times_in n) s.views id v w at refl ∙ kept.places n;
          weights = sum_stays (λ (u : View E F). u.weight) s.views id v w at refl ∙ kept.weights;
          positive = All-set (λ (u : View E F). (u ≡ left_over) ⊎ (1 ≤ u.weight)) s.views id w (inr pos) kept.positive;
        }

    module _ (other : ℕ) (w : View E F) (apart : ¬ (other ≡ id)) (there : get_elem? (set s.views id (merged v w)) other ≡ some w) where
      -- it stood there before
      stood : get_elem? s.views other ≡ some w
      stood = ⊎_elim (λ (t : (other ≡ id) × (merged v w ≡ w)). absurd (apart t.0)) (λ t. t.1) (at_set s.views id other (merged v w) w there)

      -- a sum over the views after a join
      join_sum : (g : View E F → ℕ) → g (merged v w) ≡ g v + g w → g left_over ≡ 0
          → sum_by g (set (set s.views id (merged v w)) other left_over) ≡ sum_by g s.views
      join_sum g both none' =
          let first = sum_set g s.views id v (merged v w) at in
          let second = sum_set g (set s.views id (merged v w)) other w left_over there in
          omega arith

      join_all : (P : View E F → Type 0) → All P s.views → P (merged v w) → P left_over → All P (set (set s.views id (merged v w)) other left_over)
      join_all P all both none' = All-set P (set s.views id (merged v w)) other left_over none' (All-set P s.views id (merged v w) both all)

      merged_times : (n : ℕ) → times_in n (merged v w) ≡ times_in n v + times_in n w
      merged_times n =
          let all = sum_by-cons (times n) v.own (v.joined ++ w.own ∷ w.joined) in
          let mine = sum_by-cons (times n) v.own v.joined in
          let both = sum_by-append (times n) v.joined (w.own ∷ w.joined) in
          omega arith

      joined_kept : v.stage ≡ Idle → w.stage ≡ Idle → 1 ≤ v.weight → IsKept history frame f next serving served
          (record { words = s.words; homes = s.homes; views = set (set s.views id (merged v w)) other left_over })
      joined_kept idle idle' pos =
          let views = set (set s.views id (merged v w)) other left_over in
          let seen = all_at (λ (u : View E F). IsPrefix u.seen served × IsPrefix u.told served) s.views id v kept.seen at in
          let seen' = all_at (λ (u : View E F). IsPrefix u.seen served × IsPrefix u.told served) s.views other w kept.seen stood in
          let stand = all_at (λ (u : View E F). All (StandsFrom 0 served) (placed_parties u)) s.views id v kept.stand at in
          let stand' = all_at (λ (u : View E F). All (StandsFrom 0 served) (placed_parties u)) s.views other w kept.stand stood in
          let by_stage : (g : _ → ℕ) → g Idle ≡ 0 → sum_by (λ (u : View E F). g u.stage) views ≡ sum_by (λ (u : View E F). g u.stage) s.views =
          (λ g none'. let mine' = ap g idle' in join_sum (λ u. g u.stage) (omega arith) none') in
          record {
            words = kept.words;
            drawn = ap (λ (n : ℕ). serving + n) (by_stage tickets refl) ∙ kept.drawn;
            different = λ n. subst (λ (m : ℕ). m ≤ 1) (sym (by_stage (tickets_of n) refl)) (kept.different n);
            in_line = join_all (λ u. IsInLine serving next u.stage) kept.in_line (all_at (λ (u : View E F). IsInLine serving next u.stage) s.views id v kept.in_line at) tt;
            slot = slot_stays history frame f next serving served s views (by_stage turns_held refl) kept.slot;
            holder = join_all (λ u. IsHolder serving served u.stage) kept.holder (all_at (λ (u : View E F). IsHolder serving served u.stage) s.views id v kept.holder at) tt;
            frames = join_all (λ u. (u ≡ left_over) ⊎ (u.frame ≡ Some f)) kept.frames (inr (own_frame history frame f next serving served s kept id v at pos)) (inl refl);
            seen = join_all (λ u. IsPrefix u.seen served × IsPrefix u.told served) kept.seen (seen.0, seen'.0) (prefix_nil served, prefix_nil served);
            stand = join_all (λ u. All (StandsFrom 0 served) (placed_parties u)) kept.stand
                (All-cons (StandsFrom 0 served) v.own (v.joined ++ w.own ∷ w.joined) (All-head (StandsFrom 0 served) v.own v.joined stand)
                (All-append (StandsFrom 0 served) v.joined (w.own ∷ w.joined) (All-tail (StandsFrom 0 served) v.own v.joined stand) stand'))
                (All-cons (StandsFrom 0 served) [] [] tt (λ k d h. absurd (omega arith)));
            places = λ n. join_sum (times_in n) (merged_times n) (left_over_times E F n) ∙ kept.places n;
            weights = join_sum (λ u. u.weight) refl refl ∙ kept.weights;
            positive = join_all (λ u. (u ≡ left_over) ⊎ (1 ≤ u.weight)) kept.positive (inr (omega arith)) (inl refl);
          }

  -- a split keeps the rule
  pub splits : (id : ℕ) (v : View E F) → 2 ≤ v.weight → Splits (Keeps history frame f) id v (kept_half v) (new_half v)
  splits id v pos s h at = (h.0, h.1, h.2, split_kept s h.0 h.1 h.2 h.3 id v at pos)

  -- a join keeps the rule
  pub joins : (id : ℕ) (v : View E F) (other : ℕ) (w : View E F) → v.stage ≡ Idle → w.stage ≡ Idle → 1 ≤ v.weight
      → Joins (Keeps history frame f) id v other w (merged v w) left_over
  joins id v other w idle idle' pos s h at apart there = (h.0, h.1, h.2, joined_kept s h.0 h.1 h.2 h.3 id v at other w apart there idle idle' pos)

  -- the step that compares keeps the rule
  pub compares : (slots id : ℕ) (m : Me (Option T) (View E F)) (st : Step (Option T)) → 1 ≤ m.0.weight
      → Allows (Keeps history frame f) slots id m 0 (λ n. n) (Compares st m)
  compares slots id m st pos s h full at below =
      let v = m.0 in
      let kept = h.3 in
      let served = h.2 in
      let begins = all_at (λ (u : View E F). IsPrefix u.seen served × IsPrefix u.told served) s.views id v kept.seen at in
      let whole = kept.weights in
      let bounded : v.weight ≤ WHOLE_WEIGHT = (let mine = sum_at (λ (u : View E F). u.weight) s.views id v at in omega arith) in
      dite (dec_le (length v.seen) (length v.told))
      (λ (le : length v.seen ≤ length v.told). (
        settled v v.told,
        keeps,
        tt,
        (h.0, h.1, h.2, compared_kept s h.0 h.1 h.2 kept id v at v.told begins.1 pos),
        (v.told, refl, prefix_shorter v.seen v.told served begins.0 begins.1 le, prefix_self v.told, inr refl, bounded),
      ))
      (λ more. (
        settled v v.seen,
        keeps,
        tt,
        (h.0, h.1, h.2, compared_kept s h.0 h.1 h.2 kept id v at v.seen begins.0 pos),
        (v.seen, refl, prefix_self v.seen, prefix_shorter v.told v.seen served begins.1 begins.0 (omega arith), inl refl, bounded),
      ))
