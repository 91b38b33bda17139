-- A number is drawn.
use Rattle.std.proofs.Common.{◌≡◌, ◌≤◌, ◌<◌, ◌+◌, ◌%◌, ◌^◌, ◌⊎◌, ⊎_elim, inr, ℕ, List, [], ◌∷◌, get_or, set, sum_by, All, None, refl, ap, sym, ◌∙◌, subst, arith}
use Rattle.std.specs.Prelude.{nat_lt}
use Rattle.std.proofs.Math.Nat.{mod-eq_of_lt}
use Rattle.std.proofs.lemmas.List.Elements.{All-set}
use mathlib.Core.Option.{some}
use lib.ListN.{get_elem?}
use Rattle.atomic_table.specs.Table.{State, Step, Me, Allows, keeps}
use Rattle.shared_budget.specs.declared.view.View.{View}
use Rattle.shared_budget.specs.Views.{parties_of, times_in, weight_if, resting, IsPast}
use Rattle.shared_budget.specs.Rule.{left_over, IsKept, Keeps}
use Rattle.shared_budget.specs.Steps.{DrawsOne, kept_from, with_number}
use Rattle.pass_weight.proofs.Totals.{all_map, sum_set, sum_stays, sum_at}
use Rattle.shared_budget.proofs.Counting.{one_if, one_more, none_from, parties_below}
use Rattle.shared_budget.proofs.Views.{IsPast-drawn, IsPast-later, resting_drawn, times_drawn, next_bounded, own_budget}

module _ (budget next : ℕ) (s : State (Unit {0}) View) (kept : IsKept budget next s) (id : ℕ) (v : View)
    (at : get_elem? s.views id ≡ some v) (going_on : v.kept ≡ None) (some_weight : 1 ≤ v.weight) where
  drawn_numbers : (n : ℕ) → sum_by (times_in n) (set s.views id (with_number v next)) ≡ one_if (nat_lt n (next + 1))
  drawn_numbers n =
      let changed = sum_set (times_in n) s.views id v (with_number v next) at in
      let drawn = times_drawn n v next in
      let before = kept.numbers n in
      let more = one_more n next in
      omega arith

  drawn_past : IsPast budget (next + 1) (with_number v next).kept
  drawn_past =
      subst (λ (b : ℕ). IsPast budget (next + 1) (kept_from b next)) (sym (own_budget budget next s kept id v at some_weight)) (IsPast-drawn budget next)

  drawn_within : next + 1 ≤ budget + sum_by resting (set s.views id (with_number v next))
  drawn_within =
      let changed = sum_set resting s.views id v (with_number v next) at in
      let none : resting v ≡ 0 = ap (λ k. weight_if k v.weight) going_on in
      let before = kept.within in
      let same = own_budget budget next s kept id v at some_weight in
      ⊎_elim
      (λ (below : next + 1 ≤ v.budget). omega arith)
      (λ (rests : 1 ≤ resting (with_number v next)). omega arith)
      (resting_drawn v.budget next v.weight some_weight)

  drawn_kept : IsKept budget (next + 1) (record { words = set s.words 0 ((get_or s.words 0 0 + 1) % 2 ^ 64); homes = s.homes; views = set s.views id (with_number v next) })
  drawn_kept =
      let w = with_number v next in
      let no_wrap : (next + 1) % 2 ^ 64 ≡ next + 1 = mod-eq_of_lt (next_bounded budget next s kept) in
      let same = own_budget budget next s kept id v at some_weight in
      record {
        word = subst (λ (ws : List ℕ). set ws 0 ((get_or ws 0 0 + 1) % 2 ^ 64) ≡ (next + 1) ∷ []) (sym kept.word) (ap (λ (x : ℕ). x ∷ []) no_wrap);
        numbers = drawn_numbers;
        past = All-set (λ (u : View). IsPast budget (next + 1) u.kept) s.views id w drawn_past
            (all_map (λ (u : View). IsPast budget next u.kept) (λ u. IsPast budget (next + 1) u.kept) s.views (λ u past. IsPast-later budget next u.kept past) kept.past);
        within = drawn_within;
        bounded = kept.bounded;
        budgets = All-set (λ (u : View). (u ≡ left_over) ⊎ (u.budget ≡ budget)) s.views id w (inr same) kept.budgets;
        weights = sum_stays (λ (u : View). u.weight) s.views id v w at refl ∙ kept.weights;
        positive = All-set (λ (u : View). (u ≡ left_over) ⊎ (1 ≤ u.weight)) s.views id w (inr some_weight) kept.positive;
      }

  -- it exceeds all that the view's parties have drawn
  drawn_exceeds : All (All (λ n. n < next)) (parties_of v)
  drawn_exceeds =
      parties_below next (parties_of v) (λ n past.
      let all = kept.numbers n in
      let none = none_from n next past in
      let mine = sum_at (times_in n) s.views id v at in
      omega arith)

-- the step that draws a number keeps the rule
pub draws_one : (budget slots id : ℕ) (m : Me (Unit {0}) View) (st : Step (Unit {0})) → m.0.kept ≡ None → 1 ≤ m.0.weight
    → Allows (Keeps budget) slots id m 0 (λ n. (n + 1) % 2 ^ 64) (DrawsOne st m)
draws_one budget slots id m st going_on some_weight s h full at below =
    let next = h.0 in
    let kept = h.1 in
    let read : next ≡ get_or s.words 0 0 = sym (ap (λ (ws : List ℕ). get_or ws 0 0) kept.word) in (
      with_number m.0 next,
      keeps,
      tt,
      (next + 1, drawn_kept budget next s kept id m.0 at going_on some_weight),
      (
        ap (λ (n : ℕ). (with_number m.0 n, m.1)) read,
        subst (λ (n : ℕ). All (All (λ k. k < n)) (parties_of m.0)) read (drawn_exceeds budget next s kept id m.0 at going_on some_weight),
      ),
    )
