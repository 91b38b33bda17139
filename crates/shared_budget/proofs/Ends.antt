-- The table at its start and at its end.
use Rattle.std.proofs.Common.{◌≡◌, ◌≤◌, ◌+◌, ◌⊎◌, ⊎_elim, inr, ℕ, List, [], ◌∷◌, sum_by, Option, Some, None, refl, ap, sym, ◌∙◌, subst, arith}
use Rattle.std.proofs.lemmas.List.Elements.{All-nil, All-cons}
use Rattle.std.proofs.lemmas.List.Sums.{sum_by-cons}
use mathlib.Core.Option.{some}
use lib.ListN.{get_elem?}
use Rattle.atomic_table.specs.Table.{State, Final, Seen, opening}
use Rattle.shared_budget.specs.declared.view.View.{View}
use Rattle.shared_budget.specs.declared.draws.TheConstants.{MOST_BUDGET}
use Rattle.pass_weight.specs.declared.whole_weight.TheConstants.{WHOLE_WEIGHT}
use Rattle.shared_budget.specs.Numbers.{times, AreAllBelow, IsEnd}
use Rattle.shared_budget.specs.Views.{parties_of, times_in, weight_if, resting, IsPast}
use Rattle.shared_budget.specs.Rule.{first_view, left_over, IsKept, Keeps}
use Rattle.pass_weight.proofs.Totals.{sum_alone, all_map}
use Rattle.shared_budget.proofs.Counting.{none_yet}
use Rattle.shared_budget.proofs.Views.{times_left_over, own_budget, own_past}

-- the table of a new word keeps the rule
pub opens : (budget : ℕ) → budget ≤ MOST_BUDGET → Keeps budget (opening (0 ∷ []) [] (first_view budget))
opens budget bounded = (
  0,
  record {
    word = refl;
    numbers = λ n. (let one = sum_by-cons (times_in n) (first_view budget) [] in let none = sum_by-cons (times n) [] [] in let zero = none_yet n in omega arith);
    past = All-cons (λ (u : View). IsPast budget 0 u.kept) (first_view budget) [] tt (All-nil _);
    within = omega arith;
    bounded = bounded;
    budgets = All-cons (λ (u : View). (u ≡ left_over) ⊎ (u.budget ≡ budget)) (first_view budget) [] (inr refl) (All-nil _);
    weights = refl;
    positive = All-cons (λ (u : View). (u ≡ left_over) ⊎ (1 ≤ u.weight)) (first_view budget) [] (inr (omega arith)) (All-nil _);
  },
)

-- a view without weight is left over
weightless : (g : View → ℕ) → g left_over ≡ 0 → (u : View) → (u ≡ left_over) ⊎ (1 ≤ u.weight) → u.weight ≡ 0 → g u ≡ 0
weightless g nothing u either light =
    ⊎_elim (λ (is : u ≡ left_over). ap g is ∙ nothing) (λ (some_weight : 1 ≤ u.weight). absurd (omega arith)) either

end_of : (budget next weight : ℕ) (kept : Option ℕ) → IsPast budget next kept → next ≤ budget + weight_if kept weight → IsEnd next budget kept
end_of budget next weight None past within = omega arith
end_of budget next weight (Some number) past within = past

module _ (budget next : ℕ) (s : State (Unit {0}) View) (kept : IsKept budget next s) (id : ℕ) (v : View)
    (at : get_elem? s.views id ≡ some v) (whole : v.weight ≡ WHOLE_WEIGHT) where
  -- a view with the whole weight has all that all views have
  alone : (g : View → ℕ) → g left_over ≡ 0 → sum_by g s.views ≡ g v
  alone g nothing =
      sum_alone (λ (u : View). u.weight) g s.views id v left_over at refl nothing (kept.weights ∙ sym whole)
      (all_map (λ (u : View). (u ≡ left_over) ⊎ (1 ≤ u.weight)) (λ u. u.weight ≡ 0 → g u ≡ 0) s.views (λ u either. weightless g nothing u either) kept.positive)

  last_end : IsEnd next v.budget v.kept
  last_end =
      let same = own_budget budget next s kept id v at (omega arith) in
      let rest = alone resting refl in
      let before = kept.within in
      subst (λ (b : ℕ). IsEnd next b v.kept) (sym same) (end_of budget next v.weight v.kept (own_past budget next s kept id v at) (omega arith))

-- what a drawer with the whole weight knows at the end
pub closes : (budget id : ℕ) (v : View) (words : List ℕ) (items : List (Unit {0})) → v.weight ≡ WHOLE_WEIGHT → Final (Seen (Keeps budget) id v) words items
    → (next : ℕ) × AreAllBelow next (parties_of v) × IsEnd next v.budget v.kept
closes budget id v words items whole final =
    let s = final.0 in
    let next = final.1.0.0 in
    let kept = final.1.0.1 in
    let at = final.1.1 in (
      next,
      (λ n. sym (alone budget next s kept id v at whole (times_in n) (times_left_over n)) ∙ kept.numbers n),
      last_end budget next s kept id v at whole,
    )
