-- A drawer is split, two drawers are joined, and the joined one learns what the rule says of it.
use Rattle.std.proofs.Common.{◌≡◌, ◌≤◌, ◌+◌, ◌-◌, ◌/◌, ◌⊎◌, ⊎_elim, inl, inr, ℕ, List, [], ◌∷◌, ◌++◌, set, sum_by, All, refl, sym, ◌∙◌, subst, arith}
use Rattle.std.proofs.lemmas.List.{set-get_or}
use Rattle.std.proofs.lemmas.List.Elements.{All-set, All-push}
use Rattle.std.proofs.lemmas.List.Sums.{sum_by-cons, sum_by_push}
use mathlib.Core.Option.{some}
use lib.ListN.{get_elem?}
use Rattle.atomic_table.specs.Table.{State, Step, Me, Allows, Splits, Joins, keeps}
use Rattle.atomic_table.proofs.Lists.{at_set, set_again}
use Rattle.shared_budget.specs.declared.view.View.{View}
use Rattle.shared_budget.specs.Numbers.{times}
use Rattle.shared_budget.specs.Views.{times_in, resting, IsPast}
use Rattle.shared_budget.specs.Rule.{left_over, IsKept, Keeps}
use Rattle.shared_budget.specs.Steps.{Weighs, kept_half, new_half, united}
use Rattle.pass_weight.proofs.Totals.{sum_set, sum_at}
use Rattle.shared_budget.proofs.Views.{IsPast-first, not_below, resting_first, resting_split, times_united, times_left_over, own_budget, own_past}

module _ (budget next : ℕ) (s : State (Unit {0}) View) (kept : IsKept budget next s) (id : ℕ) (v : View) (at : get_elem? s.views id ≡ some v) where
  abbrev split_views : List View
  split_views = set s.views id (kept_half v) ++ new_half v ∷ []

  split_sum : (g : View → ℕ) → g (kept_half v) + g (new_half v) ≡ g v → sum_by g split_views ≡ sum_by g s.views
  split_sum g both =
      let changed = sum_set g s.views id v (kept_half v) at in
      let pushed = sum_by_push g (set s.views id (kept_half v)) (new_half v) in
      omega arith

  split_all : (P : View → Type 0) → All P s.views → P (kept_half v) → P (new_half v) → All P split_views
  split_all P all old new = All-push P (set s.views id (kept_half v)) (new_half v) (All-set P s.views id (kept_half v) old all) new

  split_kept : 2 ≤ v.weight → IsKept budget next (record { words = s.words; homes = s.homes; views = split_views })
  split_kept room =
      let same = own_budget budget next s kept id v at (omega arith) in
      let past = own_past budget next s kept id v at in
      let halves : v.weight - v.weight / 2 + v.weight / 2 ≡ v.weight = omega arith in
      record {
        word = kept.word;
        numbers = λ n. split_sum (times_in n) (let none = sum_by-cons (times n) [] [] in omega arith) ∙ kept.numbers n;
        past = split_all (λ (u : View). IsPast budget next u.kept) kept.past past past;
        within = (let rest = split_sum resting (resting_split v.kept v.weight _ _ halves) in let before = kept.within in omega arith);
        bounded = kept.bounded;
        budgets = split_all (λ (u : View). (u ≡ left_over) ⊎ (u.budget ≡ budget)) kept.budgets (inr same) (inr same);
        weights = split_sum (λ (u : View). u.weight) halves ∙ kept.weights;
        positive = split_all (λ (u : View). (u ≡ left_over) ⊎ (1 ≤ u.weight)) kept.positive (inr (omega arith)) (inr (omega arith));
      }

  module _ (other : ℕ) (w : View) (apart : ¬ (other ≡ id)) (there : get_elem? (set s.views id (united v w)) other ≡ some w) where
    -- it stood there before
    stood : get_elem? s.views other ≡ some w
    stood = ⊎_elim (λ (t : (other ≡ id) × (united v w ≡ w)). absurd (apart t.0)) (λ t. t.1) (at_set s.views id other (united v w) w there)

    abbrev joined_views : List View
    joined_views = set (set s.views id (united v w)) other left_over

    joined_sum : (g : View → ℕ) → g left_over ≡ 0 → sum_by g joined_views + (g v + g w) ≡ sum_by g s.views + g (united v w)
    joined_sum g none =
        let first = sum_set g s.views id v (united v w) at in
        let second = sum_set g (set s.views id (united v w)) other w left_over there in
        omega arith

    joined_all : (P : View → Type 0) → All P s.views → P (united v w) → P left_over → All P joined_views
    joined_all P all both none = All-set P (set s.views id (united v w)) other left_over none (All-set P s.views id (united v w) both all)

    joined_kept : 1 ≤ v.weight → IsKept budget next (record { words = s.words; homes = s.homes; views = joined_views })
    joined_kept some_weight =
        let same = own_budget budget next s kept id v at some_weight in
        let past = IsPast-first budget next v.kept w.kept (own_past budget next s kept id v at) (own_past budget next s kept other w stood) in
        record {
          word = kept.word;
          numbers = λ n. (let sum = joined_sum (times_in n) (times_left_over n) in let both = times_united n v w in let before = kept.numbers n in omega arith);
          past = joined_all (λ (u : View). IsPast budget next u.kept) kept.past past tt;
          within = (let sum = joined_sum resting refl in let more = resting_first v.kept w.kept v.weight w.weight in let before = kept.within in omega arith);
          bounded = kept.bounded;
          budgets = joined_all (λ (u : View). (u ≡ left_over) ⊎ (u.budget ≡ budget)) kept.budgets (inr same) (inl refl);
          weights = (let sum = joined_sum (λ (u : View). u.weight) refl in let before = kept.weights in omega arith);
          positive = joined_all (λ (u : View). (u ≡ left_over) ⊎ (1 ≤ u.weight)) kept.positive (inr (omega arith)) (inl refl);
        }

-- a split keeps the rule
pub splits : (budget id : ℕ) (v : View) → 2 ≤ v.weight → Splits (Keeps budget) id v (kept_half v) (new_half v)
splits budget id v room s h at = (h.0, split_kept budget h.0 s h.1 id v at room)

-- a join keeps the rule
pub joins : (budget id : ℕ) (v : View) (other : ℕ) (w : View) → 1 ≤ v.weight → Joins (Keeps budget) id v other w (united v w) left_over
joins budget id v other w some_weight s h at apart there = (h.0, joined_kept budget h.0 s h.1 id v at other w apart there some_weight)

-- the load changes nothing
pub weighs : (budget slots id : ℕ) (m : Me (Unit {0}) View) (st : Step (Unit {0})) → 1 ≤ m.0.weight → Allows (Keeps budget) slots id m 0 (λ n. n) (Weighs st m)
weighs budget slots id m st some_weight s h full at below =
    let kept = h.1 in
    let same = own_budget budget h.0 s kept id m.0 at some_weight in
    let past = own_past budget h.0 s kept id m.0 at in
    let part = sum_at (λ (u : View). u.weight) s.views id m.0 at in
    let whole = kept.weights in (
      m.0,
      keeps,
      tt,
      subst (Keeps budget) (λ i. record { words = sym (set-get_or s.words 0 0) i; homes = s.homes; views = sym (set_again s.views id m.0 at) i }) h,
      (refl, omega arith, not_below budget m.0.budget h.0 m.0.kept same past),
    )
