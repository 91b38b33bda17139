-- A view, and what a table that keeps the rule says of it.
use Rattle.std.proofs.Common.{◌≡◌, ◌≤◌, ◌<◌, ◌+◌, ◌^◌, ◌==◌, ◌⊎◌, ⊎_elim, inl, inr, ℕ, [], ◌∷◌, ◌++◌, Option, Some, None, refl, ap, sym, subst, arith}
use Rattle.std.specs.Prelude.{IfSome}
use Rattle.std.proofs.lemmas.Bool.{cond-true, cond-false, lt-ltb, le-ltb}
use Rattle.std.proofs.lemmas.List.Sums.{sum_by-cons, sum_by-append}
use mathlib.Core.Logic.{dite}
use mathlib.Core.Option.{some}
use native.Mathlib.Decide.{dec_le}
use lib.ListN.{get_elem?}
use Rattle.atomic_table.specs.Table.{State}
use Rattle.shared_budget.specs.declared.view.View.{View}
use Rattle.shared_budget.specs.Numbers.{times}
use Rattle.shared_budget.specs.Views.{parties_of, times_in, weight_if, resting, IsPast}
use Rattle.shared_budget.specs.Rule.{left_over, IsKept}
use Rattle.shared_budget.specs.Calls.{first_of}
use Rattle.shared_budget.specs.Steps.{kept_from, with_number, united}
use Rattle.pass_weight.proofs.Totals.{all_at, all_map, sum_le}
use Rattle.shared_budget.proofs.Counting.{one_if, times_push}

-- what is kept after a number was drawn
pub kept_below : (budget number : ℕ) → number < budget → kept_from budget number ≡ None
kept_below budget number below = cond-true _ None (Some number) (lt-ltb number budget below)

pub kept_past : (budget number : ℕ) → budget ≤ number → kept_from budget number ≡ Some number
kept_past budget number past = cond-false _ None (Some number) (le-ltb number budget past)

pub IsPast-drawn : (budget number : ℕ) → IsPast budget (number + 1) (kept_from budget number)
IsPast-drawn budget number =
    dite (dec_le budget number)
    (λ (past : budget ≤ number). subst (IsPast budget (number + 1)) (sym (kept_past budget number past)) (past, omega arith))
    (λ below. subst (IsPast budget (number + 1)) (sym (kept_below budget number (omega arith))) tt)

pub IsPast-later : (budget next : ℕ) (kept : Option ℕ) → IsPast budget next kept → IsPast budget (next + 1) kept
IsPast-later budget next None past = tt
IsPast-later budget next (Some number) past = (past.0, (let before = past.1 in omega arith))

pub IsPast-first : (budget next : ℕ) (kept other : Option ℕ) → IsPast budget next kept → IsPast budget next other → IsPast budget next (first_of kept other)
IsPast-first budget next None other past past' = past'
IsPast-first budget next (Some number) other past past' = past

pub not_below : (budget own next : ℕ) (kept : Option ℕ) → own ≡ budget → IsPast budget next kept → IfSome kept (λ number. own ≤ number)
not_below budget own next None same past = tt
not_below budget own next (Some number) same past = let least = past.0 in omega arith

-- the weight of those that draw no more: a number that is drawn is within the budget, or one more rests
pub resting_drawn : (budget number weight : ℕ) → 1 ≤ weight → (number + 1 ≤ budget) ⊎ (1 ≤ weight_if (kept_from budget number) weight)
resting_drawn budget number weight some_weight =
    dite (dec_le budget number)
    (λ (past : budget ≤ number). inr (subst (λ (kept : Option ℕ). 1 ≤ weight_if kept weight) (sym (kept_past budget number past)) some_weight))
    (λ below. inl (omega arith))

pub resting_rest : (kept : Option ℕ) (weight : ℕ) → weight_if kept weight ≤ weight
resting_rest None weight = omega arith
resting_rest (Some number) weight = omega arith

pub resting_first : (kept other : Option ℕ) (weight weight' : ℕ) → weight_if kept weight + weight_if other weight' ≤ weight_if (first_of kept other) (weight + weight')
resting_first None None weight weight' = omega arith
resting_first None (Some number) weight weight' = omega arith
resting_first (Some number) None weight weight' = omega arith
resting_first (Some number) (Some number') weight weight' = omega arith

pub resting_split : (kept : Option ℕ) (weight less half : ℕ) → less + half ≡ weight → weight_if kept less + weight_if kept half ≡ weight_if kept weight
resting_split None weight less half both = refl
resting_split (Some number) weight less half both = both

-- the times of a number in a view
pub times_drawn : (n : ℕ) (v : View) (number : ℕ) → times_in n (with_number v number) ≡ times_in n v + one_if (number == n)
times_drawn n v number =
    let before = sum_by-cons (times n) v.own v.joined in
    let after = sum_by-cons (times n) (v.own ++ number ∷ []) v.joined in
    let pushed = times_push n v.own number in
    omega arith

pub times_united : (n : ℕ) (v w : View) → times_in n (united v w) ≡ times_in n v + times_in n w
times_united n v w =
    let all = sum_by-cons (times n) v.own (v.joined ++ parties_of w) in
    let mine = sum_by-cons (times n) v.own v.joined in
    let both = sum_by-append (times n) v.joined (parties_of w) in
    omega arith

pub times_left_over : (n : ℕ) → times_in n left_over ≡ 0
times_left_over n = sum_by-cons (times n) [] []

-- a view with a weight isn't left over
pub not_left : (P : Type 0) (v : View) → 1 ≤ v.weight → (v ≡ left_over) ⊎ P → P
not_left P v some_weight either =
    ⊎_elim (λ (is : v ≡ left_over). absurd (let weight = ap (λ (u : View). u.weight) is in omega arith)) (λ p. p) either

module _ (budget next : ℕ) (s : State (Unit {0}) View) (kept : IsKept budget next s) where
  -- the word stays far below 2^64
  pub next_bounded : next + 1 < 2 ^ 64
  next_bounded =
      let each = all_map (λ (u : View). (u ≡ left_over) ⊎ (1 ≤ u.weight)) (λ u. resting u ≤ u.weight) s.views (λ u _. resting_rest u.kept u.weight) kept.positive in
      let fewer = sum_le resting (λ (v : View). v.weight) s.views each in
      let within = kept.within in
      let most = kept.bounded in
      let whole = kept.weights in
      omega arith

  module _ (id : ℕ) (v : View) (at : get_elem? s.views id ≡ some v) where
    pub own_budget : 1 ≤ v.weight → v.budget ≡ budget
    own_budget some_weight =
        not_left (v.budget ≡ budget) v some_weight (all_at (λ (u : View). (u ≡ left_over) ⊎ (u.budget ≡ budget)) s.views id v kept.budgets at)

    pub own_past : IsPast budget next v.kept
    own_past = all_at (λ (u : View). IsPast budget next u.kept) s.views id v kept.past at
