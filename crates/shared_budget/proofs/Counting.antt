-- How often a number stands among the numbers of parties.
use Rattle.std.proofs.Common.{◌≡◌, ◌≤◌, ◌<◌, ◌+◌, ◌==◌, ℕ, List, [], ◌∷◌, ◌++◌, sum_by, All, arith}
use Rattle.std.specs.Prelude.{nat_lt, Bool, cond}
use Rattle.std.proofs.lemmas.Bool.Decides.{nat_tests}
use Rattle.std.proofs.lemmas.List.Elements.{All-nil, All-cons}
use Rattle.std.proofs.lemmas.List.Sums.{sum_by-cons, sum_by_push}
use mathlib.Core.Logic.{dite}
use native.Mathlib.Decide.{dec_le}
use Rattle.shared_budget.specs.Numbers.{times}

-- what a number counts for, by this test
abbrev pub one_if : Bool → ℕ
one_if test = cond test 1 0

one_here : (n : ℕ) → one_if (n == n) ≡ 1
one_here n = grind (arith, nat_tests)

pub none_yet : (n : ℕ) → one_if (nat_lt n 0) ≡ 0
none_yet n = grind (arith, nat_tests)

pub none_from : (n next : ℕ) → next ≤ n → one_if (nat_lt n next) ≡ 0
none_from n next past = grind (arith, nat_tests)

-- below the next number but one are those below the next one, and it
pub one_more : (n next : ℕ) → one_if (nat_lt n next) + one_if (next == n) ≡ one_if (nat_lt n (next + 1))
one_more n next = grind (arith, nat_tests)

pub times_push : (n : ℕ) (own : List ℕ) (number : ℕ) → times n (own ++ number ∷ []) ≡ times n own + one_if (number == n)
times_push n own number = sum_by_push (λ (k : ℕ). one_if (k == n)) own number

-- where no number from `next` on is one of these, all are below it
all_below : (next : ℕ) (numbers : List ℕ) → ((n : ℕ) → next ≤ n → times n numbers ≡ 0) → All (λ n. n < next) numbers
all_below next [] none = All-nil (λ n. n < next)
all_below next (x ∷ xs) none =
    let parts : (n : ℕ) → times n (x ∷ xs) ≡ one_if (x == n) + times n xs = (λ n. sum_by-cons (λ (k : ℕ). one_if (k == n)) x xs) in
    let below : x < next =
    dite (dec_le next x) (λ (past : next ≤ x). absurd (let here = one_here x in let both = parts x in let nothing = none x past in omega arith)) (λ less. omega arith)
    in
    All-cons (λ n. n < next) x xs below (all_below next xs (λ n past. let both = parts n in let nothing = none n past in omega arith))

pub parties_below : (next : ℕ) (parties : List (List ℕ)) → ((n : ℕ) → next ≤ n → sum_by (times n) parties ≡ 0) → All (All (λ n. n < next)) parties
parties_below next [] none = All-nil (All (λ n. n < next))
parties_below next (own ∷ more) none =
    let parts : (n : ℕ) → sum_by (times n) (own ∷ more) ≡ times n own + sum_by (times n) more = (λ n. sum_by-cons (times n) own more) in
    All-cons (All (λ n. n < next)) own more
    (all_below next own (λ n past. let both = parts n in let nothing = none n past in omega arith))
    (parties_below next more (λ n past. let both = parts n in let nothing = none n past in omega arith))
