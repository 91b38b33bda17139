-- Lists of numbers that rise.
use Rattle.std.proofs.Common.{◌≡◌, ℕ, zero, suc, ◌+◌, ◌<◌, ◌≤◌, true, List, [], ◌∷◌, length, get_or, arith}
use Rattle.std.specs.List.Sorted.{IsStrictlyIncreasing}
use Rattle.strip_model.proofs.Words.{has_head, has_tail}
use Rattle.strip_model.specs.Directed.{has}
use Rattle.strip_set.proofs.Members.{above_head, rises-tail}

-- what stands at a place of the list
pub has-at : (xs : List ℕ) (i d : ℕ) → i < length xs → has (get_or xs i d) xs ≡ true
has-at [] i d small = absurd (omega arith)
has-at (x ∷ xs) zero d small = has_head x xs
has-at (x ∷ xs) (suc i) d small = has_tail (get_or xs i d) x xs (has-at xs i d (omega arith))

rises-length : (ids : List ℕ) (low n : ℕ) → low ≤ n → IsStrictlyIncreasing ids → ((k : ℕ) → has k ids ≡ true → (low ≤ k) × (k < n)) → length ids + low ≤ n
rises-length [] low n small r within = omega arith
rises-length (x ∷ xs) low n small r within =
    let here : (low ≤ x) × (x < n) = within x (has_head x xs) in
    let from : low ≤ x = here.0 in
    let to : x < n = here.1 in
    let rest : length xs + (x + 1) ≤ n
    = rises-length xs (x + 1) n (omega arith) (rises-tail x xs r)
    (λ k h. let over : x < k = above_head x k xs r h in (omega arith, (within k (has_tail k x xs h)).1)) in
    omega arith

-- a rising list of numbers below n has at most n
pub rising-few : (ids : List ℕ) (n : ℕ) → IsStrictlyIncreasing ids → ((k : ℕ) → has k ids ≡ true → k < n) → length ids ≤ n
rising-few ids n r below =
    let all : length ids + 0 ≤ n = rises-length ids 0 n (omega arith) r (λ k h. (omega arith, below k h)) in omega arith
