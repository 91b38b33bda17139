-- How the sets are stored. No clause of a public function speaks of it.
use Rattle.std.specs.Prelude.{◌≡◌, ℕ, ◌+◌, ◌*◌, ◌/◌, ◌%◌, ◌^◌, ◌<◌, zero, suc, List, ◌∷◌, ◌==◌, if◌then◌else◌, true, false, cond}
use Rattle.std.specs.List.{filter, range_with_len, sum_by}
use Rattle.std.specs.Int.{bit_at}
use Rattle.std.proofs.Common.{sym, ◌∙◌, ap, inl, inr, arith, add-one}
use Rattle.std.proofs.lemmas.Bool.{cases_lt, cases_eq, eq-eqb, ne_eqb}
use Rattle.std.proofs.lemmas.List.Sums.{sum_by-cons}
use Rattle.std.proofs.lemmas.Grind.{pow_more}
use Rattle.std.proofs.lemmas.Nat.{mod-pow-add, shr-shr}
use Rattle.std.proofs.Math.Nat.{mod-eq_of_lt}
use Rattle.strip_set.specs.Laws.{has-passing, IsSet-passing, same_members}
use Rattle.strip_set.specs.Members.{has, IsSet}

-- the numbers below the bound whose bit is set in the word, in rising order
unfoldable pub members : ℕ → ℕ → List ℕ
members bound word = filter (λ k. bit_at word k == 1) (range_with_len 0 bound)

-- the word in which the bits of these numbers are set
unfoldable pub word_of : List ℕ → ℕ
word_of xs = sum_by (λ k. 2 ^ k) xs

-- the directed strips below the bound whose strip is in the set of its direction, in rising order
unfoldable pub directed_members : ℕ → List ℕ → List ℕ → List ℕ
directed_members bound direction_0 direction_1 =
    filter (λ x. has (x / 2) (if x % 2 == 0 then direction_0 else direction_1)) (range_with_len 0 bound)

-- each direction has a set of strips below the bound
pub record AreSets (bound : ℕ) (direction_0 direction_1 : List ℕ) : Type 0 where
  pub direction_0_set : IsSet bound direction_0
  pub direction_1_set : IsSet bound direction_1

-- the strips below the bound of which that direction is in the list
unfoldable pub strips_of_direction : ℕ → ℕ → List ℕ → List ℕ
strips_of_direction bound direction list = filter (λ i. has (2 * i + direction) list) (range_with_len 0 bound)

-- n stands in the list, and nothing below n does
pub record IsLeast (xs : List ℕ) (n : ℕ) : Type 0 where
  pub member : has n xs ≡ true
  pub least : (y : ℕ) → y < n → has y xs ≡ false

-- ---- what is read back from a stored set is what was stored

pub half_of_rest : (m n : ℕ) → m % 2 ^ suc n ≡ (m / 2 % 2 ^ n) * 2 + m % 2
half_of_rest m n = ap (λ k. m % 2 ^ k) (sym (add-one n)) ∙ mod-pow-add m n 1

-- a number by its lowest digit and the rest, at a place
with_digit : (high low place next rest whole : ℕ) → next ≡ place * 2 → rest ≡ high * next → whole ≡ (high * 2 + low) * place → low ≡ 1 → place + rest ≡ whole
with_digit high low place next rest whole doubled upper all set = rw (all, upper, doubled, set) (omega arith)

without_digit : (high low place next rest whole : ℕ) → next ≡ place * 2 → rest ≡ high * next → whole ≡ (high * 2 + low) * place → low ≡ 0 → rest ≡ whole
without_digit high low place next rest whole doubled upper all clear = rw (all, upper, doubled, clear) (omega arith)

word_of-passing : (word a n : ℕ) → word_of (filter (λ k. bit_at word k == 1) (range_with_len a n)) ≡ (word / 2 ^ a % 2 ^ n) * 2 ^ a
unfolding word_of
word_of-passing word a zero =
    let none : word / 2 ^ a % 1 ≡ 0 = omega arith in sym (ap (λ m. m * 2 ^ a) none ∙ omega arith)
word_of-passing word a (suc n) =
    let above : List ℕ = filter (λ k. bit_at word k == 1) (range_with_len (a + 1) n) in
    let high : ℕ = word / 2 ^ a / 2 % 2 ^ n in
    let rest : word_of above ≡ high * 2 ^ (a + 1) =
    word_of-passing word (a + 1) n ∙ ap (λ m. (m % 2 ^ n) * 2 ^ (a + 1)) (sym (shr-shr word a 1)) in
    let whole : word / 2 ^ a % 2 ^ suc n * 2 ^ a ≡ (high * 2 + bit_at word a) * 2 ^ a = ap (λ m. m * 2 ^ a) (half_of_rest (word / 2 ^ a) n) in
    elim (cases_eq (bit_at word a) 1) [
      | inl set ↦
          ap (λ b. word_of (cond b (a ∷ above) above)) (eq-eqb (bit_at word a) 1 set)
          ∙ sum_by-cons (λ k. 2 ^ k) a above
          ∙ with_digit high (bit_at word a) (2 ^ a) (2 ^ (a + 1)) _ _ (pow_more 2 a) rest whole set
      | inr clear ↦
          ap (λ b. word_of (cond b (a ∷ above) above)) (ne_eqb (bit_at word a) 1 clear)
          ∙ without_digit high (bit_at word a) (2 ^ a) (2 ^ (a + 1)) _ _ (pow_more 2 a) rest whole (omega arith)
    ]

pub word_of-members : (bound word : ℕ) → word < 2 ^ bound → word_of (members bound word) ≡ word
unfolding word_of members
word_of-members bound word fits = let one : word / 1 ≡ word = omega arith in
    word_of-passing word 0 bound ∙ ap (λ m. (m % 2 ^ bound) * 1) one ∙ ap (λ m. m * 1) (mod-eq_of_lt fits) ∙ omega arith

-- the set of a directed strip's direction
pub even_side : (x i : ℕ) (direction_0 direction_1 : List ℕ) → x / 2 ≡ i → x % 2 ≡ 0 → has (x / 2) (if x % 2 == 0 then direction_0 else direction_1) ≡ has i direction_0
even_side x i direction_0 direction_1 half even =
    ap (λ k. has k (if x % 2 == 0 then direction_0 else direction_1)) half ∙ ap (λ r. has i (if r == 0 then direction_0 else direction_1)) even

pub odd_side : (x i : ℕ) (direction_0 direction_1 : List ℕ) → x / 2 ≡ i → x % 2 ≡ 1 → has (x / 2) (if x % 2 == 0 then direction_0 else direction_1) ≡ has i direction_1
odd_side x i direction_0 direction_1 half odd =
    ap (λ k. has k (if x % 2 == 0 then direction_0 else direction_1)) half ∙ ap (λ r. has i (if r == 0 then direction_0 else direction_1)) odd

pub has-directed : (bound : ℕ) (direction_0 direction_1 : List ℕ) → AreSets bound direction_0 direction_1 → (x : ℕ) → has x (directed_members (2 * bound) direction_0 direction_1) ≡ has (x / 2) (if x % 2 == 0 then direction_0 else direction_1)
unfolding directed_members
has-directed bound direction_0 direction_1 sets x =
    elim (cases_lt x (2 * bound)) [
      | inl within ↦ has-passing (λ x. has (x / 2) (if x % 2 == 0 then direction_0 else direction_1)) (2 * bound) x within
      | inr beyond ↦
          (IsSet-passing (λ x. has (x / 2) (if x % 2 == 0 then direction_0 else direction_1)) (2 * bound)).below x beyond
          ∙ sym (elim (x % 2 == 0) as (λ b. has (x / 2) (if b then direction_0 else direction_1) ≡ false) [
            | true ↦ sets.direction_0_set.below (x / 2) (omega arith)
            | false ↦ sets.direction_1_set.below (x / 2) (omega arith)
          ])
    ]

-- of the strips of one direction that a list of directed strips shows
strips_of_direction-same : (bound direction : ℕ) (list strips : List ℕ) → IsSet bound strips → ((i : ℕ) → has (2 * i + direction) list ≡ has i strips) → strips_of_direction bound direction list ≡ strips
unfolding strips_of_direction
strips_of_direction-same bound direction list strips set same =
    let shown : IsSet bound (filter (λ i. has (2 * i + direction) list) (range_with_len 0 bound)) = IsSet-passing (λ i. has (2 * i + direction) list) bound in
    same_members (filter (λ i. has (2 * i + direction) list) (range_with_len 0 bound)) strips shown.rises set.rises
    (λ y. elim (cases_lt y bound) [
      | inl within ↦ has-passing (λ i. has (2 * i + direction) list) bound y within ∙ same y
      | inr beyond ↦ shown.below y beyond ∙ sym (set.below y beyond)
    ])

pub direction_0-directed : (bound : ℕ) (direction_0 direction_1 : List ℕ) → AreSets bound direction_0 direction_1 → strips_of_direction bound 0 (directed_members (2 * bound) direction_0 direction_1) ≡ direction_0
direction_0-directed bound direction_0 direction_1 sets =
    strips_of_direction-same bound 0 (directed_members (2 * bound) direction_0 direction_1) direction_0 sets.direction_0_set
    (λ i. has-directed bound direction_0 direction_1 sets (2 * i + 0) ∙ even_side (2 * i + 0) i direction_0 direction_1 (omega arith) (omega arith))

pub direction_1-directed : (bound : ℕ) (direction_0 direction_1 : List ℕ) → AreSets bound direction_0 direction_1 → strips_of_direction bound 1 (directed_members (2 * bound) direction_0 direction_1) ≡ direction_1
direction_1-directed bound direction_0 direction_1 sets =
    strips_of_direction-same bound 1 (directed_members (2 * bound) direction_0 direction_1) direction_1 sets.direction_1_set
    (λ i. has-directed bound direction_0 direction_1 sets (2 * i + 1) ∙ odd_side (2 * i + 1) i direction_0 direction_1 (omega arith) (omega arith))
