-- The members that a word of bits shows, at each operation on words.
use Rattle.std.proofs.Common.{◌≡◌, ◌≢◌, ℕ, zero, suc, ◌+◌, ◌-◌, ◌*◌, ◌/◌, ◌%◌, ◌^◌, ◌<◌, min, max, Bool, true, false, cond, not, ◌&&◌, ◌||◌, List, [], ◌∷◌, length, sym, ap, ap₂, ◌∙◌, inl, inr, arith, nat_eq, bit_and, bit_or, if◌then◌else◌, count_ones}
use Rattle.std.specs.Bool.{◌==◌}
use Rattle.std.specs.Cmp.Lexicographic.{pointwise, pointwise_decides}
use Rattle.std.specs.Int.{bit_at, bit_not, trailing_zeros, Width}
use Rattle.std.specs.List.{filter, range_with_len}
use mir.Val.{bits}
use lib.Count.{ones, ones-ones}
use Rattle.std.proofs.Math.Nat.{mod-eq_of_lt}
use Rattle.std.proofs.lemmas.Bool.{eq-eqb, ne_eqb, cases_eq, cases_lt, and_parts}
use Rattle.std.proofs.lemmas.Bool.Decides.{nat_tests, Decides-eqb, same_from_decides, Decides-like}
use Rattle.std.proofs.lemmas.Nat.{or_lt, and_le_l, one_shl, ones-le, ones_cat, shr-shr}
use Rattle.std.proofs.lemmas.Nat.Bits.{bit_at-lt, bit_at-zero, bit_at_above, bit_at_and, bit_at_or, bit_at_not, bit_at_set_same, bit_at_set_other, bit_at_clear_same, bit_at_clear_other, bit_at-trailing_zeros, shr_and_one}
use Rattle.std.proofs.Math.Pow.{pow-lt}
use Rattle.strip_set.specs.Members.{has, IsSet}
use Rattle.strip_set.specs.Laws.{has-passing, IsSet-passing}
use Rattle.strip_set.proofs.Members.{no_members}
use Rattle.strip_set.specs.Stored.{IsLeast, members, word_of, word_of-members, half_of_rest}

pub IsSet-members : (bound word : ℕ) → IsSet bound (members bound word)
unfolding members
IsSet-members bound word = IsSet-passing (λ k. bit_at word k == 1) bound

-- a number is a member exactly where its bit is set
pub has-members : (bound word : ℕ) → word < 2 ^ bound → (y : ℕ) → has y (members bound word) ≡ (bit_at word y == 1)
unfolding members
has-members bound word fits y =
    elim (cases_lt y bound) [
      | inl within ↦ has-passing (λ k. bit_at word k == 1) bound y within
      | inr beyond ↦
          (IsSet-passing (λ k. bit_at word k == 1) bound).below y beyond
          ∙ sym (ap (λ bit. bit == 1) (bit_at_above word bound y fits beyond))
    ]

pub members-zero : (bound : ℕ) → 0 < 2 ^ bound → members bound 0 ≡ []
members-zero bound fits = no_members (members bound 0) (λ y. has-members bound 0 fits y ∙ ap (λ bit. bit == 1) (bit_at-zero y))

-- ---- tests of two bits

min_bits : (a b : ℕ) → a < 2 → b < 2 → (min a b == 1) ≡ ((a == 1) && (b == 1))
min_bits a b small small' = grind (arith, nat_tests)

max_bits : (a b : ℕ) → a < 2 → b < 2 → (max a b == 1) ≡ ((a == 1) || (b == 1))
max_bits a b small small' = grind (arith, nat_tests)

minus_bits : (a b : ℕ) → a < 2 → b < 2 → (min a (1 - b) == 1) ≡ ((a == 1) && not (b == 1))
minus_bits a b small small' = grind (arith, nat_tests)

zero_bit : (a b : ℕ) (q : Bool) → a ≡ 0 → (min a b == 1) ≡ ((a == 1) && q)
zero_bit a b q none = grind (arith, nat_tests)

module _ (w : Width) where
  module _ (word k : ℕ) (within : k < bits w) (fits : word < 2 ^ bits w) where
    pub with-fits : bit_or word (1 * 2 ^ k % 2 ^ bits w) < 2 ^ bits w
    with-fits =
        let shifted : 1 * 2 ^ k % 2 ^ bits w < 2 ^ bits w = rw (one_shl k (bits w) within) (pow-lt within) in
        or_lt (bits w) word (1 * 2 ^ k % 2 ^ bits w) fits shifted

    pub has-with : (y : ℕ) → has y (members (bits w) (bit_or word (1 * 2 ^ k % 2 ^ bits w))) ≡ (if y == k then true else has y (members (bits w) word))
    has-with y =
        has-members (bits w) _ with-fits y
        ∙ elim (cases_eq y k) [
          | inl same ↦
              eq-eqb (bit_at (bit_or word (1 * 2 ^ k % 2 ^ bits w)) y) 1 (ap (λ i. bit_at (bit_or word (1 * 2 ^ k % 2 ^ bits w)) i) same ∙ bit_at_set_same w word k within)
              ∙ sym (ap (λ b. if b then true else has y (members (bits w) word)) (eq-eqb y k same))
          | inr differs ↦
              ap (λ bit. bit == 1) (bit_at_set_other w word k within y differs)
              ∙ sym (has-members (bits w) word fits y)
              ∙ sym (ap (λ b. if b then true else has y (members (bits w) word)) (ne_eqb y k differs))
        ]

    pub without-fits : bit_and word (bit_not w (1 * 2 ^ k % 2 ^ bits w)) < 2 ^ bits w
    without-fits = omega (arith, and_le_l word (bit_not w (1 * 2 ^ k % 2 ^ bits w)))

    cleared-other : (y : ℕ) → y ≢ k → bit_at (bit_and word (bit_not w (1 * 2 ^ k % 2 ^ bits w))) y ≡ bit_at word y
    cleared-other y differs =
        elim (cases_lt y (bits w)) [
          | inl inside ↦ bit_at_clear_other w word k within y inside differs
          | inr beyond ↦
              bit_at_above (bit_and word (bit_not w (1 * 2 ^ k % 2 ^ bits w))) (bits w) y without-fits beyond
              ∙ sym (bit_at_above word (bits w) y fits beyond)
        ]

    pub has-without : (y : ℕ) → has y (members (bits w) (bit_and word (bit_not w (1 * 2 ^ k % 2 ^ bits w)))) ≡ (if y == k then false else has y (members (bits w) word))
    has-without y =
        has-members (bits w) _ without-fits y
        ∙ elim (cases_eq y k) [
          | inl same ↦
              ap (λ bit. bit == 1) (ap (λ i. bit_at (bit_and word (bit_not w (1 * 2 ^ k % 2 ^ bits w))) i) same ∙ bit_at_clear_same w word k within)
              ∙ sym (ap (λ b. if b then false else has y (members (bits w) word)) (eq-eqb y k same))
          | inr differs ↦
              ap (λ bit. bit == 1) (cleared-other y differs)
              ∙ sym (has-members (bits w) word fits y)
              ∙ sym (ap (λ b. if b then false else has y (members (bits w) word)) (ne_eqb y k differs))
        ]

    pub test_of_bit : (bit_and (word / 2 ^ k) 1 == 1) ≡ has k (members (bits w) word)
    test_of_bit = ap (λ bit. bit == 1) (shr_and_one word k) ∙ sym (has-members (bits w) word fits k)

  module _ (a b : ℕ) (a_fits : a < 2 ^ bits w) (b_fits : b < 2 ^ bits w) where
    pub meet-fits : bit_and a b < 2 ^ bits w
    meet-fits = omega (arith, and_le_l a b)

    pub has-meet : (y : ℕ) → has y (members (bits w) (bit_and a b)) ≡ (has y (members (bits w) a) && has y (members (bits w) b))
    has-meet y =
        has-members (bits w) (bit_and a b) meet-fits y
        ∙ ap (λ bit. bit == 1) (bit_at_and a b y)
        ∙ min_bits (bit_at a y) (bit_at b y) (bit_at-lt a y) (bit_at-lt b y)
        ∙ sym (ap₂ ◌&&◌ (has-members (bits w) a a_fits y) (has-members (bits w) b b_fits y))

    pub join-fits : bit_or a b < 2 ^ bits w
    join-fits = or_lt (bits w) a b a_fits b_fits

    pub has-join : (y : ℕ) → has y (members (bits w) (bit_or a b)) ≡ (has y (members (bits w) a) || has y (members (bits w) b))
    has-join y =
        has-members (bits w) (bit_or a b) join-fits y
        ∙ ap (λ bit. bit == 1) (bit_at_or a b y)
        ∙ max_bits (bit_at a y) (bit_at b y) (bit_at-lt a y) (bit_at-lt b y)
        ∙ sym (ap₂ ◌||◌ (has-members (bits w) a a_fits y) (has-members (bits w) b b_fits y))

    pub minus-fits : bit_and a (bit_not w b) < 2 ^ bits w
    minus-fits = omega (arith, and_le_l a (bit_not w b))

    pub has-minus : (y : ℕ) → has y (members (bits w) (bit_and a (bit_not w b))) ≡ (has y (members (bits w) a) && not (has y (members (bits w) b)))
    has-minus y =
        has-members (bits w) (bit_and a (bit_not w b)) minus-fits y
        ∙ ap (λ bit. bit == 1) (bit_at_and a (bit_not w b) y)
        ∙ elim (cases_lt y (bits w)) [
          | inl inside ↦
              ap (λ bit. min (bit_at a y) bit == 1) (bit_at_not w b y b_fits inside)
              ∙ minus_bits (bit_at a y) (bit_at b y) (bit_at-lt a y) (bit_at-lt b y)
          | inr beyond ↦
              zero_bit (bit_at a y) (bit_at (bit_not w b) y) (not (bit_at b y == 1)) (bit_at_above a (bits w) y a_fits beyond)
        ]
        ∙ sym (ap₂ (λ p q. p && not q) (has-members (bits w) a a_fits y) (has-members (bits w) b b_fits y))

    pub apart-zero : bit_and a b ≡ 0 → (y : ℕ) → (has y (members (bits w) a) && has y (members (bits w) b)) ≡ false
    apart-zero none y =
        sym (has-meet y) ∙ ap (λ word. has y (members (bits w) word)) none ∙ has-members (bits w) 0 (omega arith) y ∙ ap (λ bit. bit == 1) (bit_at-zero y)

    pub common-nonzero : (bit_and a b ≡ 0 → ⊥) → (y : ℕ) × (has y (members (bits w) a) ≡ true) × (has y (members (bits w) b) ≡ true)
    common-nonzero some =
        let lowest = bit_at-trailing_zeros w (bit_and a b) (omega arith) meet-fits in
        let y : ℕ = trailing_zeros w (bit_and a b) in
        let both : (has y (members (bits w) a) && has y (members (bits w) b)) ≡ true =
        sym (has-meet y) ∙ has-members (bits w) (bit_and a b) meet-fits y ∙ ap (λ bit. bit == 1) lowest.1 in
        let parts = and_parts (has y (members (bits w) a)) (has y (members (bits w) b)) both in
        (y, parts.0, parts.1)

    same_bits : members (bits w) a ≡ members (bits w) b → a ≡ b
    same_bits e = sym (word_of-members (bits w) a a_fits) ∙ ap word_of e ∙ word_of-members (bits w) b b_fits

    pub same_words : (a == b) ≡ pointwise nat_eq (members (bits w) a) (members (bits w) b)
    same_words =
        same_from_decides (a == b) (pointwise nat_eq (members (bits w) a) (members (bits w) b))
        (Decides-like (a == b) (λ e. ap (members (bits w)) e) same_bits (Decides-eqb a b))
        (pointwise_decides Decides-eqb (members (bits w) a) (members (bits w) b))

  pub least-trailing_zeros : (word : ℕ) → (word ≡ 0 → ⊥) → word < 2 ^ bits w → IsLeast (members (bits w) word) (trailing_zeros w word)
  least-trailing_zeros word some fits =
      let lowest = bit_at-trailing_zeros w word (omega arith) fits in
      record {
        member = has-members (bits w) word fits (trailing_zeros w word) ∙ ap (λ bit. bit == 1) lowest.1;
        least = λ y below. has-members (bits w) word fits y ∙ ap (λ bit. bit == 1) (lowest.2 y below);
      }

  pub member-nonzero : (word : ℕ) → (word ≡ 0 → ⊥) → word < 2 ^ bits w → (y : ℕ) × (has y (members (bits w) word) ≡ true)
  member-nonzero word some fits = (trailing_zeros w word, (least-trailing_zeros word some fits).member)

-- ---- how many members a word shows

ones-zero : ones 0 ≡ 0
ones-zero = omega (arith, ones-le 0 0 (omega arith))

length-passing : (word a n : ℕ) → length (filter (λ k. bit_at word k == 1) (range_with_len a n)) ≡ ones (word / 2 ^ a % 2 ^ n)
length-passing word a zero =
    let none : word / 2 ^ a % 1 ≡ 0 = omega arith in
    sym (ap ones none ∙ ones-zero)
length-passing word a (suc n) =
    let above : List ℕ = filter (λ k. bit_at word k == 1) (range_with_len (a + 1) n) in
    let high : ℕ = word / 2 ^ a / 2 % 2 ^ n in
    let rest : length above ≡ ones high = length-passing word (a + 1) n ∙ ap (λ m. ones (m % 2 ^ n)) (sym (shr-shr word a 1)) in
    let whole : ones (word / 2 ^ a % 2 ^ suc n) ≡ ones high + ones (bit_at word a) =
    ap ones (half_of_rest (word / 2 ^ a) n) ∙ ones_cat 1 high (bit_at word a) (bit_at-lt word a) in
    elim (cases_eq (bit_at word a) 1) [
      | inl set ↦
          let one : ones (bit_at word a) ≡ 1 = ap ones set ∙ ones-ones 1 in
          ap (λ b. length (cond b (a ∷ above) above)) (eq-eqb (bit_at word a) 1 set) ∙ omega arith
      | inr clear ↦
          let clear_bit : bit_at word a ≡ 0 = omega (arith, bit_at-lt word a) in
          let none : ones (bit_at word a) ≡ 0 = ap ones clear_bit ∙ ones-zero in
          ap (λ b. length (cond b (a ∷ above) above)) (ne_eqb (bit_at word a) 1 clear) ∙ omega arith
    ]

pub length-members : (bound word : ℕ) → word < 2 ^ bound → length (members bound word) ≡ count_ones word
unfolding members
length-members bound word fits =
    let one : word / 1 ≡ word = omega arith in
    length-passing word 0 bound ∙ ap (λ m. ones (m % 2 ^ bound)) one ∙ ap ones (mod-eq_of_lt fits)
