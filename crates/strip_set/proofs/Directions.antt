-- The members of a set that is stored by direction, at each operation on its two parts.
use Rattle.std.proofs.Common.{◌≡◌, ℕ, zero, suc, ◌+◌, ◌*◌, ◌/◌, ◌%◌, ◌<◌, min, Bool, true, false, cond, ◌&&◌, ◌||◌, List, [], ◌∷◌, length, refl, sym, ap, ap₂, ◌∙◌, inl, inr, arith, nat_eq, if◌then◌else◌}
use Rattle.std.specs.Bool.{◌==◌}
use Rattle.std.specs.Cmp.Lexicographic.{pointwise, pointwise_decides}
use Rattle.std.specs.List.{filter, range_with_len}
use Rattle.std.proofs.lemmas.Bool.{ne_eqb, cases_eq, cases_lt}
use Rattle.std.proofs.lemmas.Bool.Decides.{nat_tests, Decides-eqb, Decides-like, Decides-and, same_from_decides}
use Rattle.strip_set.specs.Members.{has, has_strip, IsSet}
use Rattle.strip_set.specs.Laws.{IsSet-passing}
use Rattle.strip_set.specs.Stored.{IsLeast, AreSets, directed_members, strips_of_direction, has-directed, even_side, odd_side, direction_0-directed, direction_1-directed}
use Rattle.strip_set.proofs.Members.{IsSet-nil, has_strip-directions, no_members, passing-set}

pub IsSet-directed : (bound : ℕ) (direction_0 direction_1 : List ℕ) → IsSet bound (directed_members bound direction_0 direction_1)
unfolding directed_members
IsSet-directed bound direction_0 direction_1 = IsSet-passing (λ x. has (x / 2) (if x % 2 == 0 then direction_0 else direction_1)) bound

half_tests : (x n : ℕ) → x % 2 ≡ n % 2 → (x / 2 == n / 2) ≡ (x == n)
half_tests x n same = grind (arith, nat_tests)

module _ (bound : ℕ) (direction_0 direction_1 : List ℕ) (sets : AreSets bound direction_0 direction_1) where
  pub has-even : (x : ℕ) → x % 2 ≡ 0 → has x (directed_members (2 * bound) direction_0 direction_1) ≡ has (x / 2) direction_0
  has-even x even =
      has-directed bound direction_0 direction_1 sets x
      ∙ ap (λ r. has (x / 2) (if r == 0 then direction_0 else direction_1)) even

  pub has-odd : (x : ℕ) → x % 2 ≡ 1 → has x (directed_members (2 * bound) direction_0 direction_1) ≡ has (x / 2) direction_1
  has-odd x odd =
      has-directed bound direction_0 direction_1 sets x
      ∙ ap (λ r. has (x / 2) (if r == 0 then direction_0 else direction_1)) odd

  pub has_strip-directed : (i : ℕ) → has_strip i (directed_members (2 * bound) direction_0 direction_1) ≡ (has i direction_0 || has i direction_1)
  has_strip-directed i =
      has_strip-directions i (directed_members (2 * bound) direction_0 direction_1)
      ∙ ap₂ ◌||◌
      (has-even (2 * i) (omega arith) ∙ ap (λ k. has k direction_0) (omega arith))
      (has-odd (2 * i + 1) (omega arith) ∙ ap (λ k. has k direction_1) (omega arith))

  pub IsEmpty-directed : direction_0 ≡ [] → direction_1 ≡ [] → directed_members (2 * bound) direction_0 direction_1 ≡ []
  IsEmpty-directed none none' =
      no_members (directed_members (2 * bound) direction_0 direction_1)
      (λ x. elim (cases_eq (x % 2) 0) [
        | inl even ↦ has-even x even ∙ ap (has (x / 2)) none
        | inr odd ↦ has-odd x (omega arith) ∙ ap (has (x / 2)) none'
      ])

  pub member_direction_0 : (i : ℕ) → has i direction_0 ≡ true → has (2 * i) (directed_members (2 * bound) direction_0 direction_1) ≡ true
  member_direction_0 i member = has-even (2 * i) (omega arith) ∙ ap (λ k. has k direction_0) (omega arith) ∙ member

  pub member_direction_1 : (i : ℕ) → has i direction_1 ≡ true → has (2 * i + 1) (directed_members (2 * bound) direction_0 direction_1) ≡ true
  member_direction_1 i member = has-odd (2 * i + 1) (omega arith) ∙ ap (λ k. has k direction_1) (omega arith) ∙ member

  pub some_direction_0 : ((i : ℕ) × (has i direction_0 ≡ true)) → (x : ℕ) × (has x (directed_members (2 * bound) direction_0 direction_1) ≡ true)
  some_direction_0 w = (2 * w.0, member_direction_0 w.0 w.1)

  pub some_direction_1 : ((i : ℕ) × (has i direction_1 ≡ true)) → (x : ℕ) × (has x (directed_members (2 * bound) direction_0 direction_1) ≡ true)
  some_direction_1 w = (2 * w.0 + 1, member_direction_1 w.0 w.1)

  -- the least member is the least of the least of each direction
  pub least_direction_0 : (i : ℕ) → IsLeast direction_0 i → ((j : ℕ) → 2 * j + 1 < 2 * i → has j direction_1 ≡ false) → IsLeast (directed_members (2 * bound) direction_0 direction_1) (2 * i)
  least_direction_0 i first apart = record {
    member = member_direction_0 i first.member;
    least = λ y below.
        elim (cases_eq (y % 2) 0) [
          | inl even ↦ has-even y even ∙ first.least (y / 2) (omega arith)
          | inr odd ↦ has-odd y (omega arith) ∙ apart (y / 2) (omega arith)
        ];
  }

  pub least_direction_1 : (i : ℕ) → IsLeast direction_1 i → ((j : ℕ) → 2 * j < 2 * i + 1 → has j direction_0 ≡ false) → IsLeast (directed_members (2 * bound) direction_0 direction_1) (2 * i + 1)
  least_direction_1 i first apart = record {
    member = member_direction_1 i first.member;
    least = λ y below.
        elim (cases_eq (y % 2) 0) [
          | inl even ↦ has-even y even ∙ apart (y / 2) (omega arith)
          | inr odd ↦ has-odd y (omega arith) ∙ first.least (y / 2) (omega arith)
        ];
  }

  pub least_both : (i j : ℕ) → IsLeast direction_0 i → IsLeast direction_1 j → IsLeast (directed_members (2 * bound) direction_0 direction_1) (min (2 * i) (2 * j + 1))
  least_both i j first first' =
      elim (cases_lt (2 * i) (2 * j + 1)) [
        | inl below ↦
            let least : min (2 * i) (2 * j + 1) ≡ 2 * i = omega arith in
            rw least (least_direction_0 i first (λ k under. first'.least k (omega arith)))
        | inr above ↦
            let least : min (2 * i) (2 * j + 1) ≡ 2 * j + 1 = omega arith in
            rw least (least_direction_1 j first' (λ k under. first.least k (omega arith)))
      ]

module _ (bound : ℕ) (direction_0 direction_1 : List ℕ) (sets : AreSets bound direction_0 direction_1) where
  -- one strip is set to `value` in one direction
  pub direction_0_edit : (new : List ℕ) → IsSet bound new → (n : ℕ) (value : Bool) → n % 2 ≡ 0
      → ((y : ℕ) → has y new ≡ (if y == n / 2 then value else has y direction_0))
      → (x : ℕ) → has x (directed_members (2 * bound) new direction_1) ≡ (if x == n then value else has x (directed_members (2 * bound) direction_0 direction_1))
  direction_0_edit new new_set n value even edit x =
      let edited : AreSets bound new direction_1 = record { direction_0_set = new_set; direction_1_set = sets.direction_1_set } in
      elim (cases_eq (x % 2) 0) [
        | inl same ↦
            has-even bound new direction_1 edited x same
            ∙ edit (x / 2)
            ∙ ap₂ (λ t old. if t then value else old) (half_tests x n (omega arith)) (sym (has-even bound direction_0 direction_1 sets x same))
        | inr differs ↦
            has-odd bound new direction_1 edited x (omega arith)
            ∙ sym (has-odd bound direction_0 direction_1 sets x (omega arith))
            ∙ sym (ap (λ t. if t then value else has x (directed_members (2 * bound) direction_0 direction_1)) (ne_eqb x n (λ e. omega arith)))
      ]

  pub direction_1_edit : (new : List ℕ) → IsSet bound new → (n : ℕ) (value : Bool) → (n % 2 ≡ 0 → ⊥)
      → ((y : ℕ) → has y new ≡ (if y == n / 2 then value else has y direction_1))
      → (x : ℕ) → has x (directed_members (2 * bound) direction_0 new) ≡ (if x == n then value else has x (directed_members (2 * bound) direction_0 direction_1))
  direction_1_edit new new_set n value odd edit x =
      let edited : AreSets bound direction_0 new = record { direction_0_set = sets.direction_0_set; direction_1_set = new_set } in
      elim (cases_eq (x % 2) 0) [
        | inl differs ↦
            has-even bound direction_0 new edited x differs
            ∙ sym (has-even bound direction_0 direction_1 sets x differs)
            ∙ sym (ap (λ t. if t then value else has x (directed_members (2 * bound) direction_0 direction_1)) (ne_eqb x n (λ e. odd (ap (λ k. k % 2) (sym e) ∙ differs))))
        | inr same ↦
            has-odd bound direction_0 new edited x (omega arith)
            ∙ edit (x / 2)
            ∙ ap₂ (λ t old. if t then value else old) (half_tests x n (omega arith)) (sym (has-odd bound direction_0 direction_1 sets x (omega arith)))
      ]

-- what holds of the two sets of each direction holds of the sets of directed strips
module _ (bound : ℕ) (f b f' b' : List ℕ) (sets : AreSets bound f b) (sets' : AreSets bound f' b') where
  pub combined : (combine : Bool → Bool → Bool) (f'' b'' : List ℕ) → AreSets bound f'' b''
      → ((y : ℕ) → has y f'' ≡ combine (has y f) (has y f'))
      → ((y : ℕ) → has y b'' ≡ combine (has y b) (has y b'))
      → (x : ℕ) → has x (directed_members (2 * bound) f'' b'') ≡ combine (has x (directed_members (2 * bound) f b)) (has x (directed_members (2 * bound) f' b'))
  combined combine f'' b'' sets'' direction_0 direction_1 x =
      elim (cases_eq (x % 2) 0) [
        | inl even ↦ has-even bound f'' b'' sets'' x even ∙ direction_0 (x / 2) ∙ sym (ap₂ combine (has-even bound f b sets x even) (has-even bound f' b' sets' x even))
        | inr differs ↦
            let odd : x % 2 ≡ 1 = omega arith in
            has-odd bound f'' b'' sets'' x odd ∙ direction_1 (x / 2) ∙ sym (ap₂ combine (has-odd bound f b sets x odd) (has-odd bound f' b' sets' x odd))
      ]

  pub apart_both : ((y : ℕ) → (has y f && has y f') ≡ false) → ((y : ℕ) → (has y b && has y b') ≡ false)
      → (x : ℕ) → (has x (directed_members (2 * bound) f b) && has x (directed_members (2 * bound) f' b')) ≡ false
  apart_both direction_0 direction_1 x =
      elim (cases_eq (x % 2) 0) [
        | inl even ↦ ap₂ ◌&&◌ (has-even bound f b sets x even) (has-even bound f' b' sets' x even) ∙ direction_0 (x / 2)
        | inr differs ↦
            let odd : x % 2 ≡ 1 = omega arith in
            ap₂ ◌&&◌ (has-odd bound f b sets x odd) (has-odd bound f' b' sets' x odd) ∙ direction_1 (x / 2)
      ]

  pub common_direction_0 : ((y : ℕ) × (has y f ≡ true) × (has y f' ≡ true)) → (x : ℕ) × (has x (directed_members (2 * bound) f b) ≡ true) × (has x (directed_members (2 * bound) f' b') ≡ true)
  common_direction_0 w = (2 * w.0, member_direction_0 bound f b sets w.0 w.1, member_direction_0 bound f' b' sets' w.0 w.2)

  pub common_direction_1 : ((y : ℕ) × (has y b ≡ true) × (has y b' ≡ true)) → (x : ℕ) × (has x (directed_members (2 * bound) f b) ≡ true) × (has x (directed_members (2 * bound) f' b') ≡ true)
  common_direction_1 w = (2 * w.0 + 1, member_direction_1 bound f b sets w.0 w.1, member_direction_1 bound f' b' sets' w.0 w.2)

  same_sides : directed_members (2 * bound) f b ≡ directed_members (2 * bound) f' b' → (f ≡ f') × (b ≡ b')
  same_sides e = (
    sym (direction_0-directed bound f b sets) ∙ ap (strips_of_direction bound 0) e ∙ direction_0-directed bound f' b' sets',
    sym (direction_1-directed bound f b sets) ∙ ap (strips_of_direction bound 1) e ∙ direction_1-directed bound f' b' sets',
  )

  pub same_directed : (pointwise nat_eq f f' && pointwise nat_eq b b') ≡ pointwise nat_eq (directed_members (2 * bound) f b) (directed_members (2 * bound) f' b')
  same_directed =
      same_from_decides (pointwise nat_eq f f' && pointwise nat_eq b b') _
      (Decides-like (pointwise nat_eq f f' && pointwise nat_eq b b') (λ e. ap₂ (directed_members (2 * bound)) e.0 e.1) same_sides
      (Decides-and (pointwise nat_eq f f') (pointwise nat_eq b b') (pointwise_decides Decides-eqb f f') (pointwise_decides Decides-eqb b b')))
      (pointwise_decides Decides-eqb (directed_members (2 * bound) f b) (directed_members (2 * bound) f' b'))

-- ---- how many members there are

one_more : (p : Bool) (x : ℕ) (xs : List ℕ) → length (cond p (x ∷ xs) xs) ≡ (if p then 1 else 0) + length xs
one_more true x xs = omega arith
one_more false x xs = omega arith

length-pairs : (f b : List ℕ) (a n start double : ℕ) → start ≡ 2 * a → double ≡ 2 * n
    → length (filter (λ x. has (x / 2) (if x % 2 == 0 then f else b)) (range_with_len start double))
    ≡ length (filter (λ i. has i f) (range_with_len a n)) + length (filter (λ i. has i b) (range_with_len a n))
length-pairs f b a zero start zero at long = refl
length-pairs f b a zero start (suc double) at long = absurd (omega arith)
length-pairs f b a (suc n) start zero at long = absurd (omega arith)
length-pairs f b a (suc n) start (suc zero) at long = absurd (omega arith)
length-pairs f b a (suc n) start (suc (suc double)) at long =
    let rest = length-pairs f b (a + 1) n (start + 1 + 1) double (omega arith) (omega arith) in
    let above : List ℕ = filter (λ x. has (x / 2) (if x % 2 == 0 then f else b)) (range_with_len (start + 1 + 1) double) in
    let here : has (start / 2) (if start % 2 == 0 then f else b) ≡ has a f = even_side start a f b (omega arith) (omega arith) in
    let next : has ((start + 1) / 2) (if (start + 1) % 2 == 0 then f else b) ≡ has a b = odd_side (start + 1) a f b (omega arith) (omega arith) in
    ap₂ (λ p q. length (cond p (start ∷ cond q ((start + 1) ∷ above) above) (cond q ((start + 1) ∷ above) above))) here next
    ∙ one_more (has a f) start (cond (has a b) ((start + 1) ∷ above) above)
    ∙ ap (λ n. (if has a f then 1 else 0) + n) (one_more (has a b) (start + 1) above)
    ∙ omega (arith, rest, one_more (has a f) a (filter (λ i. has i f) (range_with_len (a + 1) n)), one_more (has a b) a (filter (λ i. has i b) (range_with_len (a + 1) n)))

pub length-directed : (bound : ℕ) (f b : List ℕ) → AreSets bound f b → length (directed_members (2 * bound) f b) ≡ length f + length b
unfolding directed_members
length-directed bound f b sets =
    length-pairs f b 0 bound 0 (2 * bound) (omega arith) refl
    ∙ ap₂ (λ xs ys. length xs + length ys) (passing-set bound f sets.direction_0_set) (passing-set bound b sets.direction_1_set)

pub directed-nil : (bound : ℕ) (f b : List ℕ) → f ≡ [] → b ≡ [] → directed_members (2 * bound) f b ≡ []
directed-nil bound f b none none' =
    ap₂ (directed_members (2 * bound)) none none'
    ∙ IsEmpty-directed bound [] [] record { direction_0_set = IsSet-nil bound; direction_1_set = IsSet-nil bound } refl refl
