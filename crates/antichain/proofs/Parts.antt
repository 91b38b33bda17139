-- Members that were parted in two.
use Rattle.std.proofs.Common.{◌≡◌, ℕ, ◌+◌, ◌==◌, false, true, List, [], ◌∷◌, ◌++◌, length, refl, sym, subst, ◌⊎◌, inl, inr, true≢false, arith}
use Rattle.std.proofs.lemmas.List.Elements.{All-nil, All-cons, All-head, All-tail}
use Rattle.std.proofs.lemmas.Map.Keys.{IsDistinct-head, IsDistinct-tail, IsDistinct-cons}
use Rattle.std.specs.List.{All, AllByRecursion, IsDistinct}
use Rattle.antichain.specs.Antichains.{ids_of, Parted, nil, gone, kept}
use Rattle.antichain.specs.declared.member.Member.{Member}
use Rattle.strip_model.proofs.Words.{has_cons_cases, has_head, has_tail}
use Rattle.strip_model.specs.Directed.{has}

-- what holds of all members holds of one with an id that is among theirs
pub member_with : (R : Member → Type 0) (ms : List Member) (k : ℕ) → All R ms → has k (ids_of ms) ≡ true → (m : Member) × (m.id ≡ k) × R m
member_with R [] k all h = absurd (true≢false (sym h))
member_with R (m ∷ ms) k all h = elim (has_cons_cases k m.id (ids_of ms) h) [
  | inl same ↦ (m, sym same, All-head R m ms all)
  | inr later ↦ member_with R ms k (All-tail R m ms all) later
]

-- ---- both parts

module _ (P Q : Member → Type 0) where
  pub Parted-append : {xs ys gs ks hs ls : List Member} → Parted P Q xs gs ks → Parted P Q ys hs ls → Parted P Q (xs ++ ys) (gs ++ hs) (ks ++ ls)
  Parted-append nil t = t
  Parted-append (gone p s) t = gone p (Parted-append s t)
  Parted-append (kept q s) t = kept q (Parted-append s t)

  -- all are kept
  pub Parted-all : (ms : List Member) → All Q ms → Parted P Q ms [] ms
  Parted-all [] all = nil
  Parted-all (m ∷ ms) all = kept (All-head Q m ms all) (Parted-all ms (All-tail Q m ms all))

  pub length-parted : {ms gs ks : List Member} → Parted P Q ms gs ks → length gs + length ks ≡ length ms
  length-parted nil = refl
  length-parted (gone p s) = let rest = length-parted s in omega arith
  length-parted (kept q s) = let rest = length-parted s in omega arith

  -- what holds of all members holds of both parts
  pub All-gone : (R : Member → Type 0) {ms gs ks : List Member} → Parted P Q ms gs ks → All R ms → All R gs
  All-gone R nil all = All-nil R
  All-gone R (gone {m} {ms} {gs} {ks} p s) all = All-cons R m gs (All-head R m ms all) (All-gone R s (All-tail R m ms all))
  All-gone R (kept {m} {ms} {gs} {ks} q s) all = All-gone R s (All-tail R m ms all)

  pub All-kept : (R : Member → Type 0) {ms gs ks : List Member} → Parted P Q ms gs ks → All R ms → All R ks
  All-kept R nil all = All-nil R
  All-kept R (gone {m} {ms} {gs} {ks} p s) all = All-kept R s (All-tail R m ms all)
  All-kept R (kept {m} {ms} {gs} {ks} q s) all = All-cons R m ks (All-head R m ms all) (All-kept R s (All-tail R m ms all))

  -- of those gone P holds, and of the others Q
  pub gone-are : {ms gs ks : List Member} → Parted P Q ms gs ks → All P gs
  gone-are nil = All-nil P
  gone-are (gone {m} {ms} {gs} {ks} p s) = All-cons P m gs p (gone-are s)
  gone-are (kept q s) = gone-are s

  pub kept-are : {ms gs ks : List Member} → Parted P Q ms gs ks → All Q ks
  kept-are nil = All-nil Q
  kept-are (gone p s) = kept-are s
  kept-are (kept {m} {ms} {gs} {ks} q s) = All-cons Q m ks q (kept-are s)

  -- ids of members are those of both parts
  pub has-gone : {ms gs ks : List Member} (k : ℕ) → Parted P Q ms gs ks → has k (ids_of gs) ≡ true → has k (ids_of ms) ≡ true
  has-gone k nil h = h
  has-gone k (gone {m} {ms} {gs} {ks} p s) h = elim (has_cons_cases k m.id (ids_of gs) h) [
    | inl same ↦ subst (λ (j : ℕ). has j (m.id ∷ ids_of ms) ≡ true) (sym same) (has_head m.id (ids_of ms))
    | inr later ↦ has_tail k m.id (ids_of ms) (has-gone k s later)
  ]
  has-gone k (kept {m} {ms} {gs} {ks} q s) h = has_tail k m.id (ids_of ms) (has-gone k s h)

  pub has-kept : {ms gs ks : List Member} (k : ℕ) → Parted P Q ms gs ks → has k (ids_of ks) ≡ true → has k (ids_of ms) ≡ true
  has-kept k nil h = h
  has-kept k (gone {m} {ms} {gs} {ks} p s) h = has_tail k m.id (ids_of ms) (has-kept k s h)
  has-kept k (kept {m} {ms} {gs} {ks} q s) h = elim (has_cons_cases k m.id (ids_of ks) h) [
    | inl same ↦ subst (λ (j : ℕ). has j (m.id ∷ ids_of ms) ≡ true) (sym same) (has_head m.id (ids_of ms))
    | inr later ↦ has_tail k m.id (ids_of ms) (has-kept k s later)
  ]

  pub has-parts : {ms gs ks : List Member} (k : ℕ) → Parted P Q ms gs ks → has k (ids_of ms) ≡ true
      → (has k (ids_of gs) ≡ true) ⊎ (has k (ids_of ks) ≡ true)
  has-parts k nil h = inl h
  has-parts k (gone {m} {ms} {gs} {ks} p s) h = elim (has_cons_cases k m.id (ids_of ms) h) [
    | inl same ↦ inl (subst (λ (j : ℕ). has j (m.id ∷ ids_of gs) ≡ true) (sym same) (has_head m.id (ids_of gs)))
    | inr later ↦ elim (has-parts k s later) [
      | inl out ↦ inl (has_tail k m.id (ids_of gs) out)
      | inr stays ↦ inr stays
    ]
  ]
  has-parts k (kept {m} {ms} {gs} {ks} q s) h = elim (has_cons_cases k m.id (ids_of ms) h) [
    | inl same ↦ inr (subst (λ (j : ℕ). has j (m.id ∷ ids_of ks) ≡ true) (sym same) (has_head m.id (ids_of ks)))
    | inr later ↦ elim (has-parts k s later) [
      | inl out ↦ inl out
      | inr stays ↦ inr (has_tail k m.id (ids_of ks) stays)
    ]
  ]

  -- what holds of all ids holds of those of both parts
  ids-gone : (R : ℕ → Type 0) {ms gs ks : List Member} → Parted P Q ms gs ks → AllByRecursion R (ids_of ms) → AllByRecursion R (ids_of gs)
  ids-gone R nil all = all
  ids-gone R (gone p s) all = (all.0, ids-gone R s all.1)
  ids-gone R (kept q s) all = ids-gone R s all.1

  ids-kept : (R : ℕ → Type 0) {ms gs ks : List Member} → Parted P Q ms gs ks → AllByRecursion R (ids_of ms) → AllByRecursion R (ids_of ks)
  ids-kept R nil all = all
  ids-kept R (gone p s) all = ids-kept R s all.1
  ids-kept R (kept q s) all = (all.0, ids-kept R s all.1)

  -- ids that stand once each do so in both parts
  pub distinct-gone : {ms gs ks : List Member} → Parted P Q ms gs ks → IsDistinct (λ j k. j == k) (ids_of ms) → IsDistinct (λ j k. j == k) (ids_of gs)
  distinct-gone nil d = d
  distinct-gone (gone {m} {ms} {gs} {ks} p s) d =
      IsDistinct-cons (λ (j k : ℕ). j == k) m.id (ids_of gs)
      (ids-gone (λ k. (m.id == k) ≡ false) s (IsDistinct-head (λ (j k : ℕ). j == k) m.id (ids_of ms) d))
      (distinct-gone s (IsDistinct-tail (λ (j k : ℕ). j == k) m.id (ids_of ms) d))
  distinct-gone (kept {m} {ms} {gs} {ks} q s) d = distinct-gone s (IsDistinct-tail (λ (j k : ℕ). j == k) m.id (ids_of ms) d)

  pub distinct-kept : {ms gs ks : List Member} → Parted P Q ms gs ks → IsDistinct (λ j k. j == k) (ids_of ms) → IsDistinct (λ j k. j == k) (ids_of ks)
  distinct-kept nil d = d
  distinct-kept (gone {m} {ms} {gs} {ks} p s) d = distinct-kept s (IsDistinct-tail (λ (j k : ℕ). j == k) m.id (ids_of ms) d)
  distinct-kept (kept {m} {ms} {gs} {ks} q s) d =
      IsDistinct-cons (λ (j k : ℕ). j == k) m.id (ids_of ks)
      (ids-kept (λ k. (m.id == k) ≡ false) s (IsDistinct-head (λ (j k : ℕ). j == k) m.id (ids_of ms) d))
      (distinct-kept s (IsDistinct-tail (λ (j k : ℕ). j == k) m.id (ids_of ms) d))

-- members parted by other tests that come to the same for them
pub Parted-weaker : (P Q R V W : Member → Type 0) → ((m : Member) → R m → P m → V m) → ((m : Member) → R m → Q m → W m)
    → {ms gs ks : List Member} → All R ms → Parted P Q ms gs ks → Parted V W ms gs ks
Parted-weaker P Q R V W first second all nil = nil
Parted-weaker P Q R V W first second all (gone {m} {ms} {gs} {ks} p s) =
    gone (first m (All-head R m ms all) p) (Parted-weaker P Q R V W first second (All-tail R m ms all) s)
Parted-weaker P Q R V W first second all (kept {m} {ms} {gs} {ks} q s) =
    kept (second m (All-head R m ms all) q) (Parted-weaker P Q R V W first second (All-tail R m ms all) s)
