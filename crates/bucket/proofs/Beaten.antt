-- Whom a new label retires: the members of its antichain that it dominates, in rising order of ids.
use Rattle.std.proofs.Common.{◌≡◌, ℕ, ◌==◌, inl, inr, true, false, List, [], ◌∷◌, length, sym, ◌∙◌, subst, true≢false}
use Rattle.std.proofs.lemmas.Bool.{cases_Bool, cases_eq, eq-eqb, false≢true, ne_eqb}
use Rattle.std.proofs.lemmas.List.Elements.{All-head, All-tail}
use Rattle.std.proofs.lemmas.List.Sorted.{All-permutation, IsNonDecreasingBy-from_sort, IsPermutation-sym}
use Rattle.std.proofs.lemmas.Map.Keys.{IsDistinct-IsPermutation, IsStrictlyIncreasing-from_distinct}
use Rattle.std.specs.Prelude.{◌↔◌}
use Rattle.std.specs.List.{All, IsDistinct}
use Rattle.std.specs.List.Sorted.{IsPermutation, IsSorted, IsStrictlyIncreasing}
use Rattle.std.specs.Ordering.{nat_cmp}
use Rattle.antichain.proofs.Changes.{gone-exact, kept-exact}
use Rattle.antichain.proofs.Parts.{distinct-gone}
use Rattle.antichain.specs.Antichains.{ids_of, IsBeaten, IsUnbeaten, TakesOut}
use Rattle.antichain.specs.declared.member.Member.{Member}
use Rattle.bucket.proofs.Lasts.{last_of-dominates}
use Rattle.bucket.proofs.Rising.{has-at}
use Rattle.bucket.specs.Buckets.{AreThose, Below}
use Rattle.bucket.specs.Fronts.{IsFront}
use Rattle.label_list.specs.Labels.{Held, last_of, path_of}
use Rattle.strip_model.proofs.Words.{has_cons_cases}
use Rattle.strip_model.specs.Directed.{has}
use Rattle.strip_model.specs.Dominance.{Dominates}
use Rattle.strip_model.specs.Side.{Face}

-- what holds of all numbers of a list holds of one that stands in it
has-all : (P : ℕ → Type 0) (xs : List ℕ) (k : ℕ) → All P xs → has k xs ≡ true → P k
has-all P [] k all h = absurd (false≢true h)
has-all P (x ∷ xs) k all h = elim (has_cons_cases k x xs h) [
  | inl same ↦ subst P (sym same) (All-head P x xs all)
  | inr later ↦ has-all P xs k (All-tail P x xs all) later
]

-- the same numbers stand in a list in another order
pub has-permuted : (xs ys : List ℕ) → IsPermutation xs ys → (k : ℕ) → has k xs ≡ true → has k ys ≡ true
has-permuted xs ys moved k h =
    has-all (λ j. has j ys ≡ true) xs k
    (All-permutation (λ j. has j ys ≡ true) ys xs (IsPermutation-sym xs ys moved) (λ i d l. has-at ys i d l)) h

flips : (x y : ℕ) → (x == y) ≡ (y == x)
flips x y = elim (cases_eq x y) [
  | inl same ↦ eq-eqb x y same ∙ sym (eq-eqb y x (sym same))
  | inr differ ↦ ne_eqb x y differ ∙ sym (ne_eqb y x (λ e. differ (sym e)))
]

-- numbers that differ rise once they are sorted
pub rising-sorted : (xs ys : List ℕ) → IsDistinct (λ j k. j == k) xs → IsPermutation xs ys → IsSorted nat_cmp ys → IsStrictlyIncreasing ys
rising-sorted xs ys d moved sorted =
    IsStrictlyIncreasing-from_distinct ys (IsNonDecreasingBy-from_sort (λ x. x) ys sorted)
    (IsDistinct-IsPermutation (λ j k. j == k) flips xs ys moved d)

-- the members that a path with the last directed strip x dominates were taken out of the antichain of x, and their ids sorted
module _ (S : Face) (hs : List Held) (path : List ℕ) (x : ℕ) (ms rest : List Member) (more ids : List ℕ)
    (f : IsFront S hs x ms) (ends : last_of path ≡ x)
    (t : TakesOut (IsBeaten S.instance (λ k. path_of hs k) path) (IsUnbeaten S.instance (λ k. path_of hs k) path) ms rest [] more)
    (moved : IsPermutation more ids) (sorted : IsSorted nat_cmp ids) where
  -- their ids
  named : (k : ℕ) → (has k ids ≡ true) ↔ ((has k (ids_of ms) ≡ true) × Dominates S.instance path (path_of hs k))
  named k =
      let exact = gone-exact (λ j. Dominates S.instance path (path_of hs j)) (λ j. ¬ Dominates S.instance path (path_of hs j)) (λ j p q. q p)
      ms t.gone rest t.parted k in (
        λ h. exact.0 (subst (λ (ks : List ℕ). has k ks ≡ true) t.added (has-permuted ids more (IsPermutation-sym more ids moved) k h)),
        λ both. has-permuted more ids moved k (subst (λ (ks : List ℕ). has k ks ≡ true) (sym t.added) (exact.1 both)),
      )

  -- they are those of all live labels that the path dominates
  pub AreThose-beaten : AreThose (Below S hs path) (length hs) ids
  AreThose-beaten = record {
    rising = rising-sorted more ids
        (subst (λ (ks : List ℕ). IsDistinct (λ j k. j == k) ks) (sym t.added)
        (distinct-gone (IsBeaten S.instance (λ k. path_of hs k) path) (IsUnbeaten S.instance (λ k. path_of hs k) path) t.parted f.antichain.distinct))
        moved sorted;
    below = λ k h. (f.sound k ((named k).0 h).0).live.there;
    hold = λ k h. let both = (named k).0 h in record { live = (f.sound k both.0).live; dominated = both.1 };
    all = λ k l b.
        (named k).1 (f.complete k (record { live = b.live; ends = sym (last_of-dominates S.instance path (path_of hs k) b.dominated) ∙ ends }), b.dominated);
  }

  -- what is left are those that it doesn't dominate
  pub rest-exact : (k : ℕ) → (has k (ids_of rest) ≡ true) ↔ ((has k (ids_of ms) ≡ true) × (has k ids ≡ false))
  rest-exact k =
      let exact = kept-exact (λ j. Dominates S.instance path (path_of hs j)) (λ j. ¬ Dominates S.instance path (path_of hs j)) (λ j p q. q p)
      ms t.gone rest t.parted k in (
        λ h. let both = exact.0 h in (
          both.0,
          elim (cases_Bool (has k ids)) [
            | inl there ↦ absurd (both.1 ((named k).0 there).1)
            | inr fine ↦ fine
          ],
        ),
        λ both. exact.1 (both.0, λ dom. true≢false (sym ((named k).1 (both.0, dom)) ∙ both.1)),
      )
