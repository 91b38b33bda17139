-- The answers of both searches are the only ones.
use Rattle.std.proofs.Common.{◌≡◌, ℕ, ◌<◌, ◌≤◌, List, Option, None, Some, refl, sym, ◌∙◌, ap, subst, inl, inr, arith}
use Rattle.std.proofs.lemmas.Bool.{cases_lt}
use Rattle.joiner.specs.Pairs.{place_of, path_at, IsNoWorse, IsPair, IsGreatest, HasOver, HasNoneOver, NoneAbove, IsBest, IsFirstOver, IsOver}
use Rattle.joiner.specs.declared.over.Over.{Over}
use Rattle.joiner.specs.declared.pair.Pair.{Pair}
use Rattle.label.specs.declared.label.Label.{Label}
use Rattle.strip_model.specs.Join.{join_gain}
use Rattle.strip_model.specs.Orbit.{Orbit}

-- a place is of one label or of the root
place_of_one : (a b : Option ℕ) → place_of a ≡ place_of b → a ≡ b
place_of_one None None e = refl
place_of_one None (Some k) e = absurd (omega (arith, e))
place_of_one (Some k) None e = absurd (omega (arith, e))
place_of_one (Some k) (Some l) e = let same : k ≡ l = omega (arith, e) in ap (λ (n : ℕ). Some n) same

-- a number that is no less and no greater
equal : (a b : ℕ) → a ≤ b → b ≤ a → a ≡ b
equal a b h k = omega (arith, h, k)

-- of two pairs that are no worse than each other there is one
one_pair : (p q : Pair) → IsNoWorse p q.gain (place_of q.forward) (place_of q.backward) → IsNoWorse q p.gain (place_of p.forward) (place_of p.backward) → p ≡ q
one_pair p q h k =
    let gains : p.gain ≡ q.gain = equal p.gain q.gain k.no_less h.no_less in
    let ahead : place_of p.forward ≡ place_of q.forward = equal (place_of p.forward) (place_of q.forward) (h.no_later (sym gains)) (k.no_later gains) in
    let behind : place_of p.backward ≡ place_of q.backward =
    equal (place_of p.backward) (place_of q.backward) (h.then_no_later (sym gains) ahead) (k.then_no_later gains (sym ahead)) in
    ap (λ (o : Option ℕ). record { forward = o; backward = p.backward; gain = p.gain }) (place_of_one p.forward q.forward ahead)
    ∙ ap (λ (o : Option ℕ). record { forward = q.forward; backward = o; gain = p.gain }) (place_of_one p.backward q.backward behind)
    ∙ ap (λ (n : ℕ). record { forward = q.forward; backward = q.backward; gain = n }) gains

module _ (J : Orbit) (fs bs : List Label) (floor : ℕ) where
  -- the greatest is no worse than another pair
  no_worse : (p q : Pair) → IsGreatest J fs bs floor p → IsPair J fs bs q → IsNoWorse p q.gain (place_of q.forward) (place_of q.backward)
  no_worse p q h pair =
      subst (λ (n : ℕ). IsNoWorse p n (place_of q.forward) (place_of q.backward)) (sym pair.gains)
      (h.greatest (place_of q.forward) (place_of q.backward) pair.forward_there pair.backward_there pair.joins)

  -- where no pair gains more than the floor, none is the greatest over it
  none_greatest : (p : Pair) → NoneAbove J fs bs floor → IsGreatest J fs bs floor p → ⊥
  none_greatest p none h =
      let pair = h.pair in
      past p.gain (join_gain J (path_at fs (place_of p.forward)) (path_at bs (place_of p.backward))) floor pair.gains
      (none (place_of p.forward) pair.forward_there (place_of p.backward) pair.backward_there pair.joins) h.above
    where
      past : (g h f : ℕ) → g ≡ h → h ≤ f → f < g → ⊥
      past g h f e l m = omega arith

  pub IsBest-one : (o q : Option Pair) → IsBest J fs bs floor o → IsBest J fs bs floor q → o ≡ q
  IsBest-one None None h k = refl
  IsBest-one None (Some q) h k = absurd (none_greatest q h k)
  IsBest-one (Some p) None h k = absurd (none_greatest p k h)
  IsBest-one (Some p) (Some q) h k = ap (λ (x : Pair). Some x) (one_pair p q (no_worse p q h k.pair) (no_worse q p k h.pair))

  -- a path that joins with some over the floor doesn't join with none
  over_none : (path : List ℕ) → HasOver J path bs floor → HasNoneOver J path bs floor → ⊥
  over_none path h none = past (join_gain J path (path_at bs h.with)) floor (none h.with h.there h.joins) h.over
    where
      past : (g f : ℕ) → g ≤ f → f < g → ⊥
      past g f l m = omega arith

  one_first : (o q : Over) → IsFirstOver J fs bs floor o → IsFirstOver J fs bs floor q → o ≡ q
  one_first o q h k =
      let m = place_of o.forward in
      let n = place_of q.forward in
      let same : m ≡ n = equal m n
      (no_earlier m n (λ l. over_none (path_at fs n) k.some (h.none_before n l)))
      (no_earlier n m (λ l. over_none (path_at fs m) h.some (k.none_before m l))) in
      ap (λ (f : Option ℕ). record { forward = f }) (place_of_one o.forward q.forward same)
    where
      no_earlier : (a b : ℕ) → (b < a → ⊥) → a ≤ b
      no_earlier a b f = elim (cases_lt b a) [ inl earlier ↦ absurd (f earlier) | inr later ↦ later ]

  pub IsOver-one : (o q : Option Over) → IsOver J fs bs floor o → IsOver J fs bs floor q → o ≡ q
  IsOver-one None None h k = refl
  IsOver-one None (Some q) h k = absurd (over_none (path_at fs (place_of q.forward)) k.some (h (place_of q.forward) k.there))
  IsOver-one (Some p) None h k = absurd (over_none (path_at fs (place_of p.forward)) h.some (k (place_of p.forward) h.there))
  IsOver-one (Some p) (Some q) h k = ap (λ (x : Over). Some x) (one_first p q h k)
