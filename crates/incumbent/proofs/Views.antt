-- Lists of views: what one changed view, or one more, does to them.
use Rattle.std.proofs.Common.{◌≡◌, ◌≢◌, ℕ, zero, suc, ◌+◌, ◌<◌, ◌≤◌, List, [], ◌∷◌, ◌++◌, length, set, refl, sym, ap, ◌∙◌, subst, ⊎_elim, arith}
use mathlib.Core.Option.{some-ne-none, some-injective}
use mathlib.Core.Logic.{dite}
use native.Mathlib.Decide.{ℕ_discrete}
use Rattle.atomic_table.proofs.Lists.{at_set, at_snoc, at_longer, set_here, set_else}
use Rattle.incumbent.specs.declared.knowledge.Knowledge.{Knowledge}
use Rattle.incumbent.specs.Rule.{StandsAt, EachView, SomeView, total_weight, IsGreatestOffer}

pub stands_below : (l : List Knowledge) (i : ℕ) (v : Knowledge) → StandsAt l i v → i < length l
stands_below [] i v at = absurd (some-ne-none v (sym at))
stands_below (x ∷ xs) zero v at = omega arith
stands_below (x ∷ xs) (suc i) v at = let h = stands_below xs i v at in omega arith

pub stands_once : (l : List Knowledge) (i : ℕ) (v w : Knowledge) → StandsAt l i v → StandsAt l i w → v ≡ w
stands_once l i v w a b = some-injective v w (sym a ∙ b)

-- EachView, after one view was changed, and after one more
module _ (P : Knowledge → Type 0) where
  pub EachView-set : (l : List Knowledge) (i : ℕ) (w : Knowledge) → EachView P l → P w → EachView P (set l i w)
  EachView-set l i w all one j u at =
      ⊎_elim (λ (t : (j ≡ i) × (w ≡ u)). subst P t.1 one) (λ (t : (j ≢ i) × StandsAt l j u). all j u t.1) (at_set l i j w u at)

  pub EachView-snoc : (l : List Knowledge) (w : Knowledge) → EachView P l → P w → EachView P (l ++ w ∷ [])
  EachView-snoc l w all one j u at = ⊎_elim (λ (t : StandsAt l j u). all j u t) (λ (t : w ≡ u). subst P t one) (at_snoc l w u j at)

-- a view whose offer is the word
abbrev IsTop : ℕ → Knowledge → Type 0
IsTop word v = v.offered ≡ word

-- some offer is the word still, where a changed view that had it leaves another
offered_elsewhere : (l : List Knowledge) (word i : ℕ) (v w : Knowledge) → StandsAt l i v → (v.offered ≡ word → SomeView (IsTop word) (set l i w)) → SomeView (IsTop word) l → SomeView (IsTop word) (set l i w)
offered_elsewhere l word i v w at here there =
    dite (ℕ_discrete there.0 i)
    (λ same. here (ap (λ (u : Knowledge). u.offered) (stands_once l i v there.1 at (subst (λ (n : ℕ). StandsAt l n there.1) same there.2)) ∙ there.3))
    (λ other. (there.0, there.1, set_else l i there.0 w other ∙ there.2, there.3))

-- a view that offers no less than before, and no more than the word
pub greatest-grown : (l : List Knowledge) (word i : ℕ) (v w : Knowledge) → StandsAt l i v → v.offered ≤ w.offered → w.offered ≤ word → IsGreatestOffer word l → IsGreatestOffer word (set l i w)
greatest-grown l word i v w at more most old = record {
  none_above = EachView-set (λ u. u.offered ≤ word) l i w old.none_above most;
  offered = offered_elsewhere l word i v w at (λ is. (i, w, set_here l i w (stands_below l i v at), omega arith)) old.offered;
}

-- a view that offers more than the word was, which is the new word
pub greatest-raised : (l : List Knowledge) (word i : ℕ) (v w : Knowledge) → StandsAt l i v → word ≤ w.offered → IsGreatestOffer word l → IsGreatestOffer w.offered (set l i w)
greatest-raised l word i v w at more old = record {
  none_above = EachView-set (λ u. u.offered ≤ w.offered) l i w (λ j u there. let h = old.none_above j u there in omega arith) (omega arith);
  offered = (i, w, set_here l i w (stands_below l i v at), refl);
}

-- a view that may offer less, where another offers no less than it did
pub greatest-spent : (l : List Knowledge) (word i j : ℕ) (u v w : Knowledge) → StandsAt l i u → j ≢ i → StandsAt l j v → v.offered ≤ u.offered → w.offered ≤ word → IsGreatestOffer word l → IsGreatestOffer word (set l j w)
greatest-spent l word i j u v w at apart there less most old = record {
  none_above = EachView-set (λ x. x.offered ≤ word) l j w old.none_above most;
  offered =
      offered_elsewhere l word j v w there
      (λ is. let h = old.none_above i u at in (i, u, set_else l j i w (λ e. apart (sym e)) ∙ at, omega arith))
      old.offered;
}

-- one view more
pub greatest-snoc : (l : List Knowledge) (word : ℕ) (w : Knowledge) → w.offered ≤ word → IsGreatestOffer word l → IsGreatestOffer word (l ++ w ∷ [])
greatest-snoc l word w most old = record {
  none_above = EachView-snoc (λ u. u.offered ≤ word) l w old.none_above most;
  offered = (old.offered.0, old.offered.1, at_longer l (w ∷ []) old.offered.0 old.offered.1 old.offered.2, old.offered.3);
}
