-- Beginnings of lists.
use Rattle.std.proofs.Common.{◌≡◌, ◌≤◌, ℕ, zero, suc, List, [], ◌∷◌, ◌++◌, length, drop, Some, slice_get, refl, ap, sym, ◌∙◌, arith, append_assoc}
use Rattle.std.proofs.Math.Seq.{drop-append_seam}
use Rattle.std.proofs.lemmas.List.{append-nil}
use mathlib.Core.List.{IsPrefix}

module _ {A : Type 0} where
  pub prefix_self : (xs : List A) → IsPrefix xs xs
  prefix_self xs = ([], append-nil xs)

  pub prefix_trans : (xs ys zs : List A) → IsPrefix xs ys → IsPrefix ys zs → IsPrefix xs zs
  prefix_trans xs ys zs p q = (p.0 ++ q.0, sym (append_assoc xs p.0 q.0) ∙ ap (λ (l : List A). l ++ q.0) p.1 ∙ q.1)

  pub prefix_nil : (xs : List A) → IsPrefix [] xs
  prefix_nil xs = (xs, refl)

  -- of two beginnings of one list the shorter begins the longer
  pub prefix_shorter : (xs ys zs : List A) → IsPrefix xs zs → IsPrefix ys zs → length xs ≤ length ys → IsPrefix xs ys
  prefix_shorter [] ys zs p q h = prefix_nil ys
  prefix_shorter (x ∷ xs) [] zs p q h = absurd (omega arith)
  prefix_shorter (x ∷ xs) (y ∷ ys) [] p q h = absurd (cc)
  prefix_shorter (x ∷ xs) (y ∷ ys) (z ∷ zs) p q h =
      let p' : xs ++ p.0 ≡ zs = (let e = p.1 in cc) in
      let q' : ys ++ q.0 ≡ zs = (let e = q.1 in cc) in
      let same : x ≡ y = (let e = p.1 in let e' = q.1 in cc) in
      let r = prefix_shorter xs ys zs (p.0, p') (q.0, q') (omega arith) in
      (r.0, λ i. same i ∷ r.1 i)

  -- a list is a beginning of it and what it has beyond
  pub prefix_rest : (xs ys : List A) → IsPrefix xs ys → xs ++ drop (length xs) ys ≡ ys
  prefix_rest xs ys p = ap (λ l. xs ++ drop (length xs) l) (sym p.1) ∙ ap (λ l. xs ++ l) (drop-append_seam xs p.0) ∙ p.1

  pub prefix_get : (xs ys : List A) (k : ℕ) (a : A) → IsPrefix xs ys → slice_get xs k ≡ Some a → slice_get ys k ≡ Some a
  prefix_get [] ys k a p e = absurd (cc)
  prefix_get (x ∷ xs) [] k a p e = absurd (let h = p.1 in cc)
  prefix_get (x ∷ xs) (y ∷ ys) zero a p e = (let h = p.1 in cc)
  prefix_get (x ∷ xs) (y ∷ ys) (suc k) a p e = prefix_get xs ys k a (p.0, (let h = p.1 in cc)) e
