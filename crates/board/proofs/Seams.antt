-- The element at the seam of two lists.
use Rattle.std.proofs.Common.{◌≡◌, ℕ, zero, suc, List, [], ◌∷◌, ◌++◌, length, get_or, set, refl, ap, arith}

module _ {A : Type 0} where
  pub get_seam : (xs : List A) (y : A) (ys : List A) (n : ℕ) (d : A) → length xs ≡ n → get_or (xs ++ y ∷ ys) n d ≡ y
  get_seam [] y ys zero d e = refl
  get_seam [] y ys (suc n) d e = absurd (omega arith)
  get_seam (x ∷ xs) y ys zero d e = absurd (omega arith)
  get_seam (x ∷ xs) y ys (suc n) d e = get_seam xs y ys n d (omega arith)

  pub set_seam : (xs : List A) (y : A) (ys : List A) (n : ℕ) (z : A) → length xs ≡ n → set (xs ++ y ∷ ys) n z ≡ xs ++ z ∷ ys
  set_seam [] y ys zero z e = refl
  set_seam [] y ys (suc n) z e = absurd (omega arith)
  set_seam (x ∷ xs) y ys zero z e = absurd (omega arith)
  set_seam (x ∷ xs) y ys (suc n) z e = ap (λ (l : List A). x ∷ l) (set_seam xs y ys n z (omega arith))

  -- one element moves from the second list to the first
  pub move_seam : (xs : List A) (y : A) (ys : List A) → xs ++ y ∷ ys ≡ (xs ++ y ∷ []) ++ ys
  move_seam [] y ys = refl
  move_seam (x ∷ xs) y ys = ap (λ (l : List A). x ∷ l) (move_seam xs y ys)
