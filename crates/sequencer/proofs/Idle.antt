-- Where no bytes are moved.
use Rattle.std.proofs.Common.{◌≡◌, ℕ, List, [], ◌∷◌, ◌++◌, Option, None, Some, refl, ap}
use Rattle.seq_io.specs.Sink.{Appends}
use Rattle.seq_io.specs.Source.{Consumes}

none_more : (xs : List ℕ) → xs ≡ xs ++ []
none_more [] = refl
none_more (x ∷ xs) = ap (λ (ys : List ℕ). x ∷ ys) (none_more xs)

pub none_consumed : (left : Option (List ℕ)) → Consumes left left []
none_consumed None = refl
none_consumed (Some left) = (left, refl, refl)

pub none_appended : (written : Option (List ℕ)) → Appends written written []
none_appended None = refl
none_appended (Some written) = ap (λ (bytes : List ℕ). Some bytes) (none_more written)
