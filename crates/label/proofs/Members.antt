-- Lists with the same directed strips: the same strips stand in them, and the same are open.
use Rattle.std.proofs.Common.{◌≡◌, ℕ, ◌+◌, ◌*◌, ◌<◌, Bool, true, false, not, ◌||◌, ◌&&◌, ◌==◌, List, [], ◌∷◌, ◌++◌, length, Option, Some, None, refl, sym, ◌∙◌, ap, ap₂, arith}
use Rattle.std.specs.Option.{option_map_or}
use Rattle.strip_model.proofs.Words.{has-append}
use Rattle.strip_model.specs.Directed.{strip_of, has, has_strip}
use Rattle.strip_model.specs.IsInstance.{IsInstance}
use Rattle.strip_model.specs.Orbit.{Orbit, twin_at}
use Rattle.strip_model.specs.Reach.{is_open}
use Rattle.strip_set.proofs.Members.{has_strip-directions}
use Rattle.strip_set.specs.declared.directed_set.TheConstants.{MAX_DIRECTED}

-- the same directed strips stand in both lists
abbrev pub HaveSame : List ℕ → List ℕ → Type 0
HaveSame xs ys = (y : ℕ) → has y xs ≡ has y ys

-- a strip stands in both or in neither
pub has_strip-same : (xs ys : List ℕ) → HaveSame xs ys → (i : ℕ) → has_strip i xs ≡ has_strip i ys
has_strip-same xs ys same i =
    has_strip-directions i xs
    ∙ ap₂ (λ (a b : Bool). a || b) (same (2 * i)) (same (2 * i + 1))
    ∙ sym (has_strip-directions i ys)

lacks-same : (xs ys : List ℕ) → HaveSame xs ys → (twin : Option ℕ)
    → option_map_or (λ t. not (has_strip t xs)) twin false ≡ option_map_or (λ t. not (has_strip t ys)) twin false
lacks-same xs ys same None = refl
lacks-same xs ys same (Some t) = ap (λ (b : Bool). not b) (has_strip-same xs ys same t)

-- the same directed strips are open in both
pub is_open-same : (J : Orbit) (xs ys : List ℕ) → HaveSame xs ys → (y : ℕ) → is_open J xs y ≡ is_open J ys y
is_open-same J xs ys same y = ap₂ (λ (a b : Bool). a && b) (same y) (lacks-same xs ys same (twin_at J (strip_of y)))

-- one more directed strip, at either end
pub HaveSame-push : (x : ℕ) (xs ys : List ℕ) → HaveSame xs ys → HaveSame (x ∷ xs) (ys ++ x ∷ [])
HaveSame-push x xs ys same y =
    ap (λ (b : Bool). (x == y) || b) (same y)
    ∙ turned (x == y) (has y ys)
    ∙ sym (has-append y ys (x ∷ []))
  where
    turned : (a b : Bool) → (a || b) ≡ (b || (a || false))
    turned true true = refl
    turned true false = refl
    turned false true = refl
    turned false false = refl

-- the number of a directed strip that exists has room in a set
pub directed_below : (J : Orbit) (x : ℕ) → IsInstance J → strip_of x < length J.strips → x < MAX_DIRECTED
directed_below J x inst exists = omega (arith, exists, inst.limits.few_strips)
