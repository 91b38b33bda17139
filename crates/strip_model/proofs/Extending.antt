-- One more directed strip at the end of a root or label path.
use Rattle.std.proofs.Common.{◌≡◌, ◌≢◌, ℕ, ◌+◌, ◌<◌, ◌≤◌, ◌⊎◌, max, true, List, [], ◌∷◌, ◌++◌, Some, refl, sym, ◌∙◌, ap, subst, inl, inr, true≢false, arith}
use Rattle.strip_model.proofs.InTime.{IsInTime-push, IsInTime-front}
use Rattle.strip_model.proofs.Starts.{Fits-push_parts, place_after_push}
use Rattle.strip_model.proofs.Twins.{twin_at_mutual}
use Rattle.strip_model.proofs.Words.{has_left, has_right, has_cases, has_head, has_cons_cases, StripsExist-append_parts, StripsDistinct-push_parts}
use Rattle.strip_model.specs.Directed.{strip_of, direction_of, has}
use Rattle.strip_model.specs.IsInstance.{IsInstance}
use Rattle.strip_model.specs.LabelPath.{LabelPath, MayExtend}
use Rattle.strip_model.specs.Orbit.{Orbit, early_at, late_at, duration_at, manoeuvre_at, twin_at}
use Rattle.strip_model.specs.Side.{Face, IsWithinCap}
use Rattle.strip_model.specs.Starts.{Place, Root, After, arrive, IsInTime, place_after}
use Rattle.strip_model.specs.Twins.{HasTwinsOneWay}
use Rattle.strip_model.specs.declared.end.End.{End}
use Rattle.strip_model.specs.declared.end.End.TheVariants.{Forward, Backward}

not_empty : (path : List ℕ) (y : ℕ) → path ++ y ∷ [] ≢ []
not_empty [] y e = cc
not_empty (x ∷ path) y e = cc

-- what stands in a list with one more stands in the list or is that one
push_cases : (x y : ℕ) (path : List ℕ) → has x (path ++ y ∷ []) ≡ true → (has x path ≡ true) ⊎ (y ≡ x)
push_cases x y path h =
    elim (has_cases x path (y ∷ []) h) [
      | inl in_path ↦ inl in_path
      | inr last ↦ elim (has_cons_cases x y [] last) [ inl same ↦ inr (sym same) | inr none ↦ absurd (true≢false (sym none)) ]
    ]

-- twins have one direction with one more directed strip whose twin, where it stands there, has its direction
HasTwinsOneWay-push : (J : Orbit) → IsInstance J → (path : List ℕ) (y : ℕ) → HasTwinsOneWay J path
    → ((x : ℕ) → has x path ≡ true → twin_at J (strip_of y) ≡ Some (strip_of x) → direction_of x ≡ direction_of y)
    → HasTwinsOneWay J (path ++ y ∷ [])
HasTwinsOneWay-push J inst path y one_way agrees x z x_there z_there twin =
    elim (push_cases x y path x_there) [
      | inl x_in ↦ elim (push_cases z y path z_there) [
        | inl z_in ↦ one_way x z x_in z_in twin
        | inr z_is ↦
            let back = twin_at_mutual J (strip_of x) (strip_of y) inst (subst (λ (k : ℕ). twin_at J (strip_of x) ≡ Some (strip_of k)) (sym z_is) twin) in
            ap (λ (k : ℕ). direction_of k) (sym z_is) ∙ sym (agrees x x_in back)
      ]
      | inr x_is ↦ elim (push_cases z y path z_there) [
        | inl z_in ↦ agrees z z_in (ap (λ (k : ℕ). twin_at J (strip_of k)) x_is ∙ twin) ∙ ap (λ (k : ℕ). direction_of k) x_is
        | inr z_is ↦ ap (λ (k : ℕ). direction_of k) (sym z_is ∙ x_is)
      ]
    ]

-- A root or label path with one more directed strip that may come next is a label path.
pub LabelPath-push : (S : Face) → IsInstance S.instance → (path : List ℕ) (y : ℕ) → IsInTime S.instance path → HasTwinsOneWay S.instance path
    → MayExtend S path y → LabelPath S (path ++ y ∷ [])
LabelPath-push S inst path y in_time one_way may = record {
  some = not_empty path y;
  in_time =
      IsInTime-push S.instance path y in_time may.exist may.new_strip (arrive S.instance (place_after S.instance Root path) y) (late_at S.instance y)
      refl refl may.in_time;
  one_way = HasTwinsOneWay-push S.instance inst path y one_way may.agrees;
  cap = subst (λ (q : Place). IsWithinCap S.end S q) (sym (place_after_push S.instance Root path y)) may.cap;
}

-- the last of a label path may come after what stands before it
pub MayExtend-last : (S : Face) (path : List ℕ) (y : ℕ) → LabelPath S (path ++ y ∷ []) → MayExtend S path y
MayExtend-last S path y h = record {
  exist = (StripsExist-append_parts S.instance path (y ∷ []) h.in_time.exist).1.0;
  new_strip = (StripsDistinct-push_parts path y h.in_time.distinct).1;
  agrees = λ x there twin. h.one_way y x (has_right y path (y ∷ []) (has_head y [])) (has_left x path (y ∷ []) there) twin;
  in_time = (Fits-push_parts S.instance Root path y h.in_time.fits).1;
  cap = subst (λ (q : Place). IsWithinCap S.end S q) (place_after_push S.instance Root path y) h.cap;
}

-- a place is within the cap if what comes next is
IsWithinCap-before : (e : End) (S : Face) (q : Place) (y : ℕ) → IsWithinCap e S (After (arrive S.instance q y) y) → IsWithinCap e S q
IsWithinCap-before Forward S Root y cap = tt
IsWithinCap-before Backward S Root y cap = tt
IsWithinCap-before Forward S (After s x) y cap = forward (early_at S.instance y) s (duration_at S.instance x) (manoeuvre_at S.instance x y) S.cut cap
  where
    forward : (early s x xy cut : ℕ) → max early (s + x + xy) ≤ cut → s ≤ cut
    forward early s x xy cut h = omega arith
IsWithinCap-before Backward S (After s x) y cap =
    backward (early_at S.instance y) s (duration_at S.instance x) (manoeuvre_at S.instance x y) (duration_at S.instance y) S.cut S.horizon cap
  where
    backward : (early s x xy y cut horizon : ℕ) → max early (s + x + xy) + y + cut < horizon → s + x + cut < horizon
    backward early s x xy y cut horizon h = omega arith

-- a label path without its last is a label path or the root
pub LabelPath-front : (S : Face) (path : List ℕ) (y : ℕ) → LabelPath S (path ++ y ∷ []) → path ≢ [] → LabelPath S path
LabelPath-front S path y h some = record {
  some = some;
  in_time = IsInTime-front S.instance path (y ∷ []) h.in_time;
  one_way = λ x z x_there z_there twin. h.one_way x z (has_left x path (y ∷ []) x_there) (has_left z path (y ∷ []) z_there) twin;
  cap = IsWithinCap-before S.end S (place_after S.instance Root path) y (MayExtend-last S path y h).cap;
}
