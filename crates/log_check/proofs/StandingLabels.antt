-- The labels that no mark marks, label by label.
use Rattle.std.proofs.Common.{◌≡◌, ℕ, zero, suc, ◌+◌, ◌<◌, List, [], ◌∷◌, ◌++◌, length, get_or, true, refl, sym, subst, ap, ◌∙◌, arith, length-append, inl, inr, true≢false}
use Rattle.std.specs.Prelude.{slice_get, Some, ◌⊎◌}
use Rattle.std.proofs.lemmas.Bool.{cases_lt}
use Rattle.label.specs.declared.label.Label.{Label}
use Rattle.log_check.specs.Faults.{IsStanding}
use Rattle.label.specs.Labels.{IsLabelOf, IsLabelWith}
use Rattle.log_check.specs.Reading.{AreRight}
use Rattle.log_check.specs.Standing.{StandBelow}
use Rattle.proof_log.specs.Labels.{paths_in, path_at, is_marked}
use Rattle.proof_log.specs.declared.log.Log.{Log}
use Rattle.strip_model.specs.LabelPath.{LabelPath}
use Rattle.strip_model.specs.Orbit.{Orbit}
use Rattle.strip_model.specs.Side.{Face, face_of}
use Rattle.strip_model.specs.declared.end.End.{End}

-- an element of a list with one more is one of the list or that one
get_push : {X : Type 0} (xs : List X) (y : X) (i : ℕ) (x : X) → slice_get (xs ++ y ∷ []) i ≡ Some x
    → ((i < length xs) × (slice_get xs i ≡ Some x)) ⊎ ((i ≡ length xs) × (y ≡ x))
get_push [] y zero x e = inr (refl, cc)
get_push [] y (suc i) x e = absurd (cc)
get_push (z ∷ zs) y zero x e = inl (omega arith, e)
get_push (z ∷ zs) y (suc i) x e = elim (get_push zs y i x e) [
  | inl h ↦ inl (omega (arith, h.0), h.1)
  | inr h ↦ inr (ap (λ (n : ℕ). suc n) h.0, h.1)
]

get_before : {X : Type 0} (xs : List X) (y : X) (i : ℕ) (x : X) → slice_get xs i ≡ Some x → slice_get (xs ++ y ∷ []) i ≡ Some x
get_before [] y i x e = absurd (cc)
get_before (z ∷ zs) y zero x e = e
get_before (z ∷ zs) y (suc i) x e = get_before zs y i x e

get_last : {X : Type 0} (xs : List X) (y : X) → slice_get (xs ++ y ∷ []) (length xs) ≡ Some y
get_last [] y = refl
get_last (z ∷ zs) y = get_last zs y

-- a marked label adds none
pub StandBelow-marked : (I : Orbit) (log : Log) (e : End) (k : ℕ) (labels : List Label) (places : List ℕ)
    → is_marked e k log.marks.items ≡ true → StandBelow I log e k labels places → StandBelow I log e (k + 1) labels places
StandBelow-marked I log e k labels places marked h = record {
  size = h.size;
  each = h.each;
  below = λ i m at. omega (arith, h.below i m at);
  all = λ m standing l. elim (cases_lt m k) [
    | inl lt ↦ h.all m standing lt
    | inr le ↦ absurd (
        let same : m ≡ k = omega arith in
        true≢false (sym marked ∙ ap (λ (n : ℕ). is_marked e n log.marks.items) (sym same) ∙ standing.1)
        )
  ];
  rising = h.rising;
}

-- one that no mark marks comes last
pub StandBelow-more : (I : Orbit) (log : Log) (e : End) (k : ℕ) (labels : List Label) (places : List ℕ) (label : Label)
    → IsStanding log e (suc k) → IsLabelWith (face_of I log.cut e) (path_at log e k) label
    → StandBelow I log e k labels places → StandBelow I log e (k + 1) (labels ++ label ∷ []) (places ++ k ∷ [])
StandBelow-more I log e k labels places label standing is h = record {
  size = length-append places (k ∷ []) ∙ ap (λ (n : ℕ). n + 1) h.size ∙ sym (length-append labels (label ∷ []));
  each = λ i m other at place.
      elim (get_push labels label i other at) [
        | inl found ↦ elim (get_push places k i m place) [
          | inl there ↦ h.each i m other found.1 there.1
          | inr last ↦ absurd (omega (arith, found.0, last.0, h.size))
        ]
        | inr new ↦ elim (get_push places k i m place) [
          | inl there ↦ absurd (omega (arith, there.0, new.0, h.size))
          | inr last ↦
              let P : ℕ → Label → Type 0 = λ n l. IsLabelWith (face_of I log.cut e) (path_at log e n) l × IsStanding log e (suc n) in
              subst (λ (n : ℕ). P n other) last.1 (subst (λ (l : Label). P k l) new.1 (is, standing))
        ]
      ];
  below = λ i m place. elim (get_push places k i m place) [
    | inl there ↦ omega (arith, h.below i m there.1)
    | inr last ↦ omega (arith, last.1)
  ];
  all = λ m stands l. elim (cases_lt m k) [
    | inl lt ↦ let found = h.all m stands lt in (found.0, get_before places k found.0 m found.1)
    | inr le ↦
        let same : k ≡ m = omega arith in
        (length places, get_last places k ∙ ap (λ (n : ℕ). Some n) same)
  ];
  rising = λ i j n m l first second. elim (get_push places k j m second) [
    | inl there ↦ elim (get_push places k i n first) [
      | inl before ↦ h.rising i j n m l before.1 there.1
      | inr last ↦ absurd (omega (arith, last.0, there.0))
    ]
    | inr last ↦ elim (get_push places k i n first) [
      | inl before ↦ omega (arith, h.below i n before.1, last.1)
      | inr other ↦ absurd (omega (arith, other.0, last.0))
    ]
  ];
}

-- a listed path is a label path of the side at its end
pub right_path : (I : Orbit) (log : Log) (e : End) (k : ℕ) (S : Face) (paths : List (List ℕ)) (path : List ℕ) → AreRight I log
    → k < length (paths_in log e) → S ≡ face_of I log.cut e → paths ≡ paths_in log e → path ≡ get_or paths k [] → LabelPath S path
right_path I log e k S paths path right there side listed is =
    let T : List ℕ → Type 0 = λ path. LabelPath (face_of I log.cut e) path in
    let whole : path ≡ path_at log e k = is ∙ ap (λ (paths : List (List ℕ)). get_or paths k []) listed in
    rw side (subst T (sym whole) (right e k there).path)

-- its label has the path that the log lists
pub listed_label : (I : Orbit) (log : Log) (e : End) (k : ℕ) (S : Face) (paths : List (List ℕ)) (path : List ℕ) (label : Label)
    → S ≡ face_of I log.cut e → paths ≡ paths_in log e → path ≡ get_or paths k [] → IsLabelWith S path label
    → IsLabelWith (face_of I log.cut e) (path_at log e k) label
listed_label I log e k S paths path label side listed at is =
    (is.0 ∙ at ∙ ap (λ (paths : List (List ℕ)). get_or paths k []) listed, subst (λ (S : Face). IsLabelOf S label) side is.1)
