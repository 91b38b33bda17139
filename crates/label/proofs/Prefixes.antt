-- The beginnings of label paths are label paths.
use Rattle.std.proofs.Common.{◌≡◌, ◌≢◌, ℕ, ◌+◌, ◌<◌, List, [], ◌∷◌, ◌++◌, length, take, drop, get_or, subst, sym, ap, ◌∙◌, append_assoc, append-nil}
use Rattle.std.proofs.lemmas.List.{take_more, take-append-drop}
use Rattle.strip_model.proofs.Extending.{LabelPath-front}
use Rattle.strip_model.specs.LabelPath.{LabelPath}
use Rattle.strip_model.specs.Side.{Face}

not_empty : (path : List ℕ) (y : ℕ) → path ++ y ∷ [] ≢ []
not_empty [] y e = cc
not_empty (x ∷ path) y e = cc

-- a beginning of a label path that isn't empty is a label path
pub LabelPath-prefix : (S : Face) (rest front : List ℕ) → front ≢ [] → LabelPath S (front ++ rest) → LabelPath S front
LabelPath-prefix S [] front some h = rw append-nil at h
LabelPath-prefix S (x ∷ rest) front some h =
    LabelPath-front S front x (LabelPath-prefix S rest (front ++ x ∷ []) (not_empty front x) (rw append_assoc h)) some

-- where a path stops being a label path at a directed strip, the whole is none
pub none_longer : (S : Face) (begin rest front : List ℕ) (i x : ℕ) → i < length rest → x ≡ get_or rest i x → front ≡ begin ++ take i rest
    → (LabelPath S (front ++ x ∷ []) → ⊥) → LabelPath S (begin ++ rest) → ⊥
none_longer S begin rest front i x l at is none h =
    let so_far : begin ++ take (i + 1) rest ≡ front ++ x ∷ [] =
    ap (λ (xs : List ℕ). begin ++ xs) (take_more rest i x l) ∙ sym (append_assoc begin (take i rest) (get_or rest i x ∷ []))
    ∙ ap (λ (xs : List ℕ). xs ++ get_or rest i x ∷ []) (sym is) ∙ ap (λ (y : ℕ). front ++ y ∷ []) (sym at) in
    let whole : begin ++ rest ≡ (begin ++ take (i + 1) rest) ++ drop (i + 1) rest =
    ap (λ (xs : List ℕ). begin ++ xs) (sym (take-append-drop (i + 1) rest)) ∙ sym (append_assoc begin (take (i + 1) rest) (drop (i + 1) rest)) in
    let T : List ℕ → Type 0 = λ xs. LabelPath S xs in
    none (subst T so_far (LabelPath-prefix S (drop (i + 1) rest) (begin ++ take (i + 1) rest) (λ e. not_empty front x (sym so_far ∙ e)) (subst T whole h)))
