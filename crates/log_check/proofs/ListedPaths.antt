-- Reading the paths of a side: which of them are new label paths, and which labels stand in the list meanwhile.
use Rattle.std.proofs.Common.{◌≡◌, ℕ, ◌+◌, ◌<◌, ◌↔◌, Bool, true, false, IsTrue, List, [], ◌∷◌, ◌++◌, length, get_or, sym, ◌∙◌, ap, subst, inl, inr, true≢false, arith}
use Rattle.std.proofs.lemmas.Bool.{cases_lt}
use Rattle.std.proofs.lemmas.List.{length-map}
use Rattle.std.specs.Prelude.{Vec}
use Rattle.std.specs.declared.alloc.Global.{Global}
use Rattle.label_list.proofs.Labels.{held_at-old, held_at-new, length-push}
use Rattle.label_list.specs.Labels.{Held, Listed, IsAbsent, path_of, with_labels}
use Rattle.label_list.specs.declared.state.State.TheVariants.{Waiting}
use Rattle.log_check.specs.Faults.{IsNewLabel}
use Rattle.log_check.specs.Listing.{HasFirst}
use Rattle.log_check.specs.Paths.{plain}
use Rattle.strip_model.specs.LabelPath.{LabelPath}
use Rattle.strip_model.specs.Side.{Face}

-- The list has labels of the first k paths, and the answer on path k is whether it is a label path that no label of the list
-- has. Where it says no, path k is no new label path,
pub not_new : (S : Face) (paths : List (List ℕ)) (k : ℕ) (labels : Listed) (path : List ℕ) (right : Bool) → HasFirst S paths k labels → path ≡ get_or paths k []
    → IsTrue right ↔ (LabelPath labels.face path × IsAbsent labels.labels path) → right ≡ false → IsNewLabel S paths k → ⊥
not_new S paths k labels path right has at answer wrong h = true≢false (sym (answer.1 (is_path, is_new)) ∙ wrong)
  where
    is_path : LabelPath labels.face path
    is_path = subst (λ (F : Face). LabelPath F path) (sym has.face) (subst (λ (p : List ℕ). LabelPath S p) (sym at) h.path)

    is_new : IsAbsent labels.labels path
    is_new j there same =
        let below : j < k = omega (arith, there, has.size) in
        h.once j below (sym (has.each j below) ∙ same ∙ at)

-- and where it says yes, it is one
new_here : (S : Face) (paths : List (List ℕ)) (k : ℕ) (labels : Listed) (path : List ℕ) (right : Bool) → HasFirst S paths k labels → path ≡ get_or paths k []
    → IsTrue right ↔ (LabelPath labels.face path × IsAbsent labels.labels path) → right ≡ true → IsNewLabel S paths k
new_here S paths k labels path right has at answer is = record {
  path = subst (λ (F : Face). LabelPath F (get_or paths k [])) has.face (subst (λ (p : List ℕ). LabelPath labels.face p) at (answer.0 is).0);
  once = λ j below same. (answer.0 is).1 j (omega (arith, below, has.size)) (has.each j below ∙ same ∙ sym at);
}

-- there are as many paths as vectors
pub length-plain : (paths : List (Vec ℕ Global)) → length (plain paths) ≡ length paths
length-plain paths = length-map paths (λ (path : Vec ℕ Global). path.items)

-- one new label path more
pub AreNew-more : (S : Face) (paths : List (List ℕ)) (k : ℕ) (labels : Listed) (path : List ℕ) (right : Bool) → ((j : ℕ) → j < k → IsNewLabel S paths j)
    → HasFirst S paths k labels → path ≡ get_or paths k [] → IsTrue right ↔ (LabelPath labels.face path × IsAbsent labels.labels path) → right ≡ true
    → (j : ℕ) → j < k + 1 → IsNewLabel S paths j
AreNew-more S paths k labels path right before has at answer is j below =
    elim (cases_lt j k) [
      | inl earlier ↦ before j earlier
      | inr past ↦
          let here : k ≡ j = omega (arith, below, past) in
          subst (λ (n : ℕ). IsNewLabel S paths n) here (new_here S paths k labels path right has at answer is)
    ]

-- the list with one label more has one path more
pub HasFirst-more : (S : Face) (paths : List (List ℕ)) (k : ℕ) (old new : Listed) (path : List ℕ) → HasFirst S paths k old → path ≡ get_or paths k []
    → new ≡ with_labels old (old.labels ++ record { path = path; state = Waiting } ∷ []) → HasFirst S paths (k + 1) new
HasFirst-more S paths k old new path has at is = subst (λ (l : Listed). HasFirst S paths (k + 1) l) (sym is) (record {
  face = has.face;
  size = length-push old.labels one ∙ ap (λ (n : ℕ). n + 1) has.size;
  each = each;
})
  where
    one : Held
    one = record { path = path; state = Waiting }

    each : (j : ℕ) → j < k + 1 → path_of (old.labels ++ one ∷ []) j ≡ get_or paths j []
    each j below =
        elim (cases_lt j k) [
          | inl earlier ↦ ap (λ (h : Held). h.path) (held_at-old old.labels one j (omega (arith, earlier, has.size))) ∙ has.each j earlier
          | inr past ↦
              let here : length old.labels ≡ j = omega (arith, below, past, has.size) in
              let same : k ≡ j = omega (arith, below, past) in
              ap (λ (n : ℕ). path_of (old.labels ++ one ∷ []) n) (sym here)
              ∙ ap (λ (h : Held). h.path) (held_at-new old.labels one)
              ∙ at ∙ ap (λ (n : ℕ). get_or paths n []) same
        ]

-- a path is listed where a label of the list has it
pub listed_where_held : (S : Face) (paths : List (List ℕ)) (labels : Listed) (path : List ℕ) (id : ℕ) → HasFirst S paths (length paths) labels
    → id < length labels.labels → path_of labels.labels id ≡ path → (k : ℕ) × (k < length paths) × (get_or paths k [] ≡ path)
listed_where_held S paths labels path id has there is =
    let within : id < length paths = omega (arith, there, has.size) in
    (id, within, sym (has.each id within) ∙ is)

-- and where none has it, it isn't
pub none_where_absent : (S : Face) (paths : List (List ℕ)) (labels : Listed) (path : List ℕ) → HasFirst S paths (length paths) labels
    → IsAbsent labels.labels path → (k : ℕ) × (k < length paths) × (get_or paths k [] ≡ path) → ⊥
none_where_absent S paths labels path has absent (k, there, is) = absent k (omega (arith, there, has.size)) (has.each k there ∙ is)
