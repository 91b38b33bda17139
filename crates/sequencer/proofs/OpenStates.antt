-- Where a search is open, its labels are fewer than there are label paths: they are different label paths, and one is missing.
use Rattle.std.proofs.Common.{◌≡◌, ◌≢◌, ℕ, ◌+◌, ◌<◌, ◌≤◌, List, [], ◌∷◌, ◌++◌, length, get_or, Contains, sym, ◌∙◌, ap, subst, inl, inr, arith}
use Rattle.std.proofs.lemmas.Bool.{cases_lt}
use Rattle.std.proofs.lemmas.List.{get_or_default}
use Rattle.bucket.specs.declared.id.Id.{Id}
use Rattle.closer.specs.Finishing.{IsOpen}
use Rattle.label_core.proofs.Cores.{IsOrderly-reached}
use Rattle.label_core.proofs.Numbers.{path-number, IsNumbered, find_number}
use Rattle.label_core.proofs.Orderly.{IsOrderly}
use Rattle.label_core.specs.CoreState.{CoreState, buckets_of, path_of, IsListed}
use Rattle.label_core.specs.LogOf.{all_paths, number}
use Rattle.label_core.specs.Machine.{Machine, IsReached, count_of}
use Rattle.admission.specs.CarefulRuns.{IsExtended}
use Rattle.sequencer.proofs.LoggedLabels.{count-paths}
use Rattle.strip_model.proofs.Counting.{HasAllPaths-from_count_of}
use Rattle.strip_model.specs.LabelPath.{LabelPath}
use Rattle.strip_model.specs.Orbit.{Orbit}
use Rattle.strip_model.specs.PathCount.{path_count_of, AreLabelPaths}
use Rattle.strip_model.specs.Side.{face_of}
use Rattle.strip_model.specs.declared.end.End.{End}
use Rattle.strip_model.specs.declared.end.End.TheVariants.{Forward, Backward}

-- the label paths of a side that are in the list
abbrev paths_of : CoreState → End → List (List ℕ)
paths_of s e = all_paths (buckets_of s e)

path_found : (s : CoreState) (e : End) (k : ℕ) (found : IsNumbered s e k) → get_or (paths_of s e) k [] ≡ path_of s found.id
path_found s e k found =
    subst (λ (n : ℕ). get_or (paths_of s e) n [] ≡ path_of s found.id) found.is
    (subst (λ (f : End). get_or (paths_of s f) (number s found.id) [] ≡ path_of s found.id) found.side (path-number s found.id found.there))

are_label_paths : (I : Orbit) (H : ℕ) (s : CoreState) → IsOrderly I H s → (e : End) → AreLabelPaths (face_of I H e) (paths_of s e)
are_label_paths I H s o e = record { each = each; once = once }
  where
    each : (k : ℕ) → k < length (paths_of s e) → LabelPath (face_of I H e) (get_or (paths_of s e) k [])
    each k low =
        let found : IsNumbered s e k = find_number s e k low in
        subst (λ (path : List ℕ). LabelPath (face_of I H e) path) (sym (path_found s e k found))
        (subst (λ (f : End). LabelPath (face_of I H f) (path_of s found.id)) found.side (o.is_path found.id found.there))

    once : (j k : ℕ) → j < k → k < length (paths_of s e) → get_or (paths_of s e) j [] ≢ get_or (paths_of s e) k []
    once j k less low same =
        let a : IsNumbered s e j = find_number s e j (omega (arith, less, low)) in
        let b : IsNumbered s e k = find_number s e k low in
        let one : a.id ≡ b.id =
        o.once a.id b.id a.there b.there (a.side ∙ sym b.side) (sym (path_found s e j a) ∙ same ∙ path_found s e k b) in
        omega (arith, less, sym a.is ∙ ap (λ (id : Id). number s id) one ∙ b.is)

listed : (s : CoreState) (e : End) (path : List ℕ) → Contains (paths_of s e) path → IsListed s e path
listed s e path (k, low, same) =
    let found : IsNumbered s e k = find_number s e k low in
    (found.id, found.side, found.there, sym (path_found s e k found) ∙ get_or_default (paths_of s e) k [] path low ∙ same)

pub count-below : (m : Machine) → IsReached m → IsOpen m → count_of m.state < path_count_of m.instance m.cut
count-below m reached lacks =
    let o : IsOrderly m.instance m.cut m.state = IsOrderly-reached m reached in
    elim (cases_lt (count_of m.state) (path_count_of m.instance m.cut)) [
      | inl below ↦ below
      | inr enough ↦ absurd (lacks.3 (all_extended o enough))
    ]
  where
    all_extended : IsOrderly m.instance m.cut m.state → path_count_of m.instance m.cut ≤ count_of m.state → IsExtended m lacks.0 lacks.1
    all_extended o enough y label =
        let many : path_count_of m.instance m.cut ≤ length (paths_of m.state Forward) + length (paths_of m.state Backward) =
        subst (λ (n : ℕ). path_count_of m.instance m.cut ≤ n) (count-paths m.state) enough in
        listed m.state lacks.0 (lacks.1 ++ y ∷ [])
        (HasAllPaths-from_count_of m.instance m.cut (paths_of m.state) (are_label_paths m.instance m.cut m.state o) many lacks.0
        (lacks.1 ++ y ∷ []) label)
