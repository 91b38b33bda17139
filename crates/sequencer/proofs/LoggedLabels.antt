-- The labels of a log without a mark are the live labels of the state whose log it is.
use Rattle.std.proofs.Common.{◌≡◌, ℕ, ◌+◌, ◌<◌, not, Bool, false, List, [], ◌∷◌, ◌++◌, map, length, get_or, sum_by, length-append, refl, sym, ◌∙◌, ap, subst, inr, arith}
use Rattle.std.proofs.lemmas.List.{length-map}
use Rattle.std.proofs.lemmas.List.Sums.{sum_by-cons}
use Rattle.std.specs.List.{AllByRecursion}
use Rattle.std.specs.declared.alloc.Global.{Global}
use Rattle.std.specs.declared.vec.Vec.{Vec}
use Rattle.label_list.specs.Labels.{Held}
use Rattle.bucket.specs.declared.id.Id.{Id}
use Rattle.bucket.specs.declared.limits.TheConstants.{BUCKETS}
use Rattle.closer.specs.Finishing.{IsAtRest}
use Rattle.label_core.proofs.Cores.{IsOrderly-reached}
use Rattle.label_core.proofs.EachAfter.{EachAfter}
use Rattle.label_core.proofs.InOrder.{EachAfter-in_order, is_noted-in_order}
use Rattle.label_core.proofs.Lookups.{bucket_there}
use Rattle.label_core.proofs.Numbers.{path-number, IsNumbered, find_number, is_marked-noted}
use Rattle.label_core.proofs.Orderly.{IsOrderly, MarksWell, marked_there}
use Rattle.label_core.specs.CoreState.{CoreState, marked_by, is_noted, buckets_of, path_of, IsThere, IsLiveAt, IsLivePath}
use Rattle.label_core.specs.LogOf.{IsLogOf, all_paths, number, mark_of, in_order}
use Rattle.label_core.specs.Machine.{Machine, IsReached, count_of}
use Rattle.label_core.specs.declared.note.Note.{Note}
use Rattle.proof_log.specs.AnswerText.{label_count}
use Rattle.proof_log.specs.Labels.{paths_in, path_at, is_marked}
use Rattle.proof_log.specs.declared.log.Log.{Log}
use Rattle.proof_log.specs.declared.mark.Mark.{Mark}
use Rattle.sequencer.specs.Searching.{IsUnmarked, HasNoNeedless}
use Rattle.strip_model.specs.Dominance.{Dominates}
use Rattle.strip_model.specs.Orbit.{Orbit}
use Rattle.strip_model.specs.Plan.{gain_of}
use Rattle.strip_model.specs.Reach.{bound}
use Rattle.strip_model.specs.Side.{facing}
use Rattle.strip_model.specs.declared.end.End.{End}
use Rattle.strip_model.specs.declared.end.End.TheVariants.{Forward, Backward}

-- marks that keep their rules mark labels that are there
all_there : (I : Orbit) (s : CoreState) (earlier notes : List Note) → EachAfter (MarksWell I s) earlier notes
    → AllByRecursion (λ note. IsThere s (marked_by note)) notes
all_there I s earlier [] each = tt
all_there I s earlier (note ∷ notes) each = (marked_there I s earlier note each.0, all_there I s (earlier ++ note ∷ []) notes each.1)

module _ (I : Orbit) (H : ℕ) (s : CoreState) (log : Log) (o : IsOrderly I H s) (is : IsLogOf I H s log) where
  -- the label of a number
  label_found : (e : End) (k : ℕ) → k < length (paths_in log e) → IsNumbered s e k
  label_found e k low = find_number s e k (subst (λ (paths : List (List ℕ)). k < length paths) (is.paths e) low)

  path_found : (e : End) (k : ℕ) (found : IsNumbered s e k) → path_at log e k ≡ path_of s found.id
  path_found e k found =
      let here : path_at log found.id.end (number s found.id) ≡ path_of s found.id =
      ap (λ (paths : List (List ℕ)). get_or paths (number s found.id) []) (is.paths found.id.end) ∙ path-number s found.id found.there in
      subst (λ (n : ℕ). path_at log e n ≡ path_of s found.id) found.is
      (subst (λ (f : End). path_at log f (number s found.id) ≡ path_of s found.id) found.side here)

  marked_is : (e : End) (k : ℕ) (found : IsNumbered s e k) → is_marked e k log.marks.items ≡ is_noted found.id (in_order s.notes)
  marked_is e k found =
      let all : AllByRecursion (λ note. IsThere s (marked_by note)) (in_order s.notes) =
      all_there I s [] (in_order s.notes) (EachAfter-in_order I s s.notes o.marked) in
      let here : is_marked found.id.end (number s found.id) (map (mark_of s) (in_order s.notes)) ≡ is_noted found.id (in_order s.notes) =
      is_marked-noted I H s o found.id (in_order s.notes) found.there all in
      let in_log : is_marked found.id.end (number s found.id) log.marks.items ≡ is_noted found.id (in_order s.notes) =
      subst (λ (marks : List Mark). is_marked found.id.end (number s found.id) marks ≡ is_noted found.id (in_order s.notes)) (sym is.marks) here in
      subst (λ (n : ℕ). is_marked e n log.marks.items ≡ is_noted found.id (in_order s.notes)) found.is
      (subst (λ (f : End). is_marked f (number s found.id) log.marks.items ≡ is_noted found.id (in_order s.notes)) found.side in_log)

  live_found : (e : End) (k : ℕ) (found : IsNumbered s e k) → is_marked e k log.marks.items ≡ false → IsLiveAt s found.id
  live_found e k found unmarked =
      let in_side : found.id.bucket < BUCKETS = omega (arith, bucket_there s found.id found.there, o.size found.id.end) in
      let noted : is_noted found.id s.notes ≡ false =
      sym (is_noted-in_order found.id s.notes in_side) ∙ sym (marked_is e k found) ∙ unmarked in
      record { there = found.there; live = o.live_is found.id found.there ∙ ap (λ (b : Bool). not b) noted }

  live_path : (e : End) (k : ℕ) (found : IsNumbered s e k) → is_marked e k log.marks.items ≡ false → IsLivePath s e (path_at log e k)
  live_path e k found unmarked = inr (found.id, found.side, live_found e k found unmarked, sym (path_found e k found))

  -- paths that are the same have one number
  one_number : (e : End) (j k : ℕ) (a : IsNumbered s e j) (b : IsNumbered s e k) → path_at log e j ≡ path_at log e k → j ≡ k
  one_number e j k a b same =
      let one : a.id ≡ b.id =
      o.once a.id b.id a.there b.there (a.side ∙ sym b.side) (sym (path_found e j a) ∙ same ∙ path_found e k b) in
      sym a.is ∙ ap (λ (id : Id). number s id) one ∙ b.is

-- where a search has ended, no label without a mark is needless
pub HasNoNeedless-rest : (m : Machine) (log : Log) → IsReached m → IsLogOf m.instance m.cut m.state log → IsAtRest m → HasNoNeedless m.instance log
HasNoNeedless-rest m log reached is rest = record { antichain = antichain; bounds = bounds }
  where
    o : IsOrderly m.instance m.cut m.state
    o = IsOrderly-reached m reached

    antichain : (e : End) (j k : ℕ) → IsUnmarked log e j → IsUnmarked log e k
        → Dominates (facing m.instance e) (path_at log e j) (path_at log e k) → j ≡ k
    antichain e j k a b dominates =
        let at_j = label_found m.instance m.cut m.state log o is e j a.there in
        let at_k = label_found m.instance m.cut m.state log o is e k b.there in
        let live_j = live_path m.instance m.cut m.state log o is e j at_j a.unmarked in
        let live_k = live_path m.instance m.cut m.state log o is e k at_k b.unmarked in
        one_number m.instance m.cut m.state log o is e j k at_j at_k
        (sym (rest.antichain e (path_at log e k) (path_at log e j) live_k live_j dominates))

    bounds : (e : End) (k : ℕ) → IsUnmarked log e k → log.gain < bound (facing m.instance e) (path_at log e k)
    bounds e k a =
        let at_k = label_found m.instance m.cut m.state log o is e k a.there in
        let live = live_found m.instance m.cut m.state log o is e k at_k a.unmarked in
        let of_state : gain_of m.instance m.state.incumbent < bound (facing m.instance e) (path_of m.state at_k.id) =
        subst (λ (f : End). gain_of m.instance m.state.incumbent < bound (facing m.instance f) (path_of m.state at_k.id)) at_k.side
        (rest.bounds at_k.id live) in
        let of_path : gain_of m.instance m.state.incumbent < bound (facing m.instance e) (path_at log e k) =
        subst (λ (path : List ℕ). gain_of m.instance m.state.incumbent < bound (facing m.instance e) path)
        (sym (path_found m.instance m.cut m.state log o is e k at_k)) of_state in
        subst (λ (gain : ℕ). gain < bound (facing m.instance e) (path_at log e k)) (sym is.gain) of_path

-- ---- how many labels there are

length-all_paths : (buckets : List (List Held)) → length (all_paths buckets) ≡ sum_by (λ labels. length labels) buckets
length-all_paths [] = refl
length-all_paths (labels ∷ buckets) =
    length-append (map (λ (h : Held). h.path) labels) (all_paths buckets)
    ∙ ap (λ (n : ℕ). n + length (all_paths buckets)) (length-map labels (λ (h : Held). h.path))
    ∙ ap (λ (n : ℕ). length labels + n) (length-all_paths buckets) ∙ sym (sum_by-cons (λ (labels : List Held). length labels) labels buckets)

pub count-paths : (s : CoreState) → count_of s ≡ length (all_paths (buckets_of s Forward)) + length (all_paths (buckets_of s Backward))
count-paths s = omega (arith, length-all_paths s.forward, length-all_paths s.backward)

-- the log has as many labels as the state
pub label_count-is : (I : Orbit) (H : ℕ) (s : CoreState) (log : Log) → IsLogOf I H s log → label_count log ≡ count_of s
label_count-is I H s log is =
    let forward : length log.forward.items ≡ length (all_paths (buckets_of s Forward)) =
    sym (length-map log.forward.items (λ (path : Vec ℕ Global). path.items)) ∙ ap (λ (paths : List (List ℕ)). length paths) (is.paths Forward) in
    let backward : length log.backward.items ≡ length (all_paths (buckets_of s Backward)) =
    sym (length-map log.backward.items (λ (path : Vec ℕ Global). path.items)) ∙ ap (λ (paths : List (List ℕ)). length paths) (is.paths Backward) in
    omega (arith, forward, backward, count-paths s)
