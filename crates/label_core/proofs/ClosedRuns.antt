-- A closed state that a legal run reaches leaves a log that is a proof.
use Rattle.std.proofs.Common.{◌≡◌, ◌≢◌, ℕ, ◌<◌, ◌≤◌, not, Bool, false, List, [], ◌∷◌, ◌++◌, map, length, take, get_or, replicate, slice_get, Some, refl, sym, ◌∙◌, ap, subst, inl, inr, arith, true≢false}
use Rattle.std.proofs.lemmas.Bool.{cases_lt}
use Rattle.std.proofs.lemmas.List.{length-replicate, get_or-replicate, get_or_past, map-append}
use Rattle.std.specs.List.{AllByRecursion}
use Rattle.label_list.specs.Labels.{Held}
use Rattle.bucket.specs.declared.id.Id.{Id}
use Rattle.bucket.specs.declared.limits.TheConstants.{BUCKETS}
use Rattle.label_core.proofs.EachAfter.{EachAfter, EachAfter-at}
use Rattle.label_core.proofs.InOrder.{EachAfter-in_order, is_noted-in_order}
use Rattle.label_core.proofs.Lookups.{bucket_there}
use Rattle.label_core.proofs.Numbers.{number-below, path-number, IsNumbered, find_number, one_number, is_marked-noted}
use Rattle.label_core.proofs.Orderly.{IsOrderly, MarksWell, marked_there}
use Rattle.label_core.proofs.Steps.{IsOrderly-after}
use Rattle.label_core.specs.Closed.{IsClosed}
use Rattle.label_core.specs.CoreState.{CoreState, opening, Note, Retires, Cuts, marked_by, is_noted, buckets_of, labels_in, path_of, IsThere, IsLiveAt, IsLivePath, IsListed as IsListedIn}
use Rattle.label_core.specs.Events.{Event, IsRun, after}
use Rattle.label_core.specs.LogOf.{IsLogOf, number, mark_of, in_order}
use Rattle.proof_log.specs.Labels.{paths_in, path_at, is_marked, IsListed, Stands}
use Rattle.proof_log.specs.Rules.{NamesLabels, MayRetire, KeepsRetireRule, MayCut, KeepsCutRule, IsProof}
use Rattle.proof_log.specs.declared.log.Log.{Log}
use Rattle.proof_log.specs.declared.mark.Mark.{Mark}
use Rattle.strip_model.specs.Dominance.{Dominates}
use Rattle.strip_model.specs.Join.{join_gain}
use Rattle.strip_model.specs.LabelPath.{LabelPath}
use Rattle.strip_model.specs.Orbit.{Orbit}
use Rattle.strip_model.specs.Plan.{Feasible, gain_of}
use Rattle.strip_model.specs.Reach.{bound}
use Rattle.strip_model.specs.Side.{facing, face_of}
use Rattle.strip_model.specs.declared.acquisition.Acquisition.{Acquisition}
use Rattle.strip_model.specs.declared.end.End.{End}
use Rattle.strip_model.specs.declared.end.End.TheVariants.{Forward, Backward}

-- ---- every state that is reached is orderly

-- at first there is no label
none_at_first : (id : Id) → IsThere opening id → ⊥
unfolding labels_in
none_at_first id there = elim (cases_lt id.bucket BUCKETS) [
  | inl below ↦ omega (arith, there, ap (λ (labels : List Held). length labels) (empty id.end id.bucket below))
  | inr past ↦ omega (arith, there, ap (λ (labels : List Held). length labels) (beyond id.end id.bucket past))
]
  where
    empty : (e : End) (b : ℕ) → b < BUCKETS → get_or (buckets_of opening e) b [] ≡ []
    empty Forward b below = get_or-replicate BUCKETS b [] [] below
    empty Backward b below = get_or-replicate BUCKETS b [] [] below

    beyond : (e : End) (b : ℕ) → BUCKETS ≤ b → get_or (buckets_of opening e) b [] ≡ []
    beyond Forward b past = get_or_past (replicate BUCKETS []) b [] past
    beyond Backward b past = get_or_past (replicate BUCKETS []) b [] past

Feasible-empty : (I : Orbit) → Feasible I []
Feasible-empty I = record {
  exist = tt;
  distinct = tt;
  windows = tt;
  manoeuvres = tt;
  twins = λ x y there partner. absurd (true≢false (sym there));
}

pub IsOrderly-opening : (I : Orbit) (H : ℕ) → IsOrderly I H opening
IsOrderly-opening I H = record {
  size = size;
  feasible = Feasible-empty I;
  is_path = λ id there. absurd (none_at_first id there);
  placed = λ id there. absurd (none_at_first id there);
  once = λ a b there b_there side same. absurd (none_at_first a there);
  marked = tt;
  live_is = λ id there. absurd (none_at_first id there);
}
  where
    size : (e : End) → length (buckets_of opening e) ≡ BUCKETS
    size Forward = length-replicate {A = List Held} BUCKETS []
    size Backward = length-replicate {A = List Held} BUCKETS []

-- a legal run leads from an orderly state to an orderly one
pub IsOrderly-run : (I : Orbit) (H : ℕ) (s : CoreState) (events : List Event) (t : CoreState) → IsRun I H s events t → IsOrderly I H s → IsOrderly I H t
IsOrderly-run I H s [] t run o = subst (λ (u : CoreState). IsOrderly I H u) run o
IsOrderly-run I H s (event ∷ events) t run o = IsOrderly-run I H (after I s event) events t run.1 (IsOrderly-after I H s event run.0 o)

-- ---- the log of an orderly state

-- a mark of the log keeps its rules
abbrev KeepsRules : Orbit → Log → List Mark → Mark → Type 0
KeepsRules I log earlier m = NamesLabels log m × KeepsRetireRule I log earlier m × KeepsCutRule I log earlier m

module _ (I : Orbit) (H : ℕ) (s : CoreState) (log : Log) (o : IsOrderly I H s) (is : IsLogOf I H s log) where
  -- a label stands in the log at its number
  below : (id : Id) (e : End) → id.end ≡ e → IsThere s id → number s id < length (paths_in log e)
  below id e side there =
      subst (λ (f : End). number s id < length (paths_in log f)) side
      (subst (λ (paths : List (List ℕ)). number s id < length paths) (sym (is.paths id.end)) (number-below s id there))

  path_is : (id : Id) (e : End) → id.end ≡ e → IsThere s id → path_at log e (number s id) ≡ path_of s id
  path_is id e side there =
      subst (λ (f : End). path_at log f (number s id) ≡ path_of s id) side
      (ap (λ (paths : List (List ℕ)). get_or paths (number s id) []) (is.paths id.end) ∙ path-number s id there)

  marked_is : (id : Id) (e : End) (notes : List Note) → id.end ≡ e → IsThere s id → AllByRecursion (λ note. IsThere s (marked_by note)) notes
      → is_marked e (number s id) (map (mark_of s) notes) ≡ is_noted id notes
  marked_is id e notes side there all =
      subst (λ (f : End). is_marked f (number s id) (map (mark_of s) notes) ≡ is_noted id notes) side (is_marked-noted I H s o id notes there all)

  -- and each place of the log is that of a label
  find : (e : End) (k : ℕ) → k < length (paths_in log e) → IsNumbered s e k
  find e k low = find_number s e k (subst (λ (paths : List (List ℕ)). k < length paths) (is.paths e) low)

  path_found : (e : End) (k : ℕ) (found : IsNumbered s e k) → path_at log e k ≡ path_of s found.id
  path_found e k found = subst (λ (n : ℕ). path_at log e n ≡ path_of s found.id) found.is (path_is found.id e found.side found.there)

  -- ---- marks

  keeps_rules : (earlier : List Note) (note : Note) → AllByRecursion (λ n. IsThere s (marked_by n)) earlier → MarksWell I s earlier note
      → KeepsRules I log (map (mark_of s) earlier) (mark_of s note)
  keeps_rules earlier (Retires id by) all well =
      let retires : MayRetire I log (map (mark_of s) earlier) id.end (number s id) (number s by) = record {
        differ = λ same. well.differ (one_number I H s o id by well.there well.by_there (sym well.one_side) same);
        unmarked = marked_is id id.end earlier refl well.there all ∙ well.unmarked;
        by_unmarked = marked_is by id.end earlier well.one_side well.by_there all ∙ well.by_unmarked;
        dominated =
            subst (λ (b : List ℕ). Dominates (facing I id.end) b (path_at log id.end (number s id))) (sym (path_is by id.end well.one_side well.by_there))
            (subst (λ (a : List ℕ). Dominates (facing I id.end) (path_of s by) a) (sym (path_is id id.end refl well.there)) well.dominated);
      } in
      ((below id id.end refl well.there, below by id.end well.one_side well.by_there), retires, tt)
  keeps_rules earlier (Cuts id) all well =
      let bounded : bound (facing I id.end) (path_at log id.end (number s id)) ≤ log.gain =
      subst (λ (gain : ℕ). bound (facing I id.end) (path_at log id.end (number s id)) ≤ gain) (sym is.gain)
      (subst (λ (a : List ℕ). bound (facing I id.end) a ≤ gain_of I s.incumbent) (sym (path_is id id.end refl well.there)) well.bounded) in
      let cuts : MayCut I log (map (mark_of s) earlier) id.end (number s id) =
      record { unmarked = marked_is id id.end earlier refl well.there all ∙ well.unmarked; bounded = bounded } in
      (below id id.end refl well.there, tt, cuts)

  all_keep_rules : (earlier notes : List Note) → AllByRecursion (λ n. IsThere s (marked_by n)) earlier → EachAfter (MarksWell I s) earlier notes
      → EachAfter (KeepsRules I log) (map (mark_of s) earlier) (map (mark_of s) notes)
  all_keep_rules earlier [] all each = tt
  all_keep_rules earlier (note ∷ notes) all each = (
    keeps_rules earlier note all each.0,
    subst (λ (front : List Mark). EachAfter (KeepsRules I log) front (map (mark_of s) notes)) (map-append (mark_of s) earlier (note ∷ []))
        (all_keep_rules (earlier ++ note ∷ []) notes (push earlier all (marked_there I s earlier note each.0)) each.1),
  )
    where
      push : (earlier : List Note) → AllByRecursion (λ n. IsThere s (marked_by n)) earlier → IsThere s (marked_by note)
          → AllByRecursion (λ n. IsThere s (marked_by n)) (earlier ++ note ∷ [])
      push [] all there = (there, tt)
      push (n ∷ earlier) all there = (all.0, push earlier all.1 there)

  rules : EachAfter (KeepsRules I log) [] log.marks.items
  rules =
      subst (λ (marks : List Mark). EachAfter (KeepsRules I log) [] marks) (sym is.marks)
      (all_keep_rules [] (in_order s.notes) tt (EachAfter-in_order I s s.notes o.marked))

  rules_at : (j : ℕ) (m : Mark) → slice_get log.marks.items j ≡ Some m → KeepsRules I log (take j log.marks.items) m
  rules_at j m at = EachAfter-at (KeepsRules I log) [] log.marks.items rules j m at

  -- ---- what lives is what stands

  all_there : (earlier notes : List Note) → EachAfter (MarksWell I s) earlier notes → AllByRecursion (λ n. IsThere s (marked_by n)) notes
  all_there earlier [] each = tt
  all_there earlier (note ∷ notes) each = (marked_there I s earlier note each.0, all_there (earlier ++ note ∷ []) notes each.1)

  live_found : (e : End) (k : ℕ) (found : IsNumbered s e k) → is_marked e k log.marks.items ≡ false → IsLiveAt s found.id
  live_found e k found unmarked =
      let id : Id = found.id in
      let in_side : found.id.bucket < BUCKETS = omega (arith, bucket_there s found.id found.there, o.size found.id.end) in
      let noted : is_noted found.id s.notes ≡ false =
      sym (is_noted-in_order found.id s.notes in_side)
      ∙ sym (marked_is found.id e (in_order s.notes) found.side found.there (all_there [] (in_order s.notes) (EachAfter-in_order I s s.notes o.marked)))
      ∙ subst (λ (marks : List Mark). is_marked e (number s found.id) marks ≡ false) is.marks
      (subst (λ (n : ℕ). is_marked e n log.marks.items ≡ false) (sym found.is) unmarked) in
      record { there = found.there; live = o.live_is found.id found.there ∙ ap (λ (b : Bool). not b) noted }

  lives : (e : End) (path : List ℕ) → Stands log e path → IsLivePath s e path
  lives e path (inl root) = inl root
  lives e path (inr (k, low, same, unmarked)) =
      let found : IsNumbered s e k = find e k low in
      inr (found.id, found.side, live_found e k found unmarked, sym (path_found e k found) ∙ same)

  listed : (e : End) (path : List ℕ) → IsListedIn s e path → IsListed log e path
  listed e path (id, side, there, same) = (number s id, below id e side there, path_is id e side there ∙ same)

  -- ---- the eight rules

  label_at : (e : End) (k : ℕ) → k < length (paths_in log e) → LabelPath (face_of I log.cut e) (path_at log e k)
  label_at e k low =
      let found : IsNumbered s e k = find e k low in
      let at_side : LabelPath (face_of I H e) (path_of s found.id) =
      subst (λ (f : End). LabelPath (face_of I H f) (path_of s found.id)) found.side (o.is_path found.id found.there) in
      let at_path : LabelPath (face_of I H e) (path_at log e k) =
      subst (λ (path : List ℕ). LabelPath (face_of I H e) path) (sym (path_found e k found)) at_side in
      subst (λ (cut : ℕ). LabelPath (face_of I cut e) (path_at log e k)) (sym is.cut) at_path

  differ : (e : End) (j k : ℕ) → j < k → k < length (paths_in log e) → path_at log e j ≢ path_at log e k
  differ e j k less low same =
      let a : IsNumbered s e j = find e j (omega (arith, less, low)) in
      let b : IsNumbered s e k = find e k low in
      let one : a.id ≡ b.id =
      o.once a.id b.id a.there b.there (a.side ∙ sym b.side) (sym (path_found e j a) ∙ same ∙ path_found e k b) in
      omega (arith, less, sym a.is ∙ ap (λ (id : Id). number s id) one ∙ b.is)

  pub IsProof-closed : IsClosed I H s → IsProof I log
  IsProof-closed closed = record {
    feasible = subst (λ (plan : List Acquisition). Feasible I plan) (sym is.plan) o.feasible;
    gain = is.gain ∙ ap (λ (plan : List Acquisition). gain_of I plan) (sym is.plan);
    labels = label_at;
    once = differ;
    there = λ j m at. (rules_at j m at).0;
    retired = λ j m at. (rules_at j m at).1;
    cut_off = λ j m at. (rules_at j m at).2;
    extended =
        λ e path y stands label.
        listed e (path ++ y ∷ [])
        (closed.extended e path y (lives e path stands) (subst (λ (cut : ℕ). LabelPath (face_of I cut e) (path ++ y ∷ [])) is.cut label));
    joined =
        λ f b f_stands b_stands joins.
        subst (λ (gain : ℕ). join_gain I f b ≤ gain) (sym is.gain) (closed.joined f b (lives Forward f f_stands) (lives Backward b b_stands) joins);
  }

-- Whatever legal steps lead from the opening state to a closed one, the log of that state is a proof.
pub runs_give_proofs : (I : Orbit) (H : ℕ) (events : List Event) (s : CoreState) (log : Log) → IsRun I H opening events s → IsClosed I H s
    → IsLogOf I H s log → IsProof I log
runs_give_proofs I H events s log run closed is =
    IsProof-closed I H s log (IsOrderly-run I H opening events s run (IsOrderly-opening I H)) is closed
