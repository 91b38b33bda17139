-- What a list keeps, however it is changed.
use Rattle.std.proofs.Common.{◌≡◌, ◌≢◌, ◌↔◌, Bool, false, IsTrue, Option, Some, None, MatchOption, ℕ, zero, suc, ◌+◌, ◌-◌, ◌<◌, ◌≤◌, List, [], ◌∷◌, ◌++◌, length, take, drop, get_or, set, refl, ap, ap₂, sym, subst, ◌∙◌, arith, length-append}
use Rattle.std.proofs.Math.Seq.{drop-append_seam, take-length, map-set_same}
use Rattle.std.proofs.lemmas.List.{map-set, length-map, length-set, map_push, drop-append-le, take-append-le, length-drop}
use Rattle.std.proofs.lemmas.Bool.{false≢true}
use Rattle.std.proofs.lemmas.List as list
use Rattle.std.proofs.lemmas.List.Elements.{All-head, All-set, All-push, All-tail}
use Rattle.std.specs.List.{All}
use Rattle.label.specs.Briefs.{IsBriefOf}
use Rattle.label.specs.declared.limits.TheConstants.{MAX_LISTED}
use Rattle.label_list.proofs.Indexes.{IsSeeking, seeking-step, before-at}
use Rattle.label_list.specs.Keys.{path_at, IsIndexOf}
use Rattle.label_list.specs.Labels.{Held, Listed, no_held, path_of, state_of, with_state, with_labels, IsAbsent}
use Rattle.label_list.specs.Records.{path_in, held_in, paths_in, all_held, listed, IsWithin, IsRecord, Keeps}
use Rattle.label_list.specs.declared.path_index.PathIndex.{PathIndex}
use Rattle.label_list.specs.declared.record.Record.{Record}
use Rattle.label_list.specs.declared.state.State.{State}
use Rattle.strip_model.specs.LabelPath.{LabelPath}
use Rattle.strip_model.specs.Side.{Face}

-- ---- what is read

-- the path at a place among those of all labels
pub path_at-kept : (steps : List ℕ) (rs : List Record) (k : ℕ) (d : Record) → k < length rs → path_at (paths_in steps rs) k ≡ path_in steps (get_or rs k d)
path_at-kept steps rs k d there = list.get_or-map (path_in steps) rs k d [] there

-- and as contracts see it
pub path_of-kept : (steps : List ℕ) (rs : List Record) (k : ℕ) (d : Record) → k < length rs → path_of (all_held steps rs) k ≡ path_in steps (get_or rs k d)
path_of-kept steps rs k d there = ap (λ (h : Held). h.path) (list.get_or-map (held_in steps) rs k d no_held there)

state_of-kept : (steps : List ℕ) (rs : List Record) (k : ℕ) (d : Record) → k < length rs → state_of (all_held steps rs) k ≡ (get_or rs k d).state
state_of-kept steps rs k d there = ap (λ (h : Held). h.state) (list.get_or-map (held_in steps) rs k d no_held there)

-- a label of the list has a record
pub there-kept : (S : Face) (steps : List ℕ) (rs : List Record) (l : Listed) (k : ℕ) → listed S steps rs ≡ l → k < length l.labels → k < length rs
there-kept S steps rs l k is there = omega (arith, there, ap (λ (m : Listed). length m.labels) is, length-map rs (held_in steps))

pub length-kept : (S : Face) (steps : List ℕ) (rs : List Record) (l : Listed) → listed S steps rs ≡ l → length rs ≡ length l.labels
length-kept S steps rs l is = sym (length-map rs (held_in steps)) ∙ ap (λ (m : Listed). length m.labels) is

-- a record that is read at a place
pub path-read : (S : Face) (steps : List ℕ) (rs : List Record) (l : Listed) (k : ℕ) (r : Record) → listed S steps rs ≡ l → k < length l.labels
    → r ≡ get_or rs k r → path_in steps r ≡ path_of l.labels k
path-read S steps rs l k r is there at =
    ap (path_in steps) at ∙ sym (path_of-kept steps rs k r (there-kept S steps rs l k is there)) ∙ ap (λ (m : Listed). path_of m.labels k) is

pub state-read : (S : Face) (steps : List ℕ) (rs : List Record) (l : Listed) (k : ℕ) (r : Record) → listed S steps rs ≡ l → k < length l.labels
    → r ≡ get_or rs k r → r.state ≡ state_of l.labels k
state-read S steps rs l k r is there at =
    ap (λ (x : Record). x.state) at ∙ sym (state_of-kept steps rs k r (there-kept S steps rs l k is there)) ∙ ap (λ (m : Listed). state_of m.labels k) is

-- is that of a label
pub record-read : (S : Face) (steps : List ℕ) (rs : List Record) (index : PathIndex) (l : Listed) (k : ℕ) (r : Record) → Keeps S steps rs index
    → listed S steps rs ≡ l → k < length l.labels → r ≡ get_or rs k r → IsRecord S steps r
record-read S steps rs index l k r keeps is there at =
    subst (λ (x : Record). IsRecord S steps x) (sym at) (keeps.records k r (there-kept S steps rs l k is there))

pub within-kept : (S : Face) (steps : List ℕ) (rs : List Record) → All (IsRecord S steps) rs → All (IsWithin steps) rs
within-kept S steps rs records = λ k d there. (records k d there).within

-- so the paths of all are label paths
each-path : (S : Face) (steps : List ℕ) (rs : List Record) (k : ℕ) → k < length rs → All (IsRecord S steps) rs → LabelPath S (path_of (all_held steps rs) k)
each-path S steps [] k below records = absurd (omega arith)
each-path S steps (r ∷ rs) k below records =
    subst (λ (p : List ℕ). LabelPath S p) (sym (path_of-kept steps (r ∷ rs) k r below)) (records k r below).is_path

pub label_paths : (S : Face) (steps : List ℕ) (rs : List Record) (l : Listed) → All (IsRecord S steps) rs → listed S steps rs ≡ l
    → (k : ℕ) → k < length l.labels → LabelPath l.face (path_of l.labels k)
label_paths S steps rs l records is =
    subst (λ (m : Listed). (k : ℕ) → k < length m.labels → LabelPath m.face (path_of m.labels k)) is
    (λ k there. each-path S steps rs k (omega (arith, there, length-map rs (held_in steps))) records)

-- ---- a label in another state

paths_in-set : (steps : List ℕ) (rs : List Record) (k : ℕ) (r : Record) → path_in steps r ≡ path_in steps (get_or rs k r)
    → paths_in steps (set rs k r) ≡ paths_in steps rs
paths_in-set steps rs k r same = map-set_same (path_in steps) rs k r r same

-- the record with another state
abbrev pub stated : Record → State → Record
stated r state = record { from = r.from; to = r.to; state = state; brief = r.brief }

pub listed-set : (S : Face) (steps : List ℕ) (rs : List Record) (k : ℕ) (state : State) (old : Record) (l : Listed) → listed S steps rs ≡ l
    → k < length l.labels → old ≡ get_or rs k old → listed S steps (set rs k (stated old state)) ≡ with_labels l (with_state l.labels k state)
listed-set S steps rs k state old l is there at =
    let path : path_in steps old ≡ path_of (all_held steps rs) k =
    ap (path_in steps) at ∙ sym (path_of-kept steps rs k old (there-kept S steps rs l k is there)) in
    let labels : all_held steps (set rs k (stated old state)) ≡ with_state (all_held steps rs) k state =
    map-set (held_in steps) rs k (stated old state) ∙ ap (λ (p : List ℕ). set (all_held steps rs) k (record { path = p; state = state })) path in
    ap (λ (hs : List Held). with_labels (listed S steps rs) hs) labels ∙ ap (λ (m : Listed). with_labels m (with_state m.labels k state)) is

pub Keeps-set : (S : Face) (steps : List ℕ) (rs : List Record) (index : PathIndex) (k : ℕ) (state : State) (old : Record) → Keeps S steps rs index
    → k < length rs → old ≡ get_or rs k old → Keeps S steps (set rs k (stated old state)) index
Keeps-set S steps rs index k state old keeps there at =
    let was : IsRecord S steps old = subst (λ (x : Record). IsRecord S steps x) (sym at) (keeps.records k old there) in
    let here : old ≡ get_or rs k (stated old state) = at ∙ list.get_or_default rs k old (stated old state) there in
    record {
      records =
          All-set (IsRecord S steps) rs k (stated old state)
          (record { within = record { order = was.within.order; inside = was.within.inside }; is_path = was.is_path; brief = was.brief }) keeps.records;
      index_of =
          subst (λ (ps : List (List ℕ)). IsIndexOf ps index) (sym (paths_in-set steps rs k (stated old state) (ap (path_in steps) here))) keeps.index_of;
      few = let few : length rs ≤ MAX_LISTED = keeps.few in omega (arith, length-set rs k (stated old state));
    }

-- ---- one label more

-- a path stays where more directed strips stand behind all
path_in-more : (steps more : List ℕ) (r : Record) → IsWithin steps r → path_in (steps ++ more) r ≡ path_in steps r
path_in-more steps more r within =
    let order : r.from ≤ r.to = within.order in
    let inside : r.to ≤ length steps = within.inside in
    ap (λ (xs : List ℕ). take (r.to - r.from) xs) (drop-append-le r.from steps more (omega arith))
    ∙ take-append-le (r.to - r.from) (drop r.from steps) more (omega (arith, length-drop r.from steps))

-- and the new one is what stands behind them
path_in-new : (steps path : List ℕ) (r : Record) → r.from ≡ length steps → r.to ≡ length (steps ++ path) → path_in (steps ++ path) r ≡ path
path_in-new steps path r from to =
    let size : length (steps ++ path) ≡ length steps + length path = length-append steps path in
    let long : r.to - r.from ≡ length path = omega (arith, from, to, size) in
    ap₂ (λ (n m : ℕ). take n (drop m (steps ++ path))) long from
    ∙ ap (take (length path)) (drop-append_seam steps path)
    ∙ take-length path

IsWithin-more : (steps more : List ℕ) (r : Record) → IsWithin steps r → IsWithin (steps ++ more) r
IsWithin-more steps more r within =
    let order : r.from ≤ r.to = within.order in
    let inside : r.to ≤ length steps = within.inside in
    record { order = omega arith; inside = omega (arith, length-append steps more) }

IsRecord-more : (S : Face) (steps more : List ℕ) (r : Record) → IsRecord S steps r → IsRecord S (steps ++ more) r
IsRecord-more S steps more r rec =
    let same : path_in steps r ≡ path_in (steps ++ more) r = sym (path_in-more steps more r rec.within) in
    record {
      within = IsWithin-more steps more r rec.within;
      is_path = subst (λ (p : List ℕ). LabelPath S p) same rec.is_path;
      brief = subst (λ (p : List ℕ). IsBriefOf S r.brief p) same rec.brief;
    }

paths_in-more : (steps more : List ℕ) (rs : List Record) → All (IsWithin steps) rs → paths_in (steps ++ more) rs ≡ paths_in steps rs
paths_in-more steps more [] within = refl
paths_in-more steps more (r ∷ rs) within =
    ap₂ (λ (p : List ℕ) (ps : List (List ℕ)). p ∷ ps) (path_in-more steps more r (All-head (IsWithin steps) r rs within))
    (paths_in-more steps more rs (All-tail (IsWithin steps) r rs within))

all_held-more : (steps more : List ℕ) (rs : List Record) → All (IsWithin steps) rs → all_held (steps ++ more) rs ≡ all_held steps rs
all_held-more steps more [] within = refl
all_held-more steps more (r ∷ rs) within =
    ap₂ (λ (p : List ℕ) (hs : List Held). record { path = p; state = r.state } ∷ hs) (path_in-more steps more r (All-head (IsWithin steps) r rs within))
    (all_held-more steps more rs (All-tail (IsWithin steps) r rs within))

pub listed-add : (S : Face) (steps path : List ℕ) (rs : List Record) (r : Record) (l : Listed) → listed S steps rs ≡ l → All (IsWithin steps) rs
    → r.from ≡ length steps → r.to ≡ length (steps ++ path)
    → listed S (steps ++ path) (rs ++ r ∷ []) ≡ with_labels l (l.labels ++ record { path = path; state = r.state } ∷ [])
listed-add S steps path rs r l is within from to =
    let labels : all_held (steps ++ path) (rs ++ r ∷ []) ≡ all_held steps rs ++ record { path = path; state = r.state } ∷ [] =
    map_push (held_in (steps ++ path)) rs r
    ∙ ap₂ (λ (hs : List Held) (p : List ℕ). hs ++ record { path = p; state = r.state } ∷ []) (all_held-more steps path rs within) (path_in-new steps path r from to) in
    ap (λ (hs : List Held). with_labels (listed S steps rs) hs) labels
    ∙ ap (λ (m : Listed). with_labels m (m.labels ++ record { path = path; state = r.state } ∷ [])) is

pub Keeps-add : (S : Face) (steps path : List ℕ) (rs : List Record) (r : Record) (old new : PathIndex) → Keeps S steps rs old → length rs < MAX_LISTED
    → r.from ≡ length steps → r.to ≡ length (steps ++ path) → LabelPath S path → IsBriefOf S r.brief path
    → IsIndexOf (paths_in steps rs ++ path ∷ []) new → Keeps S (steps ++ path) (rs ++ r ∷ []) new
Keeps-add S steps path rs r old new keeps few from to is_path brief index =
    let here : path ≡ path_in (steps ++ path) r = sym (path_in-new steps path r from to) in
    let before : All (IsRecord S (steps ++ path)) rs = λ k d there. IsRecord-more S steps path (get_or rs k d) (keeps.records k d there) in
    let paths : paths_in (steps ++ path) (rs ++ r ∷ []) ≡ paths_in steps rs ++ path ∷ [] =
    map_push (path_in (steps ++ path)) rs r
    ∙ ap₂ (λ (ps : List (List ℕ)) (p : List ℕ). ps ++ p ∷ []) (paths_in-more steps path rs (within-kept S steps rs keeps.records)) (sym here) in
    let size : length (steps ++ path) ≡ length steps + length path = length-append steps path in
    record {
      records =
          All-push (IsRecord S (steps ++ path)) rs r before
          (record {
            within = record { order = omega (arith, from, to, size); inside = omega (arith, to) };
            is_path = subst (λ (p : List ℕ). LabelPath S p) here is_path;
            brief = subst (λ (p : List ℕ). IsBriefOf S r.brief p) here brief;
          });
      index_of = subst (λ (ps : List (List ℕ)). IsIndexOf ps new) (sym paths) index;
      few = omega (arith, few, length-append rs (r ∷ []));
    }

-- the same, through room that was made before
pub listed-added : (S : Face) (steps roomy longer given path : List ℕ) (rs wide more : List Record) (r : Record) (l : Listed) → roomy ≡ steps
    → longer ≡ roomy ++ given → given ≡ path → wide ≡ rs → more ≡ wide ++ r ∷ [] → listed S steps rs ≡ l → All (IsWithin steps) rs
    → r.from ≡ length roomy → r.to ≡ length longer → listed S longer more ≡ with_labels l (l.labels ++ record { path = path; state = r.state } ∷ [])
listed-added S steps roomy longer given path rs wide more r l same_steps steps_are same_path same_records records_are is within from to =
    let all_steps : longer ≡ steps ++ path = steps_are ∙ ap₂ (λ (xs ys : List ℕ). xs ++ ys) same_steps same_path in
    let all_records : more ≡ rs ++ r ∷ [] = records_are ∙ ap (λ (xs : List Record). xs ++ r ∷ []) same_records in
    ap₂ (λ (xs : List ℕ) (ys : List Record). listed S xs ys) all_steps all_records
    ∙ listed-add S steps path rs r l is within (from ∙ ap length same_steps) (to ∙ ap length all_steps)

pub Keeps-added : (S : Face) (steps roomy longer given asked path : List ℕ) (rs wide more : List Record) (r : Record) (old new : PathIndex) → roomy ≡ steps
    → longer ≡ roomy ++ given → given ≡ path → wide ≡ rs → more ≡ wide ++ r ∷ [] → Keeps S steps rs old → length rs < MAX_LISTED
    → r.from ≡ length roomy → r.to ≡ length longer → LabelPath S path → IsBriefOf S r.brief path → asked ≡ path
    → IsIndexOf (paths_in steps rs ++ asked ∷ []) new → Keeps S longer more new
Keeps-added S steps roomy longer given asked path rs wide more r old new same_steps steps_are same_path same_records records_are keeps few from to is_path brief asked_is index =
    let all_steps : longer ≡ steps ++ path = steps_are ∙ ap₂ (λ (xs ys : List ℕ). xs ++ ys) same_steps same_path in
    let all_records : more ≡ rs ++ r ∷ [] = records_are ∙ ap (λ (xs : List Record). xs ++ r ∷ []) same_records in
    let kept : Keeps S (steps ++ path) (rs ++ r ∷ []) new =
    Keeps-add S steps path rs r old new keeps few (from ∙ ap length same_steps) (to ∙ ap length all_steps) is_path brief
    (subst (λ (p : List ℕ). IsIndexOf (paths_in steps rs ++ p ∷ []) new) asked_is index) in
    subst (λ (xs : List ℕ). Keeps S xs more new) (sym all_steps)
    (subst (λ (ys : List Record). Keeps S (steps ++ path) ys new) (sym all_records) kept)

-- ---- looking for a path

-- a path is looked for past a label that has another one
pub seeking-on : (steps : List ℕ) (rs : List Record) (index : PathIndex) (path here : List ℕ) (k : ℕ) (r : Record) (place next : Option ℕ) (same : Bool)
    → IsIndexOf (paths_in steps rs) index → place ≡ Some k → r ≡ get_or rs k r → here ≡ path_in steps r → IsTrue same ↔ (here ≡ path) → same ≡ false
    → next ≡ get_or index.before.items k next → IsSeeking (paths_in steps rs) path place → IsSeeking (paths_in steps rs) path next
seeking-on steps rs index path here k r place next same is_index is at path_is told differs before seeking =
    let at_label : IsSeeking (paths_in steps rs) path (Some k) = subst (λ (o : Option ℕ). IsSeeking (paths_in steps rs) path o) is seeking in
    let there : k < length rs = omega (arith, at_label.0, length-map rs (path_in steps)) in
    let label : path_at (paths_in steps rs) k ≡ here = path_at-kept steps rs k r there ∙ sym (ap (path_in steps) at) ∙ sym path_is in
    seeking-step (paths_in steps rs) path k next (λ e. false≢true (sym differs ∙ told.1 (sym label ∙ e)))
    (before-at (paths_in steps rs) index k next is_index at_label.0 before) at_label

-- what was found among the records is so among the labels that contracts see
path_at-held : (steps : List ℕ) (rs : List Record) (k : ℕ) → path_at (paths_in steps rs) k ≡ path_of (all_held steps rs) k
path_at-held steps [] k = refl
path_at-held steps (r ∷ rs) zero = refl
path_at-held steps (r ∷ rs) (suc k) = path_at-held steps rs k

pub found-kept : (S : Face) (steps xs : List ℕ) (rs ys : List Record) (l : Listed) (path : List ℕ) (found : Option ℕ) → xs ≡ steps → ys ≡ rs
    → listed S steps rs ≡ l
    → MatchOption found ((k : ℕ) → k < length ys → path_at (paths_in xs ys) k ≢ path) (λ id. (id < length ys) × (path_at (paths_in xs ys) id ≡ path))
    → MatchOption found (IsAbsent l.labels path) (λ id. (id < length l.labels) × (path_of l.labels id ≡ path))
found-kept S steps xs rs ys l path found same_steps same_records is told =
    let size : length ys ≡ length l.labels = ap length same_records ∙ length-kept S steps rs l is in
    by_cases found size told
  where
    same : (k : ℕ) → path_at (paths_in xs ys) k ≡ path_of l.labels k
    same k =
        ap₂ (λ (zs : List ℕ) (rs : List Record). path_at (paths_in zs rs) k) same_steps same_records ∙ path_at-held steps rs k
        ∙ ap (λ (m : Listed). path_of m.labels k) is

    by_cases : (o : Option ℕ) → length ys ≡ length l.labels
        → MatchOption o ((k : ℕ) → k < length ys → path_at (paths_in xs ys) k ≢ path) (λ id. (id < length ys) × (path_at (paths_in xs ys) id ≡ path))
        → MatchOption o (IsAbsent l.labels path) (λ id. (id < length l.labels) × (path_of l.labels id ≡ path))
    by_cases None size none = λ k there is_path. none k (omega (arith, there, size)) (same k ∙ is_path)
    by_cases (Some id) size (there, is_path) = (omega (arith, there, size), sym (same id) ∙ is_path)
