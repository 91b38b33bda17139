-- What a store keeps, however it is changed.
use Rattle.std.proofs.Common.{slice_index_or, ◌≡◌, ℕ, ◌+◌, ◌*◌, ◌<◌, ◌≤◌, List, [], ◌∷◌, ◌++◌, length, map, get_or, refl, ap, sym, subst, ◌∙◌, arith, length-append}
use Rattle.std.proofs.Math.Seq.{get_or-append_seam, map-set_same}
use Rattle.std.proofs.lemmas.List.{length-map, map_push}
use Rattle.std.proofs.lemmas.List as list
use Rattle.std.proofs.lemmas.List.Elements.{All-head, All-nil, All-push, All-tail, All-weaker}
use Rattle.std.specs.List.{All}
use Rattle.bucket.specs.Buckets.{grown}
use Rattle.bucket.specs.Histories.{Step, after, replay, IsLegal, IsHistory, CanInsert}
use Rattle.bucket.specs.Histories.Step.{Inserts}
use Rattle.bucket.specs.Stores.{paths_of, step_of, entry_of, steps_of, bin_of, NamesBelow, Keeps, IsMark}
use Rattle.bucket.specs.declared.entry.Entry.{Entry}
use Rattle.bucket.specs.declared.entry.Entry.TheVariants.{Insert, Take, Retire, Cut}
use Rattle.bucket.specs.declared.limits.TheConstants.{MAX_LABELS}
use Rattle.bucket.proofs.Replays.{replay-append, history-length, IsHistory-push, mark-room, length-with_state}
use Rattle.label_list.specs.Labels.{Held, Listed, no_held, path_of, with_state, with_labels}
use Rattle.label_list.specs.declared.state.State.{State}
use Rattle.label_list.specs.declared.state.State.TheVariants.{Waiting, Taken, Retired, Cut as WasCut}
use Rattle.strip_model.specs.Side.{Face}

-- ---- a label in another state

paths_of-mark : (hs : List Held) (k : ℕ) (s : State) → paths_of (with_state hs k s) ≡ paths_of hs
paths_of-mark hs k s = map-set_same (λ (h : Held). h.path) hs k (record { path = path_of hs k; state = s }) no_held refl

-- a mark, whatever the paths
step_of-mark : (id : ℕ) (s : State) (e : Entry) (paths : List (List ℕ)) → IsMark id s e → step_of paths e ≡ step_of [] e
step_of-mark id s (Insert k) paths m = elim m [ ]
step_of-mark id s (Take k) paths m = refl
step_of-mark id s (Retire k by) paths m = refl
step_of-mark id s (Cut k) paths m = refl

with_state-same : (hs : List Held) (k id : ℕ) (t s : State) → k ≡ id → s ≡ t → with_state hs k t ≡ with_state hs id s
with_state-same hs k id t s same_id same_state = ap (λ j. with_state hs j t) same_id ∙ ap (λ (u : State). with_state hs id u) (sym same_state)

after-mark : (hs : List Held) (id : ℕ) (s : State) (e : Entry) → IsMark id s e → after hs (step_of [] e) ≡ with_state hs id s
after-mark hs id s (Insert k) m = elim m [ ]
after-mark hs id s (Take k) m = with_state-same hs k id Taken s m.0 m.1
after-mark hs id s (Retire k by) m = with_state-same hs k id (Retired by) s m.0 m.1
after-mark hs id s (Cut k) m = with_state-same hs k id WasCut s m.0 m.1

NamesBelow-mark : (id : ℕ) (s : State) (e : Entry) (n : ℕ) → IsMark id s e → NamesBelow n e
NamesBelow-mark id s (Insert k) n m = elim m [ ]
NamesBelow-mark id s (Take k) n m = tt
NamesBelow-mark id s (Retire k by) n m = tt
NamesBelow-mark id s (Cut k) n m = tt

-- the label of a legal mark is there
pub mark-there : (S : Face) (n : ℕ) (hs : List Held) (id : ℕ) (s : State) (e : Entry) → IsMark id s e → IsLegal S n hs (step_of [] e) → id < length hs
mark-there S n hs id s (Insert k) m l = elim m [ ]
mark-there S n hs id s (Take k) m l = let same : k ≡ id = m.0 in let there : k < length hs = l.there in omega arith
mark-there S n hs id s (Retire k by) m l = let same : k ≡ id = m.0 in let there : k < length hs = l.live.there in omega arith
mark-there S n hs id s (Cut k) m l = let same : k ≡ id = m.0 in let there : k < length hs = l.there in omega arith

steps_of-mark : (hs : List Held) (es : List Entry) (id : ℕ) (s : State) (e : Entry) → IsMark id s e
    → steps_of (paths_of (with_state hs id s)) (es ++ e ∷ []) ≡ steps_of (paths_of hs) es ++ step_of [] e ∷ []
steps_of-mark hs es id s e m =
    ap (λ ps. steps_of ps (es ++ e ∷ [])) (paths_of-mark hs id s)
    ∙ map_push (step_of (paths_of hs)) es e
    ∙ ap (λ (t : Step). steps_of (paths_of hs) es ++ t ∷ []) (step_of-mark id s e (paths_of hs) m)

-- the bucket grows by the mark
pub bin_of-mark : (n : ℕ) (l : Listed) (es : List Entry) (id : ℕ) (s : State) (e : Entry) → IsMark id s e
    → bin_of n (with_labels l (with_state l.labels id s)) (es ++ e ∷ []) ≡ grown (bin_of n l es) (step_of [] e ∷ [])
bin_of-mark n l es id s e m =
    ap (λ (steps : List Step). record { side = l.face; number = n; history = steps }) (steps_of-mark l.labels es id s e m)

length-after_mark : (hs : List Held) (id : ℕ) (s : State) (e : Entry) → IsMark id s e → length (after hs (step_of [] e)) ≡ length hs
length-after_mark hs id s e m = ap length (after-mark hs id s e m) ∙ length-with_state hs id s

-- there is room for the mark
pub room-mark : (n : ℕ) (l : Listed) (es : List Entry) (capacity id : ℕ) (s : State) (e : Entry)
    → Keeps n l es capacity → IsMark id s e → IsLegal l.face n (replay (steps_of (paths_of l.labels) es)) (step_of [] e)
    → (id < length l.labels) × (length es < capacity)
room-mark n l es capacity id s e k m legal =
    let steps : List Step = steps_of (paths_of l.labels) es in
    let there : id < length (replay steps) = mark-there l.face n (replay steps) id s e m legal in
    let as_many : length (replay steps) ≡ length l.labels = ap length k.replays in
    let entries : length steps ≡ length es = length-map es (step_of (paths_of l.labels)) in
    let fewer : length steps < 3 * length (replay steps)
    = mark-room l.face n steps (step_of [] e) k.history legal (length-after_mark (replay steps) id s e m) in
    let room : 3 * length l.labels ≤ capacity = k.room in
    (omega arith, omega arith)

pub Keeps-mark : (n : ℕ) (l : Listed) (es : List Entry) (capacity after_that id : ℕ) (s : State) (e : Entry)
    → Keeps n l es capacity → capacity ≤ after_that → IsMark id s e
    → IsLegal l.face n (replay (steps_of (paths_of l.labels) es)) (step_of [] e)
    → Keeps n (with_labels l (with_state l.labels id s)) (es ++ e ∷ []) after_that
Keeps-mark n l es capacity after_that id s e k more m legal =
    let steps : List Step = steps_of (paths_of l.labels) es in
    let longer : steps_of (paths_of (with_state l.labels id s)) (es ++ e ∷ []) ≡ steps ++ step_of [] e ∷ [] = steps_of-mark l.labels es id s e m in
    let few : length (replay steps) ≤ MAX_LABELS = k.history.few in
    let as_many : length (after (replay steps) (step_of [] e)) ≡ length (replay steps) = length-after_mark (replay steps) id s e m in
    let size : length (with_state l.labels id s) ≡ length l.labels = length-with_state l.labels id s in
    record {
      history = subst (λ (t : List Step). IsHistory l.face n t) (sym longer) (IsHistory-push l.face n steps (step_of [] e) k.history legal (omega arith));
      replays =
          ap replay longer
          ∙ replay-append steps (step_of [] e ∷ [])
          ∙ after-mark (replay steps) id s e m
          ∙ ap (λ (hs : List Held). with_state hs id s) k.replays;
      named =
          All-push (NamesBelow (length (with_state l.labels id s))) es e
          (subst (λ (j : ℕ). All (NamesBelow j) es) (sym size) k.named) (NamesBelow-mark id s e (length (with_state l.labels id s)) m);
      room = let room : 3 * length l.labels ≤ capacity = k.room in omega arith;
    }

-- ---- one more label

step_of-more : (ps qs : List (List ℕ)) (e : Entry) → NamesBelow (length ps) e → step_of (ps ++ qs) e ≡ step_of ps e
step_of-more ps qs (Insert k) small = ap (λ path. Inserts k path) (list.get_or_append_left ps qs [] k small)
step_of-more ps qs (Take k) small = refl
step_of-more ps qs (Retire k by) small = refl
step_of-more ps qs (Cut k) small = refl

steps_of-more : (ps qs : List (List ℕ)) (es : List Entry) → All (NamesBelow (length ps)) es → steps_of (ps ++ qs) es ≡ steps_of ps es
steps_of-more ps qs [] small = refl
steps_of-more ps qs (e ∷ es) small =
    let first : step_of (ps ++ qs) e ≡ step_of ps e = step_of-more ps qs e (All-head (NamesBelow (length ps)) e es small) in
    let rest : steps_of (ps ++ qs) es ≡ steps_of ps es = steps_of-more ps qs es (All-tail (NamesBelow (length ps)) e es small) in
    ap (λ (t : Step). t ∷ steps_of (ps ++ qs) es) first ∙ ap (λ (ts : List Step). step_of ps e ∷ ts) rest

-- the labels and one more, which waits
abbrev pub with_new : List Held → List ℕ → List Held
with_new hs path = hs ++ record { path = path; state = Waiting } ∷ []

steps_of-add : (hs : List Held) (es : List Entry) (i : ℕ) (path : List ℕ) → i ≡ length hs → All (NamesBelow (length hs)) es
    → steps_of (paths_of (with_new hs path)) (es ++ Insert i ∷ []) ≡ steps_of (paths_of hs) es ++ Inserts i path ∷ []
steps_of-add hs es i path next small =
    let ps : List (List ℕ) = paths_of hs in
    let size : length ps ≡ length hs = length-map hs (λ (h : Held). h.path) in
    let here : slice_index_or (ps ++ path ∷ []) i [] ≡ path
    = ap (λ j. get_or (ps ++ path ∷ []) j []) (next ∙ sym size) ∙ get_or-append_seam ps path [] [] in
    ap (λ qs. steps_of qs (es ++ Insert i ∷ [])) (map_push (λ (h : Held). h.path) hs (record { path = path; state = Waiting }))
    ∙ map_push (step_of (ps ++ path ∷ [])) es (Insert i)
    ∙ ap (λ (ts : List Step). ts ++ Inserts i (slice_index_or (ps ++ path ∷ []) i []) ∷ [])
    (steps_of-more ps (path ∷ []) es (subst (λ (j : ℕ). All (NamesBelow j) es) (sym size) small))
    ∙ ap (λ (p : List ℕ). steps_of ps es ++ Inserts i p ∷ []) here

-- the bucket grows by the insertion
pub bin_of-add : (n : ℕ) (l : Listed) (es : List Entry) (i : ℕ) (path : List ℕ) → i ≡ length l.labels → All (NamesBelow (length l.labels)) es
    → bin_of n (with_labels l (with_new l.labels path)) (es ++ Insert i ∷ []) ≡ grown (bin_of n l es) (Inserts i path ∷ [])
bin_of-add n l es i path next small =
    ap (λ (steps : List Step). record { side = l.face; number = n; history = steps }) (steps_of-add l.labels es i path next small)

-- how many entries there are
pub entries-le : (n : ℕ) (l : Listed) (es : List Entry) (capacity : ℕ) → Keeps n l es capacity
    → (length es ≤ 3 * length l.labels) × (length l.labels ≤ MAX_LABELS)
entries-le n l es capacity k =
    let steps : List Step = steps_of (paths_of l.labels) es in
    let as_many : length (replay steps) ≡ length l.labels = ap length k.replays in
    let entries : length steps ≡ length es = length-map es (step_of (paths_of l.labels)) in
    let fewer : length steps ≤ 3 * length (replay steps) = history-length l.face n steps k.history in
    let few : length (replay steps) ≤ MAX_LABELS = k.history.few in
    (omega arith, omega arith)

NamesBelow-more : (m n : ℕ) (e : Entry) → m ≤ n → NamesBelow m e → NamesBelow n e
NamesBelow-more m n (Insert k) more small = omega arith
NamesBelow-more m n (Take k) more small = tt
NamesBelow-more m n (Retire k by) more small = tt
NamesBelow-more m n (Cut k) more small = tt

pub Keeps-add : (n : ℕ) (l : Listed) (es : List Entry) (capacity after_that i : ℕ) (path : List ℕ) → Keeps n l es capacity → i ≡ length l.labels
    → CanInsert l.face n (replay (steps_of (paths_of l.labels) es)) (length (replay (steps_of (paths_of l.labels) es))) path
    → length (replay (steps_of (paths_of l.labels) es)) < MAX_LABELS → 3 * (length l.labels + 1) ≤ after_that
    → Keeps n (with_labels l (with_new l.labels path)) (es ++ Insert i ∷ []) after_that
Keeps-add n l es capacity after_that i path k next can few room =
    let steps : List Step = steps_of (paths_of l.labels) es in
    let grows : steps_of (paths_of (with_new l.labels path)) (es ++ Insert i ∷ []) ≡ steps ++ Inserts i path ∷ [] = steps_of-add l.labels es i path next k.named in
    let size : length (with_new l.labels path) ≡ length l.labels + 1 = length-append l.labels (record { path = path; state = Waiting } ∷ []) in
    let as_many : length (replay steps) ≡ length l.labels = ap length k.replays in
    let can_here : CanInsert l.face n (replay steps) i path = subst (λ (j : ℕ). CanInsert l.face n (replay steps) j path) (as_many ∙ sym next) can in
    let one_more : length (with_new (replay steps) path) ≡ length (replay steps) + 1
    = length-append (replay steps) (record { path = path; state = Waiting } ∷ []) in
    record {
      history = subst (λ (t : List Step). IsHistory l.face n t) (sym grows) (IsHistory-push l.face n steps (Inserts i path) k.history can_here (omega arith));
      replays = ap replay grows ∙ replay-append steps (Inserts i path ∷ []) ∙ ap (λ (hs : List Held). with_new hs path) k.replays;
      named =
          let j : ℕ = length (with_new l.labels path) in
          All-push (NamesBelow j) es (Insert i)
          (All-weaker (NamesBelow (length l.labels)) (NamesBelow j) (λ e small. NamesBelow-more (length l.labels) j e (omega arith) small) es k.named)
          (omega arith);
      room = omega arith;
    }

Keeps-nil : (S : Face) (n capacity : ℕ) → Keeps n (record { face = S; labels = [] }) [] capacity
unfolding replay
Keeps-nil S n capacity = record {
  history = record { legal = tt; few = omega arith };
  replays = refl;
  named = All-nil (NamesBelow 0);
  room = omega arith;
}

-- a store without labels
pub Keeps-none : (S : Face) (n : ℕ) (l : Listed) (es : List Entry) (capacity : ℕ) → l ≡ record { face = S; labels = [] } → es ≡ [] → Keeps n l es capacity
Keeps-none S n l es capacity no_labels no_entries = rw (no_labels, no_entries) (Keeps-nil S n capacity)

-- ---- what is read

-- the entries are the history without its paths
pub entries-steps : (paths : List (List ℕ)) (es : List Entry) → map entry_of (steps_of paths es) ≡ es
entries-steps paths [] = refl
entries-steps paths (e ∷ es) = ap (λ (d : Entry). d ∷ map entry_of (steps_of paths es)) (entry-step e) ∙ ap (λ (ds : List Entry). e ∷ ds) (entries-steps paths es)
  where
    entry-step : (d : Entry) → entry_of (step_of paths d) ≡ d
    entry-step (Insert k) = refl
    entry-step (Take k) = refl
    entry-step (Retire k by) = refl
    entry-step (Cut k) = refl
