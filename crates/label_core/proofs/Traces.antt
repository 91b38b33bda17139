-- What is done in the buckets of a trace are legal steps of a core.
use Rattle.std.proofs.Common.{◌≡◌, ◌≢◌, ℕ, suc, ◌+◌, ◌*◌, ◌<◌, ◌≤◌, ◌⊎◌, Bool, true, false, cond, List, [], ◌∷◌, ◌++◌, map, filter, sum_by, nat_le, length, get_or, drop, length-append, length-set, refl, sym, ◌∙◌, ap, ap₂, subst, inl, inr, arith}
use Rattle.std.proofs.lemmas.Bool.{leb-true}
use Rattle.std.proofs.lemmas.List.{append_assoc, get_or_append_left}
use Rattle.bucket.specs.Buckets.{Bin, held_in, IsBucket}
use Rattle.bucket.specs.Histories.{Step, Inserts, Takes, Retires, Cuts, bucket_of, after as held_after, after_all, replay, IsLegal, AllLegal, IsHistory, CanInsert as MayInsert, CanTake as MayTake, CanRetire as MayRetire}
use Rattle.label_list.specs.Labels.{Held, no_held, path_of, state_of, is_live, IsLive, with_state as with_held}
use Rattle.bucket.specs.Stores.{entry_of}
use Rattle.bucket.specs.declared.entry.Entry.{Entry}
use Rattle.bucket.specs.declared.id.Id.{Id}
use Rattle.bucket.specs.declared.limits.TheConstants.{BUCKETS, MAX_LABELS}
use Rattle.label_list.specs.declared.state.State.{State}
use Rattle.label_list.specs.declared.state.State.TheVariants.{Waiting, Taken, Retired, Cut}
use Rattle.label_core.proofs.Cores.{count-with_state, count-inserted}
use Rattle.label_core.proofs.KeptOf.{IsKeptOf, IsKeptOf-push, IsKeptOf-state, IsKeptOf-cut, live_here, waits_here, below_here, Begin, Begin-trans, Begin-after_all}
use Rattle.label_core.proofs.Lookups.{labels_in-same, labels_here, labels_there}
use Rattle.label_core.proofs.Orderly.{IsOrderly}
use Rattle.label_core.proofs.SameIds.{Id_is}
use Rattle.label_core.proofs.Steps.{IsOrderly-after, buckets-with_note}
use Rattle.label_core.specs.CoreState.{CoreState, Note, Retires as RetiresNote, Cuts as CutsNote, buckets_of, labels_in, held_at, path_of as path_at, state_of as state_at, IsThere, IsLiveAt, IsListed, with_labels, with_state, with_note}
use Rattle.label_core.specs.Events.{Event, InsertLabel, TakeLabel, RetireLabel, CutLabel, CanInsert, CanTake, CanRetire, CanCut, CanStep, IsRun, after}
use Rattle.label_core.specs.Machine.{Machine, Can, count_of}
use Rattle.label_core.specs.Traces.{name_in, event_of_entry, is_borne, events_of_entries, events_of_bucket, events_of_side, last_state, IsLegalRun}
use Rattle.label_core.proofs.Settling.{coming_of, coming, with_held-append}
use Rattle.label_core.specs.Settling.{Settling, marked, settle, settle_all}
use Rattle.label_core.specs.declared.limits.TheConstants.{MAX_CORE_LABELS}
use Rattle.strip_model.specs.Dominance.{Dominates}
use Rattle.strip_model.specs.Orbit.{Orbit}
use Rattle.strip_model.specs.Plan.{gain_of}
use Rattle.strip_model.specs.Reach.{bound}
use Rattle.strip_model.specs.Side.{Face, facing, face_of}
use Rattle.strip_model.specs.declared.acquisition.Acquisition.{Acquisition}
use Rattle.strip_model.specs.declared.end.End.{End}
use Rattle.strip_model.specs.declared.end.End.TheVariants.{Forward, Backward}

-- ---- runs

pub last_state-append : (I : Orbit) (s : CoreState) (es ds : List Event) → last_state I s (es ++ ds) ≡ last_state I (last_state I s es) ds
last_state-append I s [] ds = refl
last_state-append I s (event ∷ es) ds = last_state-append I (after I s event) es ds

pub IsLegalRun-append : (I : Orbit) (H : ℕ) (s : CoreState) (es ds : List Event) → IsLegalRun I H s es → IsLegalRun I H (last_state I s es) ds
    → IsLegalRun I H s (es ++ ds)
IsLegalRun-append I H s [] ds first second = second
IsLegalRun-append I H s (event ∷ es) ds first second = (first.0, IsLegalRun-append I H (after I s event) es ds first.1 second)

abbrev pub machine_at : Orbit → ℕ → CoreState → Machine
machine_at I H s = record { instance = I; cut = H; state = s }

-- ---- entries one after another

module _ (I : Orbit) (H : ℕ) (e : End) (number gain : ℕ) (all : List Held) where
  pub last_state-entry : (s : CoreState) (entry : Step) (entries : List Step)
      → last_state I s (events_of_entries I e number gain all (entry ∷ entries))
      ≡ last_state I (last_state I s (events_of_entries I e number gain all (entry ∷ []))) (events_of_entries I e number gain all entries)
  last_state-entry s entry entries = by_case (is_borne I e gain all entry)
    where
      by_case : (borne : Bool)
          → last_state I s (map (event_of_entry e number) (cond borne (entry ∷ filter (is_borne I e gain all) entries) (filter (is_borne I e gain all) entries)))
          ≡ last_state I (last_state I s (map (event_of_entry e number) (cond borne (entry ∷ []) []))) (events_of_entries I e number gain all entries)
      by_case true = refl
      by_case false = refl

  -- the events of an entry, if it has a step where it is borne, and those of a legal run are a legal run
  legal_more : (s : CoreState) (entry : Step) (borne : Bool) (rest : List Step) → is_borne I e gain all entry ≡ borne
      → (is_borne I e gain all entry ≡ true → CanStep I H s (event_of_entry e number entry))
      → IsLegalRun I H (last_state I s (map (event_of_entry e number) (cond borne (entry ∷ []) []))) (map (event_of_entry e number) rest)
      → IsLegalRun I H s (map (event_of_entry e number) (cond borne (entry ∷ rest) rest))
  legal_more s entry true rest borne can then = (can borne, then)
  legal_more s entry false rest borne can then = then

-- ---- where a core stands within a bucket

-- A core that has taken over a bucket's entries up to these labels, from a state in which the bucket was empty: the bucket has
-- these labels, but that some which are cut live on, and nothing else has changed but the marks.
pub record HasTaken (I : Orbit) (H : ℕ) (e : End) (b : ℕ) (s t : CoreState) (hs : List Held) : Type 0 where
  pub orderly : IsOrderly I H t
  pub kept : IsKeptOf hs (labels_in t e b)
  pub incumbent : t.incumbent ≡ s.incumbent
  pub others : (f : End) (c : ℕ) → (e ≡ f → c ≢ b) → labels_in t f c ≡ labels_in s f c
  pub count : count_of t ≡ count_of s + length hs

count-same : (s t : CoreState) → ((f : End) → buckets_of t f ≡ buckets_of s f) → count_of t ≡ count_of s
count-same s t same =
    ap₂ (λ (xs ys : List (List Held)). sum_by (λ labels. length labels) xs + sum_by (λ labels. length labels) ys) (same Forward) (same Backward)

module _ (I : Orbit) (H : ℕ) (e : End) (b : ℕ) (s t : CoreState) (hs : List Held) (has : HasTaken I H e b s t hs) (small : b < BUCKETS) where
  b_there : b < length (buckets_of t e)
  b_there = omega (arith, small, has.orderly.size e)

  -- the label of the core
  there_at : (k : ℕ) → k < length hs → IsThere t (name_in e b k)
  there_at k below = below_here hs (labels_in t e b) has.kept k below

  path_is : (k : ℕ) → k < length hs → path_at t (name_in e b k) ≡ path_of hs k
  unfolding held_at
  path_is k below = (has.kept.each k below).path

  live_at : (k : ℕ) → IsLive hs k → IsLiveAt t (name_in e b k)
  unfolding held_at
  live_at k live = record { there = there_at k live.there; live = live_here hs (labels_in t e b) has.kept k live }

  -- ---- each entry has its step

  no_path : (path : List ℕ) → bucket_of path ≡ b → ((k : ℕ) → k < length hs → path_of hs k ≢ path) → IsListed t e path → ⊥
  no_path path here absent listed =
      let id : Id = listed.0 in
      let bucket_is : id.bucket ≡ b = sym (has.orderly.placed listed.0 listed.2) ∙ ap (λ (p : List ℕ). bucket_of p) listed.3 ∙ here in
      let name : listed.0 ≡ name_in e b listed.0.index = Id_is listed.0 (name_in e b listed.0.index) listed.1 bucket_is refl in
      let there : IsThere t (name_in e b listed.0.index) = subst (λ (x : Id). IsThere t x) name listed.2 in
      let below : listed.0.index < length hs = omega (arith, there, has.kept.len) in
      absent listed.0.index below
      (sym (path_is listed.0.index below) ∙ ap (λ (x : Id). path_at t x) (sym name) ∙ listed.3)

  can_insert : (k : ℕ) (path : List ℕ) → MayInsert (face_of I H e) b hs k path → CanInsert I H t e path
  can_insert k path may = record { is_path = may.is_path; is_new = no_path path may.here may.is_new }

  can_take : (k : ℕ) → MayTake hs k → CanTake t (name_in e b k)
  unfolding held_at
  can_take k may = record { there = there_at k may.there; waits = waits_here hs (labels_in t e b) has.kept k may }

  can_retire : (k by : ℕ) → MayRetire (face_of I H e) hs k by → CanRetire I t (name_in e b k) (name_in e b by)
  can_retire k by may = record {
    live = live_at k may.live;
    by_live = live_at by may.by_live;
    one_side = refl;
    differ = λ same. may.differ (ap (λ (x : Id). x.index) same);
    dominated =
        subst (λ (p : List ℕ). Dominates (facing I e) p (path_at t (name_in e b k))) (sym (path_is by may.by_live.there))
        (subst (λ (p : List ℕ). Dominates (facing I e) (path_of hs by) p) (sym (path_is k may.live.there)) may.dominated);
  }

  can_cut : (k gain : ℕ) → IsLive hs k → gain ≡ gain_of I s.incumbent → bound (facing I e) (path_of hs k) ≤ gain → CanCut I t (name_in e b k)
  can_cut k gain live is bounded =
      let at : bound (facing I e) (path_at t (name_in e b k)) ≡ bound (facing I e) (path_of hs k) =
      ap (λ (p : List ℕ). bound (facing I e) p) (path_is k live.there) in
      let gains : gain_of I t.incumbent ≡ gain = ap (λ (p : List Acquisition). gain_of I p) has.incumbent ∙ sym is in
      record { live = live_at k live; bounded = omega (arith, at, gains, bounded) }

  -- ---- where the core stands after it

  -- one label more
  HasTaken-insert : (k : ℕ) (path : List ℕ) → MayInsert (face_of I H e) b hs k path
      → HasTaken I H e b s (after I t (InsertLabel e path)) (hs ++ record { path = path; state = Waiting } ∷ [])
  HasTaken-insert k path may =
      let h : Held = record { path = path; state = Waiting } in
      let more : List Held = labels_in t e b ++ record { path = path; state = Waiting } ∷ [] in
      let now : CoreState = with_labels t e b (labels_in t e b ++ record { path = path; state = Waiting } ∷ []) in
      let is : with_labels t e b (labels_in t e b ++ record { path = path; state = Waiting } ∷ []) ≡ after I t (InsertLabel e path) =
      ap (λ (c : ℕ). with_labels t e c (labels_in t e c ++ record { path = path; state = Waiting } ∷ [])) (sym may.here) in
      subst (λ (u : CoreState). HasTaken I H e b s u (hs ++ record { path = path; state = Waiting } ∷ [])) is
      (record {
        orderly =
            subst (λ (u : CoreState). IsOrderly I H u) (sym is)
            (IsOrderly-after I H t (InsertLabel e path) (can_insert k path may) has.orderly);
        kept =
            subst (λ (ls : List Held). IsKeptOf (hs ++ h ∷ []) ls) (sym (labels_here t e b more b_there))
            (IsKeptOf-push hs (labels_in t e b) has.kept h);
        incumbent = has.incumbent;
        others = λ f c other. labels_there t e b more f c other ∙ has.others f c other;
        count = omega (arith, count-inserted t e b h b_there, has.count, length-append hs (h ∷ []));
      })

  -- a label in another state
  HasTaken-state : (k : ℕ) (state : State) (u : CoreState) → k < length hs → IsOrderly I H u
      → ((f : End) → buckets_of u f ≡ buckets_of (with_state t (name_in e b k) state) f) → u.incumbent ≡ t.incumbent
      → HasTaken I H e b s u (with_held hs k state)
  unfolding held_at
  HasTaken-state k state u below orderly same incumbent =
      let v : CoreState = with_state t (name_in e b k) state in
      let changed : List Held = with_held (labels_in t e b) k state in
      record {
        orderly = orderly;
        kept =
            subst (λ (ls : List Held). IsKeptOf (with_held hs k state) ls)
            (sym (labels_in-same v u same e b ∙ labels_here t e b changed b_there))
            (IsKeptOf-state hs (labels_in t e b) has.kept k state below);
        incumbent = incumbent ∙ has.incumbent;
        others = λ f c other. labels_in-same v u same f c ∙ labels_there t e b changed f c other ∙ has.others f c other;
        count =
            omega (
              arith,
              count-same v u same,
              count-with_state t (name_in e b k) state (there_at k below),
              has.count,
              length-set hs k (record { path = path_of hs k; state = state }),
            );
      }

  -- a cut that is left out
  HasTaken-cut : (k : ℕ) → IsLive hs k → HasTaken I H e b s t (with_held hs k Cut)
  HasTaken-cut k live = record {
    orderly = has.orderly;
    kept = IsKeptOf-cut hs (labels_in t e b) has.kept k live;
    incumbent = has.incumbent;
    others = has.others;
    count = omega (arith, has.count, length-set hs k (record { path = path_of hs k; state = Cut }));
  }

-- the labels of a bucket that are there, with those that are still to come, and the marks
abbrev pub there_with : End → ℕ → CoreState → List Held → Settling
there_with e b t rest = record { labels = labels_in t e b ++ rest; notes = t.notes }

-- ---- one entry, and all

module _ (I : Orbit) (H : ℕ) (e : End) (b gain : ℕ) (s : CoreState) (all : List Held) (small : b < BUCKETS) (is : gain ≡ gain_of I s.incumbent) where
  -- a label that lives in the bucket can be cut where the gain bears it
  borne_cut : (t : CoreState) (hs : List Held) (k : ℕ) → HasTaken I H e b s t hs → IsLive hs k → Begin hs all
      → nat_le (bound (facing I e) (path_of all k)) gain ≡ true → CanCut I t (name_in e b k)
  borne_cut t hs k has live begin borne =
      can_cut I H e b s t hs has small k gain live is
      (subst (λ (p : List ℕ). bound (facing I e) p ≤ gain) (begin k live.there).1 (leb-true (bound (facing I e) (path_of all k)) gain borne))

  HasTaken-cut_or_not : (t : CoreState) (hs : List Held) (k : ℕ) (borne : Bool) → HasTaken I H e b s t hs → IsLive hs k
      → (borne ≡ true → CanCut I t (name_in e b k))
      → HasTaken I H e b s (last_state I t (map (event_of_entry e b) (cond borne (Cuts k ∷ []) []))) (with_held hs k Cut)
  HasTaken-cut_or_not t hs k true has live can =
      HasTaken-state I H e b s t hs has small k Cut (after I t (CutLabel (name_in e b k))) live.there
      (IsOrderly-after I H t (CutLabel (name_in e b k)) (can refl) has.orderly)
      (buckets-with_note (with_state t (name_in e b k) Cut) (CutsNote (name_in e b k))) refl
  HasTaken-cut_or_not t hs k false has live can = HasTaken-cut I H e b s t hs has small k live

  -- a legal entry of the bucket has a step where it is borne, and leads on
  taken-entry : (t : CoreState) (hs : List Held) (entry : Step) → HasTaken I H e b s t hs → IsLegal (face_of I H e) b hs entry → Begin hs all
      → (is_borne I e gain all entry ≡ true → CanStep I H t (event_of_entry e b entry))
      × HasTaken I H e b s (last_state I t (events_of_entries I e b gain all (entry ∷ []))) (held_after hs entry)
  taken-entry t hs (Inserts k path) has legal begin =
      (λ _. can_insert I H e b s t hs has small k path legal, HasTaken-insert I H e b s t hs has small k path legal)
  taken-entry t hs (Takes k) has legal begin =
      let can : CanTake t (name_in e b k) = can_take I H e b s t hs has small k legal in (
        λ _. can,
        HasTaken-state I H e b s t hs has small k Taken (after I t (TakeLabel (name_in e b k))) legal.there
            (IsOrderly-after I H t (TakeLabel (name_in e b k)) can has.orderly) (λ f. refl) refl,
      )
  taken-entry t hs (Retires k by) has legal begin =
      let can : CanRetire I t (name_in e b k) (name_in e b by) = can_retire I H e b s t hs has small k by legal in (
        λ _. can,
        HasTaken-state I H e b s t hs has small k (Retired by) (after I t (RetireLabel (name_in e b k) (name_in e b by))) legal.live.there
            (IsOrderly-after I H t (RetireLabel (name_in e b k) (name_in e b by)) can has.orderly)
            (buckets-with_note (with_state t (name_in e b k) (Retired by)) (RetiresNote (name_in e b k) (name_in e b by))) refl,
      )
  taken-entry t hs (Cuts k) has legal begin = (
    borne_cut t hs k has legal begin,
    HasTaken-cut_or_not t hs k (nat_le (bound (facing I e) (path_of all k)) gain) has legal (borne_cut t hs k has legal begin),
  )

  -- ---- the same, where all labels of the bucket are there from the first

  settled-insert : (t : CoreState) (hs : List Held) (k : ℕ) (path : List ℕ) (rest : List Held) → HasTaken I H e b s t hs
      → MayInsert (face_of I H e) b hs k path
      → there_with e b t (record { path = path; state = Waiting } ∷ rest) ≡ there_with e b (after I t (InsertLabel e path)) rest
  settled-insert t hs k path rest has may =
      let h : Held = record { path = path; state = Waiting } in
      let more : List Held = labels_in t e b ++ record { path = path; state = Waiting } ∷ [] in
      let now : labels_in (after I t (InsertLabel e path)) e b ≡ labels_in t e b ++ record { path = path; state = Waiting } ∷ [] =
      ap (λ (c : ℕ). labels_in (with_labels t e c (labels_in t e c ++ record { path = path; state = Waiting } ∷ [])) e b) may.here
      ∙ labels_here t e b more (b_there I H e b s t hs has small) in
      ap (λ (ls : List Held). with_notes t ls) (sym (ap (λ (xs : List Held). xs ++ rest) now ∙ append_assoc (labels_in t e b) (h ∷ []) rest))
    where
      with_notes : CoreState → List Held → Settling
      with_notes u ls = record { labels = ls; notes = u.notes }

  settled-state : (t : CoreState) (hs : List Held) (k : ℕ) (state : State) (rest : List Held) (u : CoreState) → HasTaken I H e b s t hs → k < length hs
      → ((f : End) → buckets_of u f ≡ buckets_of (with_state t (name_in e b k) state) f)
      → with_held (labels_in t e b ++ rest) k state ≡ labels_in u e b ++ rest
  unfolding held_at
  settled-state t hs k state rest u has below same =
      let v : CoreState = with_state t (name_in e b k) state in
      let changed : List Held = with_held (labels_in t e b) k state in
      with_held-append (labels_in t e b) rest k state (there_at I H e b s t hs has small k below)
      ∙ ap (λ (ls : List Held). ls ++ rest)
      (sym (labels_in-same v u same e b ∙ labels_here t e b changed (b_there I H e b s t hs has small)))

  settled-note : (t : CoreState) (hs : List Held) (k : ℕ) (state : State) (note : Note) (rest : List Held) → HasTaken I H e b s t hs → k < length hs
      → marked (there_with e b t rest) k state note ≡ there_with e b (with_note (with_state t (name_in e b k) state) note) rest
  settled-note t hs k state note rest has below =
      ap (λ (ls : List Held). with_one t note ls)
      (settled-state t hs k state rest (with_note (with_state t (name_in e b k) state) note) has below
      (buckets-with_note (with_state t (name_in e b k) state) note))
    where
      with_one : CoreState → Note → List Held → Settling
      with_one u n ls = record { labels = ls; notes = u.notes ++ n ∷ [] }

  -- an entry does to these labels what its event does in the core
  settled-entry : (t : CoreState) (hs : List Held) (entry : Step) (rest : List Held) → HasTaken I H e b s t hs → IsLegal (face_of I H e) b hs entry
      → Begin hs all
      → settle (facing I e) e b gain (there_with e b t (coming_of entry ++ rest)) (entry_of entry)
      ≡ there_with e b (last_state I t (events_of_entries I e b gain all (entry ∷ []))) rest
  settled-entry t hs (Inserts k path) rest has legal begin = settled-insert t hs k path rest has legal
  settled-entry t hs (Takes k) rest has legal begin =
      ap (λ (ls : List Held). with_notes t ls)
      (settled-state t hs k Taken rest (with_state t (name_in e b k) Taken) has legal.there (λ f. refl))
    where
      with_notes : CoreState → List Held → Settling
      with_notes u ls = record { labels = ls; notes = u.notes }
  settled-entry t hs (Retires k by) rest has legal begin =
      settled-note t hs k (Retired by) (RetiresNote (name_in e b k) (name_in e b by)) rest has legal.live.there
  settled-entry t hs (Cuts k) rest has legal begin =
      let there : k < length (labels_in t e b) = there_at I H e b s t hs has small k legal.there in
      let path : path_of (labels_in t e b ++ rest) k ≡ path_of all k =
      ap (λ (h : Held). h.path) (get_or_append_left (labels_in t e b) rest no_held k there) ∙ (has.kept.each k legal.there).path
      ∙ sym (begin k legal.there).1 in
      ap (λ (p : List ℕ). cond (nat_le (bound (facing I e) p) gain) (marked (there_with e b t rest) k Cut (CutsNote (name_in e b k))) (there_with e b t rest)) path
      ∙ by_case (nat_le (bound (facing I e) (path_of all k)) gain)
    where
      by_case : (borne : Bool) → cond borne (marked (there_with e b t rest) k Cut (CutsNote (name_in e b k))) (there_with e b t rest)
          ≡ there_with e b (last_state I t (map (event_of_entry e b) (cond borne (Cuts k ∷ []) []))) rest
      by_case true = settled-note t hs k Cut (CutsNote (name_in e b k)) rest has legal.there
      by_case false = refl

  -- and so do all
  pub taken-entries : (t : CoreState) (hs : List Held) (entries : List Step) → HasTaken I H e b s t hs → AllLegal (face_of I H e) b hs entries
      → Begin (after_all hs entries) all
      → IsLegalRun I H t (events_of_entries I e b gain all entries)
      × HasTaken I H e b s (last_state I t (events_of_entries I e b gain all entries)) (after_all hs entries)
      × (settle_all (facing I e) e b gain (there_with e b t (coming entries)) (map entry_of entries)
      ≡ there_with e b (last_state I t (events_of_entries I e b gain all entries)) [])
  taken-entries t hs [] has legal begin = (refl, has, refl)
  taken-entries t hs (entry ∷ entries) has legal begin =
      let here : Begin hs all = Begin-trans hs (after_all hs (entry ∷ entries)) all (Begin-after_all hs (entry ∷ entries)) begin in
      let then : CoreState = last_state I t (events_of_entries I e b gain all (entry ∷ [])) in
      let first = taken-entry t hs entry has legal.0 here in
      let rest = taken-entries (last_state I t (events_of_entries I e b gain all (entry ∷ []))) (held_after hs entry) entries first.1 legal.1 begin in
      let goes_on : last_state I t (events_of_entries I e b gain all (entry ∷ entries))
      ≡ last_state I (last_state I t (events_of_entries I e b gain all (entry ∷ []))) (events_of_entries I e b gain all entries) =
      last_state-entry I H e b gain all t entry entries in (
        legal_more I H e b gain all t entry (is_borne I e gain all entry) (filter (is_borne I e gain all) entries) refl first.0 rest.0,
        subst (λ (u : CoreState). HasTaken I H e b s u (after_all (held_after hs entry) entries)) (sym goes_on) rest.1,
        ap (λ (p : Settling). settle_all (facing I e) e b gain p (map entry_of entries)) (settled-entry t hs entry (coming entries) has legal.0 here)
            ∙ rest.2 ∙ ap (λ (u : CoreState). there_with e b u []) (sym goes_on),
      )
