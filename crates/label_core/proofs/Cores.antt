-- What a core holds after a step.
use Rattle.std.proofs.Common.{◌≡◌, ℕ, ◌+◌, ◌<◌, ◌≤◌, List, [], ◌∷◌, ◌++◌, length, set, get_or, take, replicate, length-append, length-set, refl, sym, ◌∙◌, ap, subst, arith}
use Rattle.std.proofs.lemmas.List.Sums.{sum_by-set}
use Rattle.std.proofs.lemmas.Option.{slice_get-get_or}
use Rattle.std.specs.List.{All}
use Rattle.bucket.specs.Histories.{bucket_of}
use Rattle.label_list.specs.Labels.{Held, no_held, with_state as with_held}
use Rattle.bucket.specs.declared.limits.TheConstants.{BUCKETS}
use Rattle.bucket.specs.declared.id.Id.{Id}
use Rattle.label_list.specs.declared.state.State.{State}
use Rattle.label_list.specs.declared.state.State.TheVariants.{Waiting, Taken}
use Rattle.label_core.proofs.ClosedRuns.{IsOrderly-opening, IsOrderly-run}
use Rattle.label_core.proofs.Lookups.{bucket_there}
use Rattle.label_core.proofs.EachAfter.{EachAfter-at}
use Rattle.label_core.proofs.Orderly.{IsOrderly, MarksWell}
use Rattle.label_core.specs.CoreState.{CoreState, opening, Note, Retires, Cuts, buckets_of, labels_in, held_at, path_of, state_of, IsThere, NamesThere, with_labels, with_state, with_note}
use Rattle.label_core.specs.Events.{Event, InsertLabel, TakeLabel, Publish, CanStep, IsRun, after}
use Rattle.label_core.specs.BothSides.{side_at, labels_on, with_labels_on, state_with, machine_of, IsCore}
use Rattle.label_core.specs.Machine.{Machine, Can, stepped, IsReached, count_of}
use Rattle.label_core.specs.SideLists.{Sided}
use Rattle.label_core.specs.declared.both_sides.BothSides.{BothSides}
use Rattle.label_core.specs.declared.limits.TheConstants.{MAX_CORE_LABELS}
use Rattle.strip_model.proofs.Gains.{gain_in-nil}
use Rattle.strip_model.specs.Orbit.{Orbit}
use Rattle.strip_model.specs.Plan.{gain_of}
use Rattle.strip_model.specs.Side.{Face, face_of}
use Rattle.strip_model.specs.declared.acquisition.Acquisition.{Acquisition}
use Rattle.strip_model.specs.declared.end.End.{End}
use Rattle.strip_model.specs.declared.end.End.TheVariants.{Forward, Backward}

-- ---- runs

pub IsRun-push : (I : Orbit) (H : ℕ) (s : CoreState) (events : List Event) (t : CoreState) (event : Event) → IsRun I H s events t → CanStep I H t event
    → IsRun I H s (events ++ event ∷ []) (after I t event)
IsRun-push I H s [] t event run can = (subst (λ (u : CoreState). CanStep I H u event) (sym run) can, ap (λ (u : CoreState). after I u event) run)
IsRun-push I H s (e ∷ events) t event run can = (run.0, IsRun-push I H (after I s e) events t event run.1 can)

-- a machine that is reached still is after a step
pub IsReached-stepped : (m n : Machine) (event : Event) → IsReached m → Can m event → n ≡ stepped m event → IsReached n
IsReached-stepped m n event reached can is =
    let then : IsReached (stepped m event) =
    (reached.0 ++ event ∷ [], IsRun-push m.instance m.cut opening reached.0 m.state event reached.1 can) in
    subst (λ (k : Machine). IsReached k) (sym is) then

-- what is reached is orderly
pub IsOrderly-reached : (m : Machine) → IsReached m → IsOrderly m.instance m.cut m.state
IsOrderly-reached m reached = IsOrderly-run m.instance m.cut opening reached.0 m.state reached.1 (IsOrderly-opening m.instance m.cut)

-- ---- how many labels there are

pub count-with_labels : (s : CoreState) (e : End) (b : ℕ) (labels : List Held) → b < length (buckets_of s e)
    → count_of (with_labels s e b labels) + length (labels_in s e b) ≡ count_of s + length labels
unfolding labels_in
count-with_labels s Forward b labels below = omega (arith, sum_by-set (λ (labels : List Held). length labels) s.forward b labels [] below)
count-with_labels s Backward b labels below = omega (arith, sum_by-set (λ (labels : List Held). length labels) s.backward b labels [] below)

pub count-with_state : (s : CoreState) (id : Id) (state : State) → IsThere s id → count_of (with_state s id state) ≡ count_of s
count-with_state s id state there =
    omega (
      arith,
      count-with_labels s id.end id.bucket (set (labels_in s id.end id.bucket) id.index (record { path = path_of s id; state = state }))
          (bucket_there s id there),
      length-set (labels_in s id.end id.bucket) id.index (record { path = path_of s id; state = state }),
    )

pub count-inserted : (s : CoreState) (e : End) (b : ℕ) (held : Held) → b < length (buckets_of s e)
    → count_of (with_labels s e b (labels_in s e b ++ held ∷ [])) ≡ count_of s + 1
count-inserted s e b held below =
    omega (arith, count-with_labels s e b (labels_in s e b ++ held ∷ []) below, length-append (labels_in s e b) (held ∷ []))

-- a bucket has no more labels than the state
pub bucket-le-count : (s : CoreState) (e : End) (b : ℕ) → b < length (buckets_of s e) → length (labels_in s e b) ≤ count_of s
bucket-le-count s e b below = omega (arith, count-with_labels s e b [] below)

-- ---- the sides of a state

pub labels_in-sides : (h : BothSides) (notes : List Note) (plan : List Acquisition) (e : End) (b : ℕ)
    → labels_in (state_with h notes plan) e b ≡ labels_on h e b
unfolding labels_in
labels_in-sides h notes plan Forward b = refl
labels_in-sides h notes plan Backward b = refl

pub held_at-sides : (h : BothSides) (notes : List Note) (plan : List Acquisition) (id : Id)
    → held_at (state_with h notes plan) id ≡ get_or (labels_on h id.end id.bucket) id.index no_held
unfolding held_at
held_at-sides h notes plan id = ap (λ (labels : List Held). get_or labels id.index no_held) (labels_in-sides h notes plan id.end id.bucket)

pub state_with-labels : (h : BothSides) (notes : List Note) (plan : List Acquisition) (e : End) (b : ℕ) (labels : List Held)
    → state_with (with_labels_on h e b labels) notes plan ≡ with_labels (state_with h notes plan) e b labels
state_with-labels h notes plan Forward b labels = refl
state_with-labels h notes plan Backward b labels = refl

pub state_with-state : (h : BothSides) (notes : List Note) (plan : List Acquisition) (id : Id) (state : State)
    → state_with (with_labels_on h id.end id.bucket (with_held (labels_on h id.end id.bucket) id.index state)) notes plan
    ≡ with_state (state_with h notes plan) id state
state_with-state h notes plan id state =
    let s : CoreState = state_with h notes plan in
    state_with-labels h notes plan id.end id.bucket (with_held (labels_on h id.end id.bucket) id.index state)
    ∙ ap (λ (labels : List Held). with_labels (state_with h notes plan) id.end id.bucket
    (set labels id.index (record { path = (get_or (labels_on h id.end id.bucket) id.index no_held).path; state = state })))
    (sym (labels_in-sides h notes plan id.end id.bucket))
    ∙ ap (λ (held : Held). with_labels (state_with h notes plan) id.end id.bucket
    (set (labels_in (state_with h notes plan) id.end id.bucket) id.index (record { path = held.path; state = state })))
    (sym (held_at-sides h notes plan id))

abbrev machine_at : Orbit → ℕ → CoreState → Machine
machine_at I cut s = record { instance = I; cut = cut; state = s }

-- other labels leave the sides as they are
pub forward_face : (h : BothSides) (e : End) (b : ℕ) (labels : List Held) → (with_labels_on h e b labels).forward.face ≡ h.forward.face
forward_face h Forward b labels = refl
forward_face h Backward b labels = refl

pub backward_face : (h : BothSides) (e : End) (b : ℕ) (labels : List Held) → (with_labels_on h e b labels).backward.face ≡ h.backward.face
backward_face h Forward b labels = refl
backward_face h Backward b labels = refl

-- ---- reading a core

module _ (I : Orbit) (h : BothSides) (notes : List Note) (plan : List Acquisition) (m : Machine) (view : machine_of I h notes plan ≡ m) where
  pub labels_are : (e : End) (b : ℕ) → labels_on h e b ≡ labels_in m.state e b
  labels_are e b = sym (labels_in-sides h notes plan e b) ∙ ap (λ (k : Machine). labels_in k.state e b) view

  pub held_is : (id : Id) → get_or (labels_on h id.end id.bucket) id.index no_held ≡ held_at m.state id
  held_is id = sym (held_at-sides h notes plan id) ∙ ap (λ (k : Machine). held_at k.state id) view

  pub there_on : (id : Id) → IsThere m.state id → id.index < length (labels_on h id.end id.bucket)
  there_on id there = omega (arith, there, ap (λ (labels : List Held). length labels) (labels_are id.end id.bucket))

  pub there_from : (id : Id) → id.index < length (labels_on h id.end id.bucket) → IsThere m.state id
  there_from id on = omega (arith, on, ap (λ (labels : List Held). length labels) (labels_are id.end id.bucket))

  pub path_from : (id : Id) → (get_or (labels_on h id.end id.bucket) id.index no_held).path ≡ path_of m.state id
  path_from id = ap (λ (held : Held). held.path) (held_is id)

  pub state_from : (id : Id) → (get_or (labels_on h id.end id.bucket) id.index no_held).state ≡ state_of m.state id
  state_from id = ap (λ (held : Held). held.state) (held_is id)

  pub count_from : (e : End) (b : ℕ) → length (labels_on h e b) ≡ length (labels_in m.state e b)
  count_from e b = ap (λ (labels : List Held). length labels) (labels_are e b)

  -- the side at an end
  pub face_from : (gain labels : ℕ) → IsCore I h notes plan gain labels → (e : End) → (side_at h e).face ≡ face_of m.instance m.cut e
  face_from gain labels core Forward = core.forward ∙ ap (λ (k : Machine). face_of k.instance k.cut Forward) view
  face_from gain labels core Backward = core.backward ∙ ap (λ (k : Machine). face_of k.instance k.cut Backward) view

  -- what holds of a label's side and path here holds of them there
  pub label_from : (gain labels : ℕ) → IsCore I h notes plan gain labels → (id : Id) (P : Face → List ℕ → Type 0)
      → P (side_at h id.end).face (get_or (labels_on h id.end id.bucket) id.index no_held).path
      → P (face_of m.instance m.cut id.end) (path_of m.state id)
  label_from gain labels core id P holds =
      subst (λ (S : Face). P S (path_of m.state id)) (face_from gain labels core id.end)
      (subst (λ (p : List ℕ). P (side_at h id.end).face p) (path_from id) holds)

  pub bucket_below : (gain labels : ℕ) → IsCore I h notes plan gain labels → (id : Id) → IsThere m.state id → id.bucket < BUCKETS
  bucket_below gain labels core id there =
      let o : IsOrderly I h.forward.face.cut (state_with h notes plan) = IsOrderly-reached (machine_of I h notes plan) core.reached in
      let here : IsThere (state_with h notes plan) id = subst (λ (k : Machine). IsThere k.state id) (sym view) there in
      omega (arith, bucket_there (state_with h notes plan) id here, o.size id.end)

  -- ---- steps

  -- another core that is the machine after a step keeps what every core keeps
  pub IsCore-stepped : (gain labels : ℕ) → IsCore I h notes plan gain labels → (g : BothSides) (ns : List Note) (p : List Acquisition) (new_gain new_labels : ℕ)
      (event : Event) → Can m event → machine_of I g ns p ≡ stepped m event → g.forward.face ≡ h.forward.face → g.backward.face ≡ h.backward.face
      → new_gain ≡ gain_of I p → new_labels ≡ count_of (state_with g ns p) → new_labels ≤ MAX_CORE_LABELS → IsCore I g ns p new_gain new_labels
  IsCore-stepped gain labels core g ns p new_gain new_labels event can is forward backward gain_is count_is few = record {
    reached =
        IsReached-stepped m (machine_of I g ns p) event (subst (λ (k : Machine). IsReached k) view core.reached) can is;
    forward = forward ∙ core.forward ∙ ap (λ (S : Face). face_of I S.cut Forward) (sym forward);
    backward = backward ∙ core.backward ∙ ap (λ (S : Face). face_of I S.cut Backward) (sym forward);
    gain_is = gain_is;
    count_is = count_is;
    few = few;
  }

  -- other labels in a bucket of the sides are other labels in a bucket of the state
  stepped-labels : (e : End) (b : ℕ) (labels : List Held) (g : BothSides) → g ≡ with_labels_on h e b labels
      → machine_of I g notes plan ≡ record { instance = m.instance; cut = m.cut; state = with_labels m.state e b labels }
  stepped-labels e b labels g is =
      ap (λ (k : BothSides). machine_of I k notes plan) is
      ∙ ap (λ (S : Face). machine_at I S.cut (state_with (with_labels_on h e b labels) notes plan)) (forward_face h e b labels)
      ∙ ap (λ (s : CoreState). machine_at I h.forward.face.cut s) (state_with-labels h notes plan e b labels)
      ∙ ap (λ (k : Machine). machine_at k.instance k.cut (with_labels k.state e b labels)) view

  -- a label in another state
  pub stepped-state : (id : Id) (state : State) (g : BothSides)
      → g ≡ with_labels_on h id.end id.bucket (with_held (labels_on h id.end id.bucket) id.index state)
      → machine_of I g notes plan ≡ machine_at m.instance m.cut (with_state m.state id state)
  stepped-state id state g is =
      stepped-labels id.end id.bucket (with_held (labels_on h id.end id.bucket) id.index state) g is
      ∙ ap (λ (labels : List Held). machine_at m.instance m.cut (with_labels m.state id.end id.bucket
      (set labels id.index (record { path = (get_or (labels_on h id.end id.bucket) id.index no_held).path; state = state }))))
      (labels_are id.end id.bucket)
      ∙ ap (λ (path : List ℕ). machine_at m.instance m.cut (with_labels m.state id.end id.bucket
      (set (labels_in m.state id.end id.bucket) id.index (record { path = path; state = state })))) (path_from id)

  -- with a mark besides
  pub stepped-note : (id : Id) (state : State) (note : Note) (g : BothSides) (ns : List Note)
      → g ≡ with_labels_on h id.end id.bucket (with_held (labels_on h id.end id.bucket) id.index state) → ns ≡ notes ++ note ∷ []
      → machine_of I g ns plan ≡ machine_at m.instance m.cut (with_note (with_state m.state id state) note)
  stepped-note id state note g ns is more =
      ap (λ (more_notes : List Note). machine_of I g more_notes plan) more
      ∙ ap (λ (k : Machine). machine_at k.instance k.cut (with_note k.state note)) (stepped-state id state g is)

  -- one label more
  pub stepped-insert : (e : End) (path : List ℕ) (g : BothSides)
      → g ≡ with_labels_on h e (bucket_of path) (labels_on h e (bucket_of path) ++ record { path = path; state = Waiting } ∷ [])
      → machine_of I g notes plan ≡ stepped m (InsertLabel e path)
  stepped-insert e path g is =
      stepped-labels e (bucket_of path) (labels_on h e (bucket_of path) ++ record { path = path; state = Waiting } ∷ []) g is
      ∙ ap (λ (labels : List Held). machine_at m.instance m.cut (with_labels m.state e (bucket_of path) (labels ++ record { path = path; state = Waiting } ∷ [])))
      (labels_are e (bucket_of path))

  -- ---- what every core keeps, after each step

  count_is_of : (gain labels : ℕ) → IsCore I h notes plan gain labels → labels ≡ count_of m.state
  count_is_of gain labels core = core.count_is ∙ ap (λ (k : Machine). count_of k.state) view

  pub IsCore-state : (gain labels : ℕ) → IsCore I h notes plan gain labels → (id : Id) (state : State) (g : BothSides) → IsThere m.state id
      → Can m (TakeLabel id) → state ≡ Taken → g ≡ with_labels_on h id.end id.bucket (with_held (labels_on h id.end id.bucket) id.index state)
      → IsCore I g notes plan gain labels
  IsCore-state gain labels core id state g there can taken is =
      let machine : machine_of I g notes plan ≡ stepped m (TakeLabel id) =
      stepped-state id state g is ∙ ap (λ (u : State). machine_at m.instance m.cut (with_state m.state id u)) taken in
      IsCore-stepped gain labels core g notes plan gain labels (TakeLabel id) can machine
      (ap (λ (k : BothSides). k.forward.face) is ∙ forward_face h id.end id.bucket (with_held (labels_on h id.end id.bucket) id.index state))
      (ap (λ (k : BothSides). k.backward.face) is ∙ backward_face h id.end id.bucket (with_held (labels_on h id.end id.bucket) id.index state))
      core.gain_is
      (count_is_of gain labels core ∙ sym (ap (λ (k : Machine). count_of k.state) machine ∙ count-with_state m.state id Taken there))
      core.few

  pub IsCore-note : (gain labels : ℕ) → IsCore I h notes plan gain labels → (id : Id) (state : State) (note : Note) (g : BothSides) (ns : List Note) (event : Event)
      → IsThere m.state id → Can m event → after m.instance m.state event ≡ with_note (with_state m.state id state) note
      → g ≡ with_labels_on h id.end id.bucket (with_held (labels_on h id.end id.bucket) id.index state) → ns ≡ notes ++ note ∷ []
      → IsCore I g ns plan gain labels
  IsCore-note gain labels core id state note g ns event there can is_after is more =
      let machine : machine_of I g ns plan ≡ machine_at m.instance m.cut (with_note (with_state m.state id state) note) =
      stepped-note id state note g ns is more in
      IsCore-stepped gain labels core g ns plan gain labels event can
      (machine ∙ sym (ap (λ (s : CoreState). machine_at m.instance m.cut s) is_after))
      (ap (λ (k : BothSides). k.forward.face) is ∙ forward_face h id.end id.bucket (with_held (labels_on h id.end id.bucket) id.index state))
      (ap (λ (k : BothSides). k.backward.face) is ∙ backward_face h id.end id.bucket (with_held (labels_on h id.end id.bucket) id.index state))
      core.gain_is
      (count_is_of gain labels core ∙ sym (ap (λ (k : Machine). count_of k.state) machine ∙ count-with_state m.state id state there))
      core.few

  pub IsCore-insert : (gain labels : ℕ) → IsCore I h notes plan gain labels → (e : End) (path : List ℕ) (g : BothSides) → Can m (InsertLabel e path)
      → count_of m.state < MAX_CORE_LABELS
      → g ≡ with_labels_on h e (bucket_of path) (labels_on h e (bucket_of path) ++ record { path = path; state = Waiting } ∷ [])
      → IsCore I g notes plan gain (labels + 1)
  IsCore-insert gain labels core e path g can room is =
      let machine : machine_of I g notes plan ≡ stepped m (InsertLabel e path) = stepped-insert e path g is in
      let o : IsOrderly m.instance m.cut m.state = IsOrderly-reached m (subst (λ (k : Machine). IsReached k) view core.reached) in
      let labels_is : labels ≡ count_of m.state = count_is_of gain labels core in
      let more : count_of (state_with g notes plan) ≡ count_of m.state + 1 =
      ap (λ (k : Machine). count_of k.state) machine
      ∙ count-inserted m.state e (bucket_of path) (record { path = path; state = Waiting }) (omega (arith, o.size e)) in
      IsCore-stepped gain labels core g notes plan gain (labels + 1) (InsertLabel e path) can machine
      (ap (λ (k : BothSides). k.forward.face) is ∙ forward_face h e (bucket_of path) (labels_on h e (bucket_of path) ++ record { path = path; state = Waiting } ∷ []))
      (ap (λ (k : BothSides). k.backward.face) is ∙ backward_face h e (bucket_of path) (labels_on h e (bucket_of path) ++ record { path = path; state = Waiting } ∷ []))
      core.gain_is (omega (arith, labels_is, more)) (omega (arith, labels_is, room))

  pub IsCore-publish : (gain labels : ℕ) → IsCore I h notes plan gain labels → (p : List Acquisition) (new_gain : ℕ) → Can m (Publish p)
      → new_gain ≡ gain_of m.instance p → IsCore I h notes p new_gain labels
  IsCore-publish gain labels core p new_gain can gain_is =
      IsCore-stepped gain labels core h notes p new_gain labels (Publish p) can
      (ap (λ (k : Machine). machine_at k.instance k.cut (record k.state { incumbent = p })) view) refl refl
      (gain_is ∙ sym (ap (λ (k : Machine). gain_of k.instance p) view)) core.count_is core.few

-- ---- a core at first

pub IsCore-new : (I : Orbit) (f b : Face) (forward backward : Sided) (notes : List Note) (plan : List Acquisition) → f ≡ face_of I f.cut Forward
    → b ≡ face_of I f.cut Backward → forward ≡ record { face = f; buckets = replicate BUCKETS [] }
    → backward ≡ record { face = b; buckets = replicate BUCKETS [] } → notes ≡ [] → plan ≡ []
    → IsCore I (record { forward = forward; backward = backward }) notes plan 0 0
IsCore-new I f b forward backward notes plan f_is b_is forward_is backward_is no_notes no_plan =
    let sides : BothSides = record { forward = record { face = f; buckets = replicate BUCKETS [] }; backward = record { face = b; buckets = replicate BUCKETS [] } } in
    let core : IsCore I sides [] [] 0 0 = record {
      reached = ([], refl);
      forward = f_is;
      backward = b_is;
      gain_is = sym (gain_in-nil I);
      count_is = refl;
      few = omega arith;
    } in
    let with_plan : IsCore I sides [] plan 0 0 = subst (λ (p : List Acquisition). IsCore I sides [] p 0 0) (sym no_plan) core in
    let with_notes : IsCore I sides notes plan 0 0 = subst (λ (ns : List Note). IsCore I sides ns plan 0 0) (sym no_notes) with_plan in
    let with_backward : IsCore I (record { forward = record { face = f; buckets = replicate BUCKETS [] }; backward = backward }) notes plan 0 0 =
    subst (λ (h : Sided). IsCore I (record { forward = record { face = f; buckets = replicate BUCKETS [] }; backward = h }) notes plan 0 0)
    (sym backward_is) with_notes in
    subst (λ (h : Sided). IsCore I (record { forward = h; backward = backward }) notes plan 0 0) (sym forward_is) with_backward

-- ---- marks name labels that are there

pub names_there : (m : Machine) → IsReached m → All (NamesThere m.state) m.state.notes
names_there m reached k note below =
    well (get_or m.state.notes k note)
    (EachAfter-at (MarksWell m.instance m.state) [] m.state.notes (IsOrderly-reached m reached).marked k (get_or m.state.notes k note)
    (slice_get-get_or m.state.notes k note below))
  where
    well : (n : Note) → MarksWell m.instance m.state (take k m.state.notes) n → NamesThere m.state n
    well (Retires label by) h = (h.there, h.by_there)
    well (Cuts label) h = h.there
