-- Each step keeps a state orderly.
use Rattle.std.proofs.Common.{◌≡◌, ◌≢◌, ℕ, ◌%◌, ◌<◌, ◌≤◌, ◌⊎◌, not, ◌||◌, Bool, true, false, List, [], ◌∷◌, ◌++◌, length, refl, sym, ◌∙◌, ap, subst, inl, inr, arith}
use Rattle.std.proofs.lemmas.Bool.{or_from, or_right, not-true}
use Rattle.std.proofs.lemmas.List.Folds.{list_any-append}
use Rattle.bucket.specs.Histories.{bucket_of}
use Rattle.label_list.specs.Labels.{Held, is_live, last_of}
use Rattle.bucket.specs.declared.id.Id.{Id}
use Rattle.bucket.specs.declared.limits.TheConstants.{BUCKETS}
use Rattle.label_list.specs.declared.state.State.{State}
use Rattle.label_list.specs.declared.state.State.TheVariants.{Waiting, Taken, Retired, Cut}
use Rattle.label_core.proofs.EachAfter.{EachAfter, EachAfter-push, EachAfter-weaker}
use Rattle.label_core.proofs.Lookups.{labels_in-same, held_at-same, length-with_state, held_here, held_there, path-with_state, size-with_labels, with_label, next_id, held_new, held_old, there_old, there_cases}
use Rattle.label_core.proofs.Orderly.{IsOrderly, MarksWell, marked_there, Grows, MarksWell-grows}
use Rattle.label_core.proofs.SameIds.{cases_id, same_id_same, same_id-other}
use Rattle.label_core.specs.CoreState.{CoreState, Note, Retires, Cuts, is_noted, marked_by, buckets_of, labels_in, path_of, state_of, IsThere, IsLiveAt, with_state, with_note}
use Rattle.label_core.specs.Events.{Event, InsertLabel, TakeLabel, RetireLabel, CutLabel, Publish, JoinLabels, CanInsert, CanTake, CanRetire, CanStep, after}
use Rattle.label_core.specs.Ids.{same_id}
use Rattle.strip_model.specs.Dominance.{Dominates, IsNoLater}
use Rattle.strip_model.specs.LabelPath.{LabelPath}
use Rattle.strip_model.specs.Orbit.{Orbit}
use Rattle.strip_model.specs.Plan.{Feasible, gain_of}
use Rattle.strip_model.specs.Side.{facing, face_of}
use Rattle.strip_model.specs.Starts.{Place, Root, After, arrive, place_after}
use Rattle.strip_model.specs.declared.acquisition.Acquisition.{Acquisition}
use Rattle.strip_model.specs.declared.end.End.{End}
use Rattle.strip_model.specs.declared.end.End.TheVariants.{Forward, Backward}

-- ---- states whose labels have the same names and paths

pub record IsAlike (s t : CoreState) : Type 0 where
  pub size : (e : End) → length (buckets_of t e) ≡ length (buckets_of s e)
  pub len : (e : End) (b : ℕ) → length (labels_in t e b) ≡ length (labels_in s e b)
  pub path : (x : Id) → path_of t x ≡ path_of s x

module _ (s t : CoreState) (alike : IsAlike s t) where
  pub there-alike : (x : Id) → IsThere s x → IsThere t x
  there-alike x there = omega (arith, there, alike.len x.end x.bucket)

  pub there-alike_back : (x : Id) → IsThere t x → IsThere s x
  there-alike_back x there = omega (arith, there, alike.len x.end x.bucket)

  pub Grows-alike : (I : Orbit) → gain_of I s.incumbent ≤ gain_of I t.incumbent → Grows I s t
  Grows-alike I gain = record { there = there-alike; path = λ x there. alike.path x; gain = gain }

-- such a state is orderly too, if its plan, its marks and the states of its labels are as they should be
IsOrderly-alike : (I : Orbit) (H : ℕ) (s t : CoreState) → IsAlike s t → IsOrderly I H s → Feasible I t.incumbent
    → EachAfter (MarksWell I t) [] t.notes → ((x : Id) → IsThere s x → is_live (state_of t x) ≡ not (is_noted x t.notes)) → IsOrderly I H t
IsOrderly-alike I H s t alike o feasible marked live_is = record {
  size = λ e. alike.size e ∙ o.size e;
  feasible = feasible;
  is_path = λ x there. subst (λ (p : List ℕ). LabelPath (face_of I H x.end) p) (sym (alike.path x)) (o.is_path x (there-alike_back s t alike x there));
  placed = λ x there. ap (λ (p : List ℕ). bucket_of p) (alike.path x) ∙ o.placed x (there-alike_back s t alike x there);
  once =
      λ a b a_there b_there side same.
      o.once a b (there-alike_back s t alike a a_there) (there-alike_back s t alike b b_there) side (sym (alike.path a) ∙ same ∙ alike.path b);
  marked = marked;
  live_is = λ x there. live_is x (there-alike_back s t alike x there);
}

-- ---- another incumbent

pub buckets-with_incumbent : (s : CoreState) (plan : List Acquisition) (e : End) → buckets_of (record s { incumbent = plan }) e ≡ buckets_of s e
buckets-with_incumbent s plan Forward = refl
buckets-with_incumbent s plan Backward = refl

pub IsAlike-same : (s t : CoreState) → ((e : End) → buckets_of t e ≡ buckets_of s e) → IsAlike s t
IsAlike-same s t same = record {
  size = λ e. ap (λ (buckets : List (List Held)). length buckets) (same e);
  len = λ e b. ap (λ (labels : List Held). length labels) (labels_in-same s t same e b);
  path = λ x. ap (λ (h : Held). h.path) (held_at-same s t same x);
}

IsOrderly-plan : (I : Orbit) (H : ℕ) (s : CoreState) (plan : List Acquisition) → IsOrderly I H s → Feasible I plan → gain_of I s.incumbent ≤ gain_of I plan
    → IsOrderly I H (record s { incumbent = plan })
IsOrderly-plan I H s plan o feasible gains =
    let t : CoreState = record s { incumbent = plan } in
    let same : (e : End) → buckets_of t e ≡ buckets_of s e = buckets-with_incumbent s plan in
    let alike : IsAlike s t = IsAlike-same s t same in
    IsOrderly-alike I H s t alike o feasible
    (EachAfter-weaker (MarksWell I s) (MarksWell I t) (MarksWell-grows I s t (Grows-alike s t alike I gains)) [] s.notes o.marked)
    (λ x there. ap (λ (h : Held). is_live h.state) (held_at-same s t same x) ∙ o.live_is x there)

-- ---- one label in another state

pub IsAlike-with_state : (s : CoreState) (id : Id) (state : State) → IsThere s id → IsAlike s (with_state s id state)
IsAlike-with_state s id state there = record {
  size = λ e. size-with_labels s id.end id.bucket _ e;
  len = length-with_state s id state there;
  path = path-with_state s id state there;
}

pub buckets-with_note : (s : CoreState) (note : Note) (e : End) → buckets_of (with_note s note) e ≡ buckets_of s e
buckets-with_note s note Forward = refl
buckets-with_note s note Backward = refl

pub IsAlike-trans : (s t u : CoreState) → IsAlike s t → IsAlike t u → IsAlike s u
IsAlike-trans s t u h k = record {
  size = λ e. k.size e ∙ h.size e;
  len = λ e b. k.len e b ∙ h.len e b;
  path = λ x. k.path x ∙ h.path x;
}

-- a label without a mark is live, and a live one has no mark
live-unmarked : (I : Orbit) (H : ℕ) (s : CoreState) → IsOrderly I H s → (x : Id) → IsLiveAt s x → is_noted x s.notes ≡ false
live-unmarked I H s o x live = not-true (is_noted x s.notes) (sym (o.live_is x live.there) ∙ live.live)

IsOrderly-taken : (I : Orbit) (H : ℕ) (s : CoreState) (id : Id) → IsOrderly I H s → CanTake s id → IsOrderly I H (with_state s id Taken)
IsOrderly-taken I H s id o can =
    let t : CoreState = with_state s id Taken in
    let alike : IsAlike s t = IsAlike-with_state s id Taken can.there in
    IsOrderly-alike I H s t alike o o.feasible
    (EachAfter-weaker (MarksWell I s) (MarksWell I t) (MarksWell-grows I s t (Grows-alike s t alike I (omega arith))) [] s.notes o.marked)
    (λ x there. elim (cases_id x id) [
      | inl same ↦
          let here : is_live (state_of t id) ≡ not (is_noted id s.notes) =
          ap (λ (h : Held). is_live h.state) (held_here s id Taken can.there) ∙ sym (ap (λ (u : State). is_live u) can.waits) ∙ o.live_is id can.there in
          subst (λ (y : Id). is_live (state_of t y) ≡ not (is_noted y s.notes)) (sym same) here
      | inr other ↦ ap (λ (h : Held). is_live h.state) (held_there s id Taken can.there x other) ∙ o.live_is x there
    ])

-- a mark at the end marks its own label alone
is_noted-here : (id : Id) (notes : List Note) (note : Note) → marked_by note ≡ id → is_noted id (notes ++ note ∷ []) ≡ true
is_noted-here id notes note is =
    list_any-append (λ note. same_id (marked_by note) id) notes (note ∷ [])
    ∙ or_right (is_noted id notes) (same_id (marked_by note) id || false) (ap (λ (x : Id). same_id x id || false) is ∙ ap (λ (b : Bool). b || false) (same_id_same id))

is_noted-there : (x : Id) (notes : List Note) (note : Note) → x ≢ marked_by note → is_noted x (notes ++ note ∷ []) ≡ is_noted x notes
is_noted-there x notes note other =
    list_any-append (λ note. same_id (marked_by note) x) notes (note ∷ [])
    ∙ ap (λ (b : Bool). is_noted x notes || (b || false)) (same_id-other (marked_by note) x (λ h. other (sym h))) ∙ or_false (is_noted x notes)
  where
    or_false : (b : Bool) → (b || (false || false)) ≡ b
    or_false true = refl
    or_false false = refl

-- a live label gets a mark that keeps its rules, and a state that is not live
IsOrderly-marked : (I : Orbit) (H : ℕ) (s : CoreState) (id : Id) (state : State) (note : Note) → IsOrderly I H s → IsLiveAt s id
    → marked_by note ≡ id → is_live state ≡ false → MarksWell I s s.notes note → IsOrderly I H (with_note (with_state s id state) note)
IsOrderly-marked I H s id state note o live marks dead well =
    let mid : CoreState = with_state s id state in
    let t : CoreState = with_note mid note in
    let same : (e : End) → buckets_of t e ≡ buckets_of mid e = buckets-with_note mid note in
    let alike : IsAlike s t = IsAlike-trans s mid t (IsAlike-with_state s id state live.there) (IsAlike-same mid t same) in
    let still : (front : List Note) (m : Note) → MarksWell I s front m → MarksWell I t front m =
    MarksWell-grows I s t (Grows-alike s t alike I (omega arith)) in
    IsOrderly-alike I H s t alike o o.feasible
    (EachAfter-push (MarksWell I t) s.notes note (EachAfter-weaker (MarksWell I s) (MarksWell I t) still [] s.notes o.marked)
    (still s.notes note well))
    (λ x there. elim (cases_id x id) [
      | inl at ↦
          let here : is_live (state_of t id) ≡ not (is_noted id (s.notes ++ note ∷ [])) =
          ap (λ (h : Held). is_live h.state) (held_at-same mid t same id ∙ held_here s id state live.there) ∙ dead
          ∙ sym (ap (λ (b : Bool). not b) (is_noted-here id s.notes note marks)) in
          subst (λ (y : Id). is_live (state_of t y) ≡ not (is_noted y (s.notes ++ note ∷ []))) (sym at) here
      | inr other ↦
          ap (λ (h : Held). is_live h.state) (held_at-same mid t same x ∙ held_there s id state live.there x other) ∙ o.live_is x there
          ∙ sym (ap (λ (b : Bool). not b) (is_noted-there x s.notes note (λ h. other (h ∙ marks))))
    ])

-- ---- a dominator stands in the bucket of what it dominates

-- where a path has come to, from a place after the directed strip z
last_from : ℕ → List ℕ → ℕ
last_from z [] = z
last_from z (x ∷ xs) = last_from x xs

last_from-last_of : (z x : ℕ) (xs : List ℕ) → last_from z (x ∷ xs) ≡ last_of (x ∷ xs)
unfolding last_from
last_from-last_of z x [] = refl
last_from-last_of z x (y ∷ ys) = last_from-last_of x y ys

place-last_from : (J : Orbit) (t z : ℕ) (xs : List ℕ) (s x : ℕ) → place_after J (After t z) xs ≡ After s x → last_from z xs ≡ x
unfolding last_from
place-last_from J t z [] s x e = cc
place-last_from J t z (y ∷ ys) s x e = place-last_from J (arrive J (After t z) y) y ys s x e

pub place_after-last : (J : Orbit) (path : List ℕ) (s x : ℕ) → place_after J Root path ≡ After s x → last_of path ≡ x
unfolding last_from
place_after-last J [] s x e = absurd cc
place_after-last J (y ∷ ys) s x e = sym (last_from-last_of y y ys) ∙ place-last_from J (arrive J Root y) y ys s x e

pub Dominates-last : (J : Orbit) (b a : List ℕ) → Dominates J b a → last_of b ≡ last_of a
Dominates-last J b a h = both (place_after J Root b) (place_after J Root a) refl refl h.no_later
  where
    both : (p q : Place) → place_after J Root b ≡ p → place_after J Root a ≡ q → IsNoLater p q → last_of b ≡ last_of a
    both (After s x) (After t y) p q no_later = place_after-last J b s x p ∙ no_later.0 ∙ sym (place_after-last J a t y q)
    both Root q p_is q_is no_later = elim no_later [ ]
    both (After s x) Root p_is q_is no_later = elim no_later [ ]

pub one_bucket : (I : Orbit) (H : ℕ) (s : CoreState) (id by : Id) → IsOrderly I H s → CanRetire I s id by → by.bucket ≡ id.bucket
one_bucket I H s id by o can =
    sym (o.placed by can.by_live.there)
    ∙ ap (λ (x : ℕ). x % BUCKETS) (Dominates-last (facing I id.end) (path_of s by) (path_of s id) can.dominated) ∙ o.placed id can.live.there

-- ---- one label more

-- what isn't there has no mark
absent-unmarked : (I : Orbit) (s : CoreState) (x : Id) → (IsThere s x → ⊥) → (earlier notes : List Note) → EachAfter (MarksWell I s) earlier notes
    → is_noted x notes ≡ false
absent-unmarked I s x absent earlier [] each = refl
absent-unmarked I s x absent earlier (note ∷ notes) each =
    or_from (same_id (marked_by note) x) (is_noted x notes)
    (same_id-other (marked_by note) x (λ h. absent (subst (λ (y : Id). IsThere s y) h (marked_there I s earlier note each.0))))
    (absent-unmarked I s x absent (earlier ++ note ∷ []) notes each.1)

IsOrderly-inserted : (I : Orbit) (H : ℕ) (s : CoreState) (e : End) (path : List ℕ) → IsOrderly I H s → CanInsert I H s e path
    → IsOrderly I H (with_label s e (bucket_of path) (record { path = path; state = Waiting }))
IsOrderly-inserted I H s e path o can =
    let held : Held = record { path = path; state = Waiting } in
    let b : ℕ = bucket_of path in
    let below : bucket_of path < length (buckets_of s e) = omega (arith, o.size e) in
    let t : CoreState = with_label s e (bucket_of path) held in
    let new : Id = next_id s e (bucket_of path) in
    let cases : (x : Id) → IsThere t x → IsThere s x ⊎ (x ≡ new) = there_cases s e (bucket_of path) held below in
    let old_path : (x : Id) → IsThere s x → path_of t x ≡ path_of s x = λ x there. ap (λ (h : Held). h.path) (held_old s e (bucket_of path) held below x there) in
    let new_path : path_of t new ≡ path = ap (λ (h : Held). h.path) (held_new s e (bucket_of path) held below) in
    let grows : Grows I s t = record { there = there_old s e (bucket_of path) held below; path = old_path; gain = omega arith } in
    let is_new : (a : Id) → IsThere s a → a.end ≡ new.end → path_of t a ≡ path_of t new → ⊥ =
    λ a there side same. can.is_new (a, side, there, sym (old_path a there) ∙ same ∙ new_path) in
    record {
      size = λ f. size-with_labels s e (bucket_of path) (labels_in s e (bucket_of path) ++ held ∷ []) f ∙ o.size f;
      feasible = o.feasible;
      is_path =
          λ x now. elim (cases x now) [
            | inl was ↦ subst (λ (p : List ℕ). LabelPath (face_of I H x.end) p) (sym (old_path x was)) (o.is_path x was)
            | inr at ↦
                subst (λ (y : Id). LabelPath (face_of I H y.end) (path_of t y)) (sym at)
                (subst (λ (p : List ℕ). LabelPath (face_of I H e) p) (sym new_path) can.is_path)
          ];
      placed =
          λ x now. elim (cases x now) [
            | inl was ↦ ap (λ (p : List ℕ). bucket_of p) (old_path x was) ∙ o.placed x was
            | inr at ↦ subst (λ (y : Id). bucket_of (path_of t y) ≡ y.bucket) (sym at) (ap (λ (p : List ℕ). bucket_of p) new_path)
          ];
      once =
          λ a c a_now c_now side same. elim (cases a a_now) [
            | inl a_was ↦ elim (cases c c_now) [
              | inl c_was ↦ o.once a c a_was c_was side (sym (old_path a a_was) ∙ same ∙ old_path c c_was)
              | inr c_at ↦
                  absurd (is_new a a_was (side ∙ ap (λ (y : Id). y.end) c_at) (same ∙ ap (λ (y : Id). path_of t y) c_at))
            ]
            | inr a_at ↦ elim (cases c c_now) [
              | inl c_was ↦
                  absurd (is_new c c_was (sym side ∙ ap (λ (y : Id). y.end) a_at) (sym same ∙ ap (λ (y : Id). path_of t y) a_at))
              | inr c_at ↦ a_at ∙ sym c_at
            ]
          ];
      marked = EachAfter-weaker (MarksWell I s) (MarksWell I t) (MarksWell-grows I s t grows) [] s.notes o.marked;
      live_is =
          λ x now. elim (cases x now) [
            | inl was ↦ ap (λ (h : Held). is_live h.state) (held_old s e (bucket_of path) held below x was) ∙ o.live_is x was
            | inr at ↦
                let absent : IsThere s new → ⊥ = λ there. omega (arith, there) in
                subst (λ (y : Id). is_live (state_of t y) ≡ not (is_noted y s.notes)) (sym at)
                (ap (λ (h : Held). is_live h.state) (held_new s e (bucket_of path) held below)
                ∙ sym (ap (λ (b : Bool). not b) (absent-unmarked I s new absent [] s.notes o.marked)))
          ];
    }

-- ---- all steps

-- a step leads from an orderly state to an orderly state
pub IsOrderly-after : (I : Orbit) (H : ℕ) (s : CoreState) (event : Event) → CanStep I H s event → IsOrderly I H s → IsOrderly I H (after I s event)
IsOrderly-after I H s (InsertLabel e path) can o = IsOrderly-inserted I H s e path o can
IsOrderly-after I H s (TakeLabel id) can o = IsOrderly-taken I H s id o can
IsOrderly-after I H s (RetireLabel id by) can o =
    IsOrderly-marked I H s id (Retired by.index) (Retires id by) o can.live refl refl
    (record {
      there = can.live.there;
      by_there = can.by_live.there;
      one_side = can.one_side;
      one_bucket = one_bucket I H s id by o can;
      differ = can.differ;
      unmarked = live-unmarked I H s o id can.live;
      by_unmarked = live-unmarked I H s o by can.by_live;
      dominated = can.dominated;
    })
IsOrderly-after I H s (CutLabel id) can o =
    IsOrderly-marked I H s id Cut (Cuts id) o can.live refl refl
    (record { there = can.live.there; unmarked = live-unmarked I H s o id can.live; bounded = can.bounded })
IsOrderly-after I H s (Publish plan) can o = IsOrderly-plan I H s plan o can.feasible can.gains
IsOrderly-after I H s (JoinLabels f b) can o = IsOrderly-plan I H s _ o can.joins can.gains
