-- What a trace leads to is a legal run of a core, and the labels that it has move there as they are.
use Rattle.std.proofs.Common.{◌≡◌, ◌≢◌, ℕ, suc, ◌+◌, ◌*◌, ◌<◌, ◌≤◌, List, [], ◌∷◌, ◌++◌, map, sum_by, length, get_or, replicate, drop, Some, slice_get, refl, sym, ◌∙◌, ap, subst, inl, inr, arith}
use Rattle.std.proofs.lemmas.Bool.{cases_lt}
use Rattle.std.proofs.lemmas.List.{append-nil, get_or_past, get_or-replicate, drop_all, same_lists, get_or_default}
use Rattle.std.proofs.Math.Seq.{drop-cons}
use Rattle.bucket.specs.Buckets.{Bin, held_in}
use Rattle.bucket.specs.Histories.{Step, after_all, replay, AllLegal}
use Rattle.bucket.specs.Stores.{entry_of}
use Rattle.label_list.specs.Labels.{Held}
use Rattle.bucket.specs.Traces.{IsBucketAt, AreBucketsOf, IsTraceOf}
use Rattle.bucket.specs.declared.limits.TheConstants.{BUCKETS, MAX_LABELS}
use Rattle.bucket.specs.declared.trace.Trace.{Trace}
use Rattle.label_core.proofs.ClosedRuns.{IsOrderly-opening}
use Rattle.label_core.proofs.KeptOf.{IsKeptOf, IsKeptOf-none, Begin-same}
use Rattle.label_core.proofs.Orderly.{IsOrderly}
use Rattle.label_core.proofs.SameIds.{Forward≢Backward}
use Rattle.label_core.proofs.Settling.{coming, waiting-after_all}
use Rattle.label_core.proofs.Steps.{IsOrderly-after}
use Rattle.label_core.proofs.Traces.{last_state-append, IsLegalRun-append, machine_at, there_with, HasTaken, taken-entries}
use Rattle.label_core.specs.BothSides.{machine_of, IsCore}
use Rattle.label_core.specs.CoreState.{CoreState, Note, opening, buckets_of, labels_in}
use Rattle.label_core.specs.Events.{Publish, CanPublish}
use Rattle.label_core.specs.Machine.{Machine, IsReached, count_of}
use Rattle.label_core.specs.Settling.{Settling, SettledSide, waiting, before, settle_all, settle_bucket, settle_side}
use Rattle.label_core.specs.SideLists.{Sided}
use Rattle.label_core.specs.Traces.{events_of_entries, events_of_bucket, events_of_side, trace_run, last_state, IsLegalRun}
use Rattle.label_core.specs.declared.limits.TheConstants.{MAX_CORE_LABELS}
use Rattle.strip_model.proofs.Gains.{gain_in-nil}
use Rattle.strip_model.specs.Orbit.{Orbit}
use Rattle.strip_model.specs.Plan.{Feasible, gain_of}
use Rattle.strip_model.specs.Side.{Face, facing, face_of}
use Rattle.strip_model.specs.declared.acquisition.Acquisition.{Acquisition}
use Rattle.strip_model.specs.declared.end.End.{End}
use Rattle.strip_model.specs.declared.end.End.TheVariants.{Forward, Backward}

-- ---- a bucket

-- where nothing has been taken over yet
HasTaken-none : (I : Orbit) (H : ℕ) (e : End) (b : ℕ) (s : CoreState) → IsOrderly I H s → labels_in s e b ≡ [] → HasTaken I H e b s s []
HasTaken-none I H e b s orderly empty = record {
  orderly = orderly;
  kept = subst (λ (ls : List Held). IsKeptOf [] ls) (sym empty) IsKeptOf-none;
  incumbent = refl;
  others = λ f c other. refl;
  count = omega arith;
}

-- all labels of a bucket, while they wait, go over its entries as the core goes over their events, where it has no labels there
settled-bucket : (I : Orbit) (e : End) (number gain : ℕ) (s t : CoreState) (history : List Step) → labels_in s e number ≡ []
    → settle_all (facing I e) e number gain (there_with e number s (coming history)) (map entry_of history) ≡ there_with e number t []
    → settle_all (facing I e) e number gain (record { labels = map waiting (after_all [] history); notes = s.notes }) (map entry_of history)
    ≡ record { labels = labels_in t e number; notes = t.notes }
settled-bucket I e number gain s t history empty settled =
    let first : map waiting (after_all [] history) ≡ labels_in s e number ++ coming history =
    waiting-after_all [] history ∙ ap (λ (ls : List Held). ls ++ coming history) (sym empty) in
    ap (λ (ls : List Held). settle_all (facing I e) e number gain (with_notes ls) (map entry_of history)) first ∙ settled
    ∙ ap (λ (ls : List Held). then_notes ls) (append-nil (labels_in t e number))
  where
    with_notes : List Held → Settling
    with_notes ls = record { labels = ls; notes = s.notes }

    then_notes : List Held → Settling
    then_notes ls = record { labels = ls; notes = t.notes }

-- the entries of a bucket are legal events where the core has no labels there, and leave the bucket's labels as they do there
taken-bucket : (I : Orbit) (H : ℕ) (e : End) (number gain : ℕ) (s : CoreState) (b : Bin) → IsBucketAt (face_of I H e) number b → number < BUCKETS
    → IsOrderly I H s → gain ≡ gain_of I s.incumbent → labels_in s e number ≡ []
    → IsLegalRun I H s (events_of_bucket I e gain b)
    × HasTaken I H e number s (last_state I s (events_of_bucket I e gain b)) (held_in b)
    × (settle_bucket (facing I e) e gain s.notes b
    ≡ record { labels = labels_in (last_state I s (events_of_bucket I e gain b)) e number; notes = (last_state I s (events_of_bucket I e gain b)).notes })
unfolding replay events_of_bucket settle_bucket
taken-bucket I H e number gain s b at small orderly is empty =
    let legal : AllLegal (face_of I H e) number [] b.history =
    subst (λ (n : ℕ). AllLegal (face_of I H e) n [] b.history) at.number
    (subst (λ (S : Face). AllLegal S b.number [] b.history) at.side at.sound.history.legal) in
    let all = taken-entries I H e number gain s (after_all [] b.history) small is s [] b.history
    (HasTaken-none I H e number s orderly empty) legal (Begin-same (after_all [] b.history)) in
    let settled = settled-bucket I e number gain s (last_state I s (events_of_entries I e number gain (after_all [] b.history) b.history)) b.history empty all.2 in (
      subst (λ (n : ℕ). IsLegalRun I H s (events_of_entries I e n gain (after_all [] b.history) b.history)) (sym at.number) all.0,
      subst (λ (n : ℕ). HasTaken I H e number s (last_state I s (events_of_entries I e n gain (after_all [] b.history) b.history)) (after_all [] b.history))
          (sym at.number) all.1,
      subst (λ (n : ℕ). settle_all (facing I e) e n gain (record { labels = map waiting (after_all [] b.history); notes = s.notes }) (map entry_of b.history)
          ≡ record {
            labels = labels_in (last_state I s (events_of_entries I e n gain (after_all [] b.history) b.history)) e number;
            notes = (last_state I s (events_of_entries I e n gain (after_all [] b.history) b.history)).notes;
          })
          (sym at.number) settled,
    )

-- ---- a side

-- a core that has taken over so many buckets of a side, from the one with this number on
pub record HasTakenSide (I : Orbit) (H : ℕ) (e : End) (s t : CoreState) (number buckets : ℕ) : Type 0 where
  pub orderly : IsOrderly I H t
  pub incumbent : t.incumbent ≡ s.incumbent
  pub others : (f : End) (c : ℕ) → e ≢ f → labels_in t f c ≡ labels_in s f c
  pub earlier : (c : ℕ) → c < number → labels_in t e c ≡ labels_in s e c
  pub count : count_of t ≤ count_of s + buckets * MAX_LABELS

-- the buckets of the side from the one with this number on, and the marks
abbrev pub side_from : End → ℕ → CoreState → SettledSide
side_from e number t = record { buckets = drop number (buckets_of t e); notes = t.notes }

-- a bucket, and those after it
side_from-next : (e : End) (number : ℕ) (s t : CoreState) → number < length (buckets_of t e) → labels_in t e number ≡ labels_in s e number
    → before (record { labels = labels_in s e number; notes = s.notes }) (side_from e (suc number) t) ≡ side_from e number t
unfolding labels_in
side_from-next e number s t there same =
    ap (λ (bs : List (List Held)). with_notes bs)
    (ap (λ (ls : List Held). ls ∷ drop (suc number) (buckets_of t e)) (sym same) ∙ sym (drop-cons (buckets_of t e) number [] there))
  where
    with_notes : List (List Held) → SettledSide
    with_notes bs = record { buckets = bs; notes = t.notes }

-- a side of which nothing is left
side_from-end : (e : End) (number : ℕ) (s : CoreState) → length (buckets_of s e) ≤ number
    → record { buckets = []; notes = s.notes } ≡ side_from e number s
side_from-end e number s past = ap (λ (bs : List (List Held)). with_notes bs) (sym (drop_all number (buckets_of s e) past))
  where
    with_notes : List (List Held) → SettledSide
    with_notes bs = record { buckets = bs; notes = s.notes }

-- what a side of a trace leads to
pub record TakesSide (I : Orbit) (H : ℕ) (e : End) (gain number : ℕ) (s t : CoreState) (bins : List Bin) : Type 0 where
  pub legal : IsLegalRun I H s (events_of_side I e gain bins)
  pub has : HasTakenSide I H e s t number (length bins)
  pub settled : settle_side (facing I e) e gain s.notes bins ≡ side_from e number t

-- a bucket and then the rest of its side
has-next : (I : Orbit) (H : ℕ) (e : End) (number buckets : ℕ) (s u t : CoreState) (hs : List Held) → HasTaken I H e number s u hs → length hs ≤ MAX_LABELS
    → HasTakenSide I H e u t (suc number) buckets → HasTakenSide I H e s t number (suc buckets)
has-next I H e number buckets s u t hs has few side = record {
  orderly = side.orderly;
  incumbent = side.incumbent ∙ has.incumbent;
  others = λ f c other. side.others f c other ∙ has.others f c (λ h. absurd (other h));
  earlier = λ c below. side.earlier c (omega (arith, below)) ∙ has.others e c (λ h same. omega (arith, below, same));
  count = omega (arith, side.count, has.count, few);
}

settled-next : (J : Orbit) (e : End) (gain number : ℕ) (s u t : CoreState) (b : Bin) (bins : List Bin)
    → settle_bucket J e gain s.notes b ≡ record { labels = labels_in u e number; notes = u.notes }
    → settle_side J e gain u.notes bins ≡ side_from e (suc number) t → number < length (buckets_of t e) → labels_in t e number ≡ labels_in u e number
    → settle_side J e gain s.notes (b ∷ bins) ≡ side_from e number t
settled-next J e gain number s u t b bins bucket rest there same =
    ap (λ (p : Settling). before p (settle_side J e gain p.notes bins)) bucket
    ∙ ap (λ (q : SettledSide). before (record { labels = labels_in u e number; notes = u.notes }) q) rest
    ∙ side_from-next e number u t there same

pub taken-side : (I : Orbit) (H : ℕ) (e : End) (gain number : ℕ) (s : CoreState) (bins : List Bin)
    → ((k : ℕ) (b : Bin) → slice_get bins k ≡ Some b → IsBucketAt (face_of I H e) (number + k) b) → number + length bins ≡ BUCKETS
    → IsOrderly I H s → gain ≡ gain_of I s.incumbent → ((c : ℕ) → number ≤ c → labels_in s e c ≡ [])
    → TakesSide I H e gain number s (last_state I s (events_of_side I e gain bins)) bins
taken-side I H e gain number s [] each size orderly is empty = record {
  legal = refl;
  has = record { orderly = orderly; incumbent = refl; others = λ f c other. refl; earlier = λ c below. refl; count = omega arith };
  settled = side_from-end e number s (omega (arith, size, orderly.size e));
}
taken-side I H e gain number s (b ∷ bins) each size orderly is empty =
    let here_at : number + 0 ≡ number = omega arith in
    let at : IsBucketAt (face_of I H e) number b = subst (λ (n : ℕ). IsBucketAt (face_of I H e) n b) here_at (each 0 b refl) in
    let first = taken-bucket I H e number gain s b at (omega (arith, size)) orderly is (empty number (omega arith)) in
    let u : CoreState = last_state I s (events_of_bucket I e gain b) in
    let has : HasTaken I H e number s (last_state I s (events_of_bucket I e gain b)) (held_in b) = first.1 in
    let rest = taken-side I H e gain (suc number) (last_state I s (events_of_bucket I e gain b)) bins
    (λ k c here.
    let on : number + suc k ≡ suc number + k = omega arith in subst (λ (n : ℕ). IsBucketAt (face_of I H e) n c) on (each (suc k) c here))
    (omega (arith, size)) has.orderly
    (is ∙ ap (λ (plan : List Acquisition). gain_of I plan) (sym has.incumbent))
    (λ c past. has.others e c (λ h same. omega (arith, past, same)) ∙ empty c (omega (arith, past))) in
    let t : CoreState = last_state I (last_state I s (events_of_bucket I e gain b)) (events_of_side I e gain bins) in
    let side : HasTakenSide I H e (last_state I s (events_of_bucket I e gain b))
    (last_state I (last_state I s (events_of_bucket I e gain b)) (events_of_side I e gain bins)) (suc number) (length bins) = rest.has in
    let goes_on : last_state I s (events_of_side I e gain (b ∷ bins))
    ≡ last_state I (last_state I s (events_of_bucket I e gain b)) (events_of_side I e gain bins) =
    last_state-append I s (events_of_bucket I e gain b) (events_of_side I e gain bins) in
    record {
      legal = IsLegalRun-append I H s (events_of_bucket I e gain b) (events_of_side I e gain bins) first.0 rest.legal;
      has =
          subst (λ (v : CoreState). HasTakenSide I H e s v number (suc (length bins))) (sym goes_on)
          (has-next I H e number (length bins) s u t (held_in b) has at.sound.history.few side);
      settled =
          settled-next (facing I e) e gain number s u t b bins first.2 rest.settled (omega (arith, size, side.orderly.size e)) (side.earlier number (omega arith))
          ∙ ap (λ (v : CoreState). side_from e number v) (sym goes_on);
    }

-- ---- a trace

opening_empty : (e : End) (b : ℕ) → labels_in opening e b ≡ []
unfolding labels_in
opening_empty e b = elim (cases_lt b BUCKETS) [
  | inl below ↦ empty e below
  | inr past ↦ beyond e past
]
  where
    empty : (f : End) → b < BUCKETS → labels_in opening f b ≡ []
    empty Forward below = get_or-replicate BUCKETS b [] [] below
    empty Backward below = get_or-replicate BUCKETS b [] [] below

    beyond : (f : End) → BUCKETS ≤ b → labels_in opening f b ≡ []
    beyond Forward past = get_or_past (replicate BUCKETS []) b [] past
    beyond Backward past = get_or_past (replicate BUCKETS []) b [] past

-- the opening state with this plan
abbrev pub with_plan : List Acquisition → CoreState
with_plan plan = record opening { incumbent = plan }

start_empty : (plan : List Acquisition) (e : End) (c : ℕ) → labels_in (with_plan plan) e c ≡ []
unfolding labels_in
start_empty plan Forward c = opening_empty Forward c
start_empty plan Backward c = opening_empty Backward c

can_publish : (I : Orbit) (plan : List Acquisition) → Feasible I plan → CanPublish I opening plan
can_publish I plan feasible = record { feasible = feasible; gains = omega (arith, gain_in-nil I) }

-- the core after the plan and the forward side, and after the backward one too
abbrev pub after_forward : Orbit → Trace → CoreState
after_forward I trace =
    last_state I (with_plan trace.plan.plan) (events_of_side I Forward (gain_of I trace.plan.plan) trace.forward.items)

abbrev pub after_both : Orbit → Trace → CoreState
after_both I trace = last_state I (after_forward I trace) (events_of_side I Backward (gain_of I trace.plan.plan) trace.backward.items)

-- What a trace of these sides leads to: the plan is published, and then come all buckets, which leave these labels and marks.
pub record TakesTrace (I : Orbit) (H : ℕ) (trace : Trace) : Type 0 where
  pub plan : CanPublish I opening trace.plan.plan
  pub forward : TakesSide I H Forward (gain_of I trace.plan.plan) 0 (with_plan trace.plan.plan) (after_forward I trace) trace.forward.items
  pub backward : TakesSide I H Backward (gain_of I trace.plan.plan) 0 (after_forward I trace) (after_both I trace) trace.backward.items
  pub few : count_of (after_both I trace) ≤ MAX_CORE_LABELS

pub takes-trace : (I : Orbit) (H : ℕ) (F B : Face) (trace : Trace) → F ≡ face_of I H Forward → B ≡ face_of I H Backward → IsTraceOf I F B trace
    → Feasible I trace.plan.plan → TakesTrace I H trace
takes-trace I H F B trace F_is B_is is feasible =
    let can : CanPublish I opening trace.plan.plan = can_publish I trace.plan.plan feasible in
    let orderly : IsOrderly I H (with_plan trace.plan.plan) =
    IsOrderly-after I H opening (Publish trace.plan.plan) can (IsOrderly-opening I H) in
    let empty : (e : End) (c : ℕ) → labels_in (with_plan trace.plan.plan) e c ≡ [] = start_empty trace.plan.plan in
    let fs : AreBucketsOf (face_of I H Forward) trace.forward.items =
    subst (λ (S : Face). AreBucketsOf S trace.forward.items) F_is is.forward in
    let bs : AreBucketsOf (face_of I H Backward) trace.backward.items =
    subst (λ (S : Face). AreBucketsOf S trace.backward.items) B_is is.backward in
    let none : count_of (with_plan trace.plan.plan) ≡ 0 = refl in
    let first : TakesSide I H Forward (gain_of I trace.plan.plan) 0 (with_plan trace.plan.plan) (after_forward I trace) trace.forward.items =
    taken-side I H Forward (gain_of I trace.plan.plan) 0 (with_plan trace.plan.plan) trace.forward.items
    (λ k b here. let on : k ≡ 0 + k = omega arith in subst (λ (n : ℕ). IsBucketAt (face_of I H Forward) n b) on (fs.each k b here)) (omega (arith, fs.count)) orderly refl
    (λ c past. empty Forward c) in
    let has : HasTakenSide I H Forward (with_plan trace.plan.plan) (after_forward I trace) 0 (length trace.forward.items) = first.has in
    let second : TakesSide I H Backward (gain_of I trace.plan.plan) 0 (after_forward I trace) (after_both I trace) trace.backward.items =
    taken-side I H Backward (gain_of I trace.plan.plan) 0 (after_forward I trace) trace.backward.items
    (λ k b here. let on : k ≡ 0 + k = omega arith in subst (λ (n : ℕ). IsBucketAt (face_of I H Backward) n b) on (bs.each k b here)) (omega (arith, bs.count)) has.orderly
    (ap (λ (plan : List Acquisition). gain_of I plan) (sym has.incumbent))
    (λ c past. has.others Backward c Forward≢Backward ∙ empty Backward c) in
    let then : HasTakenSide I H Backward (after_forward I trace) (after_both I trace) 0 (length trace.backward.items) = second.has in
    record { plan = can; forward = first; backward = second; few = omega (arith, none, has.count, fs.count, then.count, bs.count) }

-- its events are a legal run
pub legal-trace : (I : Orbit) (H : ℕ) (trace : Trace) → TakesTrace I H trace → IsLegalRun I H opening (trace_run I trace)
unfolding trace_run
legal-trace I H trace takes = (
  takes.plan,
  IsLegalRun-append I H (with_plan trace.plan.plan) (events_of_side I Forward (gain_of I trace.plan.plan) trace.forward.items)
      (events_of_side I Backward (gain_of I trace.plan.plan) trace.backward.items) takes.forward.legal takes.backward.legal,
)

-- and lead where the two sides do, one after the other
last-trace : (I : Orbit) (trace : Trace) → last_state I opening (trace_run I trace) ≡ after_both I trace
unfolding trace_run
last-trace I trace =
    last_state-append I (with_plan trace.plan.plan) (events_of_side I Forward (gain_of I trace.plan.plan) trace.forward.items)
    (events_of_side I Backward (gain_of I trace.plan.plan) trace.backward.items)

-- the backward side leaves the forward labels as they are
forward_stays : (I : Orbit) (H : ℕ) (trace : Trace) → TakesTrace I H trace → (after_both I trace).forward ≡ (after_forward I trace).forward
unfolding labels_in
forward_stays I H trace takes =
    let t : CoreState = after_both I trace in
    let u : CoreState = after_forward I trace in
    let then : HasTakenSide I H Backward (after_forward I trace) (after_both I trace) 0 (length trace.backward.items) = takes.backward.has in
    let before : HasTakenSide I H Forward (with_plan trace.plan.plan) (after_forward I trace) 0 (length trace.forward.items) = takes.forward.has in
    let size : length t.forward ≡ BUCKETS = then.orderly.size Forward in
    let size_before : length u.forward ≡ BUCKETS = before.orderly.size Forward in
    same_lists t.forward u.forward (size ∙ sym size_before)
    (λ k d below.
    let below_before : k < length u.forward = omega (arith, below, size, size_before) in
    get_or_default t.forward k d [] below ∙ then.others Forward k (λ same. Forward≢Backward (sym same))
    ∙ get_or_default u.forward k [] d below_before)

-- ---- the core that is made of what the two sides leave

module _ (I : Orbit) (F B : Face) (trace : Trace) (F_is : F ≡ face_of I F.cut Forward) (B_is : B ≡ face_of I F.cut Backward) (is : IsTraceOf I F B trace)
    (feasible : Feasible trace.plan.instance trace.plan.plan) where
  pub takes-given : TakesTrace I F.cut trace
  takes-given = takes-trace I F.cut F B trace F_is B_is is (subst (λ (J : Orbit). Feasible J trace.plan.plan) is.plan feasible)

  pub legal-given : IsLegalRun I F.cut opening (trace_run I trace)
  legal-given = legal-trace I F.cut trace takes-given

  module _ (gain : ℕ) (plan : List Acquisition) (first middle last : List Note) (f b : Sided) (gain_is : gain ≡ gain_of trace.plan.instance trace.plan.plan)
      (plan_is : plan ≡ trace.plan.plan) (first_is : first ≡ [])
      (f_is : f ≡ record { face = F; buckets = (settle_side F.instance Forward gain first trace.forward.items).buckets })
      (middle_is : middle ≡ (settle_side F.instance Forward gain first trace.forward.items).notes)
      (b_is : b ≡ record { face = B; buckets = (settle_side B.instance Backward gain middle trace.backward.items).buckets })
      (last_is : last ≡ (settle_side B.instance Backward gain middle trace.backward.items).notes) where
    gains : gain ≡ gain_of I trace.plan.plan
    gains = gain_is ∙ ap (λ (J : Orbit). gain_of J trace.plan.plan) is.plan

    forward_settled : settle_side F.instance Forward gain first trace.forward.items ≡ side_from Forward 0 (after_forward I trace)
    forward_settled =
        ap (λ (S : Face). settle_side S.instance Forward gain first trace.forward.items) F_is
        ∙ ap (λ (g : ℕ). settle_side I Forward g first trace.forward.items) gains
        ∙ ap (λ (notes : List Note). settle_side I Forward (gain_of I trace.plan.plan) notes trace.forward.items) first_is
        ∙ takes-given.forward.settled

    middle_there : middle ≡ (after_forward I trace).notes
    middle_there = middle_is ∙ ap (λ (q : SettledSide). q.notes) forward_settled

    backward_settled : settle_side B.instance Backward gain middle trace.backward.items ≡ side_from Backward 0 (after_both I trace)
    backward_settled =
        ap (λ (S : Face). settle_side S.instance Backward gain middle trace.backward.items) B_is
        ∙ ap (λ (g : ℕ). settle_side (facing I Backward) Backward g middle trace.backward.items) gains
        ∙ ap (λ (notes : List Note). settle_side (facing I Backward) Backward (gain_of I trace.plan.plan) notes trace.backward.items) middle_there
        ∙ takes-given.backward.settled

    f_there : f ≡ record { face = F; buckets = (after_both I trace).forward }
    f_there =
        f_is ∙ ap (λ (q : SettledSide). with_buckets F q.buckets) forward_settled
        ∙ ap (λ (bs : List (List Held)). with_buckets F bs) (sym (forward_stays I F.cut trace takes-given))
      where
        with_buckets : Face → List (List Held) → Sided
        with_buckets S bs = record { face = S; buckets = bs }

    b_there : b ≡ record { face = B; buckets = (after_both I trace).backward }
    b_there = b_is ∙ ap (λ (q : SettledSide). with_buckets B q.buckets) backward_settled
      where
        with_buckets : Face → List (List Held) → Sided
        with_buckets S bs = record { face = S; buckets = bs }

    last_there : last ≡ (after_both I trace).notes
    last_there = last_is ∙ ap (λ (q : SettledSide). q.notes) backward_settled

    plan_there : plan ≡ (after_both I trace).incumbent
    plan_there = plan_is ∙ sym (takes-given.backward.has.incumbent ∙ takes-given.forward.has.incumbent)

    -- it is the core that the trace leads to
    pub machine_is : machine_of I (record { forward = f; backward = b }) last plan ≡ machine_at I F.cut (last_state I opening (trace_run I trace))
    machine_is =
        ap (λ (g : Sided). machine_of I (record { forward = g; backward = b }) last plan) f_there
        ∙ ap (λ (g : Sided). made F.cut (after_both I trace).forward g.buckets last plan) b_there
        ∙ ap (λ (notes : List Note). made F.cut (after_both I trace).forward (after_both I trace).backward notes plan) last_there
        ∙ ap (λ (p : List Acquisition). made F.cut (after_both I trace).forward (after_both I trace).backward (after_both I trace).notes p) plan_there
        ∙ ap (λ (u : CoreState). machine_at I F.cut u) (sym (last-trace I trace))
      where
        made : ℕ → List (List Held) → List (List Held) → List Note → List Acquisition → Machine
        made H fs bs notes p =
            record { instance = I; cut = H; state = record { forward = fs; backward = bs; notes = notes; incumbent = p } }

    -- and it keeps what each core keeps
    pub IsCore-given : (labels : ℕ) → labels ≡ sum_by (λ ls. length ls) f.buckets + sum_by (λ ls. length ls) b.buckets
        → IsCore I (record { forward = f; backward = b }) last plan gain labels
    IsCore-given labels labels_is =
        let face : f.face ≡ F = ap (λ (g : Sided). g.face) f_there in
        let cut : F.cut ≡ f.face.cut = ap (λ (S : Face). S.cut) (sym face) in
        let state_is : (machine_of I (record { forward = f; backward = b }) last plan).state ≡ after_both I trace =
        ap (λ (m : Machine). m.state) machine_is ∙ last-trace I trace in
        let count : count_of (machine_of I (record { forward = f; backward = b }) last plan).state ≡ count_of (after_both I trace) =
        ap (λ (u : CoreState). count_of u) state_is in
        record {
          reached =
              subst (λ (m : Machine). IsReached m) (sym machine_is) (trace_run I trace, legal-given);
          forward = face ∙ F_is ∙ ap (λ (H : ℕ). face_of I H Forward) cut;
          backward = ap (λ (g : Sided). g.face) b_there ∙ B_is ∙ ap (λ (H : ℕ). face_of I H Backward) cut;
          gain_is = gains ∙ ap (λ (p : List Acquisition). gain_of I p) (sym plan_is);
          count_is = labels_is;
          few = omega (arith, labels_is, count, takes-given.few);
        }
