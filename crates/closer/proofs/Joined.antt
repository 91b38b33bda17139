-- The live labels of a side, bucket after bucket, and the plan of the pair that gains most.
use Rattle.std.proofs.Common.{◌≡◌, ℕ, suc, ◌+◌, ◌<◌, ◌≤◌, All, List, [], ◌∷◌, ◌++◌, Option, length, take, reverse, append_assoc, append-nil, length-append, refl, sym, ◌∙◌, ap, subst, inl, inr, arith}
use Rattle.std.proofs.lemmas.Bool.{cases_lt}
use Rattle.std.proofs.lemmas.List.Elements.{All-nil, All-cons, All-append, All-weaker, Contains-append_left, Contains-append_right, Contains-push}
use Rattle.std.proofs.lemmas.List.Sums.{sum_by-take-le, sum_by_more}
use Rattle.std.proofs.lemmas.Option.{slice_get-get_or}
use Rattle.std.specs.List.{sum_by}
use Rattle.label_list.specs.Labels.{Held}
use Rattle.bucket.specs.declared.id.Id.{Id}
use Rattle.bucket.specs.declared.limits.TheConstants.{BUCKETS}
use Rattle.closer.proofs.AfterFading.{IsLivePath-before}
use Rattle.closer.specs.Finishing.{HasNoBetterJoin}
use Rattle.closer.specs.Joining.{HasPath, HasAllLive, AddsLive, IsJoint, Replans}
use Rattle.closer.specs.declared.joining.Joint.{Joint}
use Rattle.joiner.specs.LabelJoins.{IsLabelAt}
use Rattle.joiner.specs.Pairs.{place_of, path_at, NoneAbove, IsGreatest, IsBest}
use Rattle.joiner.specs.declared.pair.Pair.{Pair}
use Rattle.label.specs.Labels as labels
use Rattle.label.specs.Labels.{IsLabelOf}
use Rattle.label.specs.declared.label.Label.{Label}
use Rattle.label_core.proofs.Lookups.{bucket_there}
use Rattle.label_core.proofs.SameIds.{Id_is}
use Rattle.label_core.specs.CoreState.{buckets_of, labels_in, path_of, IsLiveAt, IsLivePath}
use Rattle.label_core.specs.Events.{Publish}
use Rattle.label_core.specs.Machine.{Machine, IsReached, Can, stepped, count_of}
use Rattle.admission.proofs.CarefulSteps.{GoesQuietly-refl, GoesQuietly-publish, IsOrderly-reached}
use Rattle.admission.proofs.Fading as fading
use Rattle.admission.proofs.Fading.{Fades-refl, Keeps-publish}
use Rattle.strip_model.proofs.Orders.{IsFeasibleOrder-earliest}
use Rattle.strip_model.proofs.Starts.{HasEarliestStarts-earliest}
use Rattle.strip_model.specs.Join.{Joins, join_gain}
use Rattle.strip_model.specs.Orbit.{Orbit}
use Rattle.strip_model.specs.Plan.{Feasible, gain_of}
use Rattle.strip_model.specs.Side.{face_of}
use Rattle.strip_model.specs.Starts.{Root, earliest, HasEarliestStarts, IsInTime}
use Rattle.strip_model.specs.declared.acquisition.Acquisition.{Acquisition}
use Rattle.strip_model.specs.declared.end.End.{End}
use Rattle.strip_model.specs.declared.end.End.TheVariants.{Forward, Backward}

-- ---- the live labels of one bucket

HasPath-left : (xs ys : List Label) (path : List ℕ) → HasPath xs path → HasPath (xs ++ ys) path
HasPath-left xs ys path h = (h.0, Contains-append_left xs ys h.0 h.1, h.2)

HasPath-right : (xs ys : List Label) (path : List ℕ) → HasPath ys path → HasPath (xs ++ ys) path
HasPath-right xs ys path h = (h.0, Contains-append_right xs ys h.0 h.1, h.2)

module _ (m : Machine) (e : End) (b : ℕ) (before : List Label) where
  -- none was looked at
  pub AddsLive-none : AddsLive m e b 0 before before
  AddsLive-none = record {
    added = [];
    is = sym (append-nil before);
    all = λ id side here below live. absurd (omega (arith, below));
    each = All-nil (IsLabelOf (face_of m.instance m.cut e));
    few = omega arith;
  }

  -- the next lives no more
  pub AddsLive-skip : (n : ℕ) (later : List Label) → ¬ IsLiveAt m.state (record { end = e; bucket = b; index = n })
      → AddsLive m e b n before later → AddsLive m e b (n + 1) before later
  AddsLive-skip n later dead h = record {
    added = h.added;
    is = h.is;
    all =
        λ id side here below live. elim (cases_lt id.index n) [
          | inl earlier ↦ h.all id side here earlier live
          | inr last ↦
              absurd (dead (subst (λ (x : Id). IsLiveAt m.state x)
              (Id_is id (record { end = e; bucket = b; index = n }) side here (omega (arith, below, last))) live))
        ];
    each = h.each;
    few = omega (arith, h.few);
  }

  -- the next is added
  pub AddsLive-push : (n : ℕ) (later : List Label) (label : Label)
      → label.path.items ≡ path_of m.state (record { end = e; bucket = b; index = n }) → IsLabelOf (face_of m.instance m.cut e) label
      → AddsLive m e b n before later → AddsLive m e b (n + 1) before (later ++ label ∷ [])
  AddsLive-push n later label path of h = record {
    added = h.added ++ label ∷ [];
    is = ap (λ (xs : List Label). xs ++ label ∷ []) h.is ∙ append_assoc before h.added (label ∷ []);
    all =
        λ id side here below live. elim (cases_lt id.index n) [
          | inl earlier ↦ HasPath-left h.added (label ∷ []) (path_of m.state id) (h.all id side here earlier live)
          | inr last ↦ (
            label,
            Contains-push h.added label,
            path ∙ ap (λ (x : Id). path_of m.state x)
                (sym (Id_is id (record { end = e; bucket = b; index = n }) side here (omega (arith, below, last)))),
          )
        ];
    each =
        All-append (IsLabelOf (face_of m.instance m.cut e)) h.added (label ∷ []) h.each
        (All-cons (IsLabelOf (face_of m.instance m.cut e)) label [] of (All-nil (IsLabelOf (face_of m.instance m.cut e))));
    few = omega (arith, h.few, length-append h.added (label ∷ []));
  }

-- ---- the live labels of all buckets

-- how many labels there are in the buckets before this one
abbrev pub count_before : Machine → End → ℕ → ℕ
count_before m e b = sum_by (λ (held : List Held). length held) (take b (buckets_of m.state e))

-- the live labels of the buckets before this one are in the list, which has nothing else
pub record HasLiveBefore (m : Machine) (e : End) (b : ℕ) (list : List Label) : Type 0 where
  pub all : (id : Id) → id.end ≡ e → id.bucket < b → IsLiveAt m.state id → HasPath list (path_of m.state id)
  pub each : All (IsLabelOf (face_of m.instance m.cut e)) list
  pub few : length list ≤ count_before m e b

pub HasLiveBefore-none : (m : Machine) (e : End) → HasLiveBefore m e 0 []
HasLiveBefore-none m e = record {
  all = λ id side below live. absurd (omega (arith, below));
  each = All-nil (IsLabelOf (face_of m.instance m.cut e));
  few = omega arith;
}

pub HasLiveBefore-more : (m : Machine) (e : End) (b : ℕ) (list later : List Label) → IsReached m → b < BUCKETS → HasLiveBefore m e b list
    → AddsLive m e b (length (labels_in m.state e b)) list later → HasLiveBefore m e (b + 1) later
unfolding labels_in
HasLiveBefore-more m e b list later reached below h adds =
    let there : b < length (buckets_of m.state e) = omega (arith, below, (IsOrderly-reached m reached).size e) in
    let more : count_before m e (b + 1) ≡ count_before m e b + length (labels_in m.state e b) =
    sum_by_more (λ (held : List Held). length held) (buckets_of m.state e) b [] there in
    subst (λ (xs : List Label). HasLiveBefore m e (b + 1) xs) (sym adds.is)
    (record {
      all =
          λ id side within live. elim (cases_lt id.bucket b) [
            | inl earlier ↦ HasPath-left list adds.added (path_of m.state id) (h.all id side earlier live)
            | inr last ↦ HasPath-right list adds.added (path_of m.state id) (here id side (omega (arith, within, last)) live)
          ];
      each = All-append (IsLabelOf (face_of m.instance m.cut e)) list adds.added h.each adds.each;
      few = omega (arith, h.few, adds.few, more, length-append list adds.added);
    })
  where
    here : (id : Id) → id.end ≡ e → id.bucket ≡ b → IsLiveAt m.state id → HasPath adds.added (path_of m.state id)
    here id side at live =
        let size : length (labels_in m.state id.end id.bucket) ≡ length (labels_in m.state e b) =
        ap (λ (d : End). length (labels_in m.state d id.bucket)) side ∙ ap (λ (c : ℕ). length (labels_in m.state e c)) at in
        adds.all id side at (omega (arith, live.there, size)) live

-- where all buckets were looked at, all live labels are in the list
pub HasAllLive-before : (m : Machine) (e : End) (list : List Label) → IsReached m → HasLiveBefore m e BUCKETS list → HasAllLive m e list
HasAllLive-before m e list reached h id side live =
    h.all id side (omega (arith, bucket_there m.state id live.there, (IsOrderly-reached m reached).size id.end)) live

-- and it is no longer than all labels number
pub few_live : (m : Machine) (e : End) (b : ℕ) (list : List Label) → HasLiveBefore m e b list → length list ≤ count_of m.state
few_live m Forward b list h =
    omega (arith, h.few, sum_by-take-le (λ (held : List Held). length held) m.state.forward b)
few_live m Backward b list h =
    omega (arith, h.few, sum_by-take-le (λ (held : List Held). length held) m.state.backward b)

-- ---- the greatest pair

-- each live label or root of the side has a place
place_of_live : (m : Machine) (e : End) (list : List Label) → HasAllLive m e list → (path : List ℕ) → IsLivePath m.state e path
    → (i : ℕ) × (i ≤ length list) × (path_at list i ≡ path)
place_of_live m e list all path lives = elim lives [
  | inl root ↦ (0, omega arith, sym root)
  | inr named ↦
      let has : HasPath list (path_of m.state named.0) = all named.0 named.1 named.2 in (
        suc has.1.0,
        omega (arith, has.1.1),
        ap (λ (o : Option Label). labels.path_of o) (slice_get-get_or list has.1.0 has.0 has.1.1)
            ∙ ap (λ (l : Label). l.path.items) has.1.2
            ∙ has.2
            ∙ named.3,
      )
]

-- what no pair of places exceeds no two live labels or roots exceed
module _ (m : Machine) (fs bs : List Label) (forward : HasAllLive m Forward fs) (backward : HasAllLive m Backward bs) where
  pub live_bounded : (most : ℕ)
      → ((i j : ℕ) → i ≤ length fs → j ≤ length bs → Joins m.instance (path_at fs i) (path_at bs j) → join_gain m.instance (path_at fs i) (path_at bs j) ≤ most)
      → (f b : List ℕ) → IsLivePath m.state Forward f → IsLivePath m.state Backward b → Joins m.instance f b → join_gain m.instance f b ≤ most
  live_bounded most bounded f b f_lives b_lives =
      let i = place_of_live m Forward fs forward f f_lives in
      let j = place_of_live m Backward bs backward b b_lives in
      subst (λ (p : List ℕ). Joins m.instance p b → join_gain m.instance p b ≤ most) i.2
      (subst (λ (q : List ℕ). Joins m.instance (path_at fs i.0) q → join_gain m.instance (path_at fs i.0) q ≤ most) j.2
      (bounded i.0 j.0 i.1 j.1))

  pub HasNoBetterJoin-none : NoneAbove m.instance fs bs (gain_of m.instance m.state.incumbent) → HasNoBetterJoin m
  HasNoBetterJoin-none none = live_bounded (gain_of m.instance m.state.incumbent) (λ i j l k. none i l j k)

  pub IsJoint-greatest : (p : Pair) (joint : Joint) → IsGreatest m.instance fs bs (gain_of m.instance m.state.incumbent) p
      → joint.plan.items ≡ earliest m.instance Root (path_at fs (place_of p.forward) ++ reverse (path_at bs (place_of p.backward)))
      → joint.gain ≡ p.gain → IsJoint m joint
  IsJoint-greatest p joint h plan gain =
      let order : List ℕ = path_at fs (place_of p.forward) ++ reverse (path_at bs (place_of p.backward)) in
      let same : gain_of m.instance joint.plan.items ≡ p.gain =
      ap (λ (acquisitions : List Acquisition). gain_of m.instance acquisitions) plan ∙ sym h.pair.gains in
      record {
        can = record {
          feasible = subst (λ (acquisitions : List Acquisition). Feasible m.instance acquisitions) (sym plan) h.pair.joins;
          gains = omega (arith, h.above, same);
        };
        gain = gain ∙ sym same;
        greatest =
            live_bounded joint.gain (λ i j l k joins. omega (arith, gain, (h.greatest i j l k joins).no_less));
        earliest =
            subst (λ (acquisitions : List Acquisition). HasEarliestStarts m.instance acquisitions) (sym plan)
            (HasEarliestStarts-earliest m.instance order);
      }

-- an answer for lists and a side that are these
pub IsBest-same : (m : Machine) (I : Orbit) (xs fs ys bs : List Label) (floor : ℕ) (answer : Option Pair) → I ≡ m.instance → xs ≡ fs → ys ≡ bs
    → floor ≡ gain_of m.instance m.state.incumbent → IsBest I xs ys floor answer
    → IsBest m.instance fs bs (gain_of m.instance m.state.incumbent) answer
IsBest-same m I xs fs ys bs floor answer instance forward backward gain h =
    subst (λ (J : Orbit). IsBest J fs bs (gain_of m.instance m.state.incumbent) answer) instance
    (subst (λ (zs : List Label). IsBest I zs bs (gain_of m.instance m.state.incumbent) answer) forward
    (subst (λ (zs : List Label). IsBest I xs zs (gain_of m.instance m.state.incumbent) answer) backward
    (subst (λ (g : ℕ). IsBest I xs ys g answer) gain h)))

-- labels of the backward side, as a join asks for them
pub IsLabelAt-backward : (m : Machine) (I : Orbit) (xs bs : List Label) → I ≡ m.instance → xs ≡ bs
    → All (IsLabelOf (face_of m.instance m.cut Backward)) bs → All (IsLabelAt I Backward) xs
IsLabelAt-backward m I xs bs instance same h =
    subst (λ (J : Orbit). All (IsLabelAt J Backward) xs) (sym instance)
    (subst (λ (zs : List Label). All (IsLabelAt m.instance Backward) zs) (sym same)
    (All-weaker (IsLabelOf (face_of m.instance m.cut Backward)) (IsLabelAt m.instance Backward) (λ l of. (m.cut, of)) bs h))

-- a pair that joins is in time
pub IsInTime-joins : (I J : Orbit) (f b : List ℕ) (order : List ℕ) → J ≡ I → order ≡ f ++ reverse b → Joins I f b → IsInTime J order
IsInTime-joins I J f b order instance is joins =
    subst (λ (K : Orbit). IsInTime K order) (sym instance)
    (subst (λ (xs : List ℕ). IsInTime I xs) (sym is) (IsFeasibleOrder-earliest I (f ++ reverse b) joins).in_time)

-- ---- another plan

pub Replans-refl : (m : Machine) → Replans m m
Replans-refl m = record { quiet = GoesQuietly-refl m; fades = Fades-refl m; alive = λ id live. live }

pub Replans-publish : (m t : Machine) (plan : List Acquisition) → Can m (Publish plan) → t ≡ stepped m (Publish plan) → Replans m t
Replans-publish m t plan can is =
    let keeps : fading.Keeps m t = Keeps-publish m t plan is in
    record { quiet = GoesQuietly-publish m t plan can is; fades = keeps.fades; alive = keeps.alive }

-- the greatest pair was published
pub HasNoBetterJoin-published : (m t : Machine) (joint : Joint) → IsJoint m joint → t ≡ stepped m (Publish joint.plan.items) → HasNoBetterJoin t
HasNoBetterJoin-published m t joint h is =
    let keeps : fading.Keeps m (stepped m (Publish joint.plan.items)) = Keeps-publish m (stepped m (Publish joint.plan.items)) joint.plan.items refl in
    subst (λ (u : Machine). HasNoBetterJoin u) (sym is)
    (λ f b f_lives b_lives joins.
    omega (
      arith,
      h.gain,
      h.greatest f b (IsLivePath-before m (stepped m (Publish joint.plan.items)) keeps.fades Forward f f_lives)
          (IsLivePath-before m (stepped m (Publish joint.plan.items)) keeps.fades Backward b b_lives) joins,
    ))

pub HasEarliestStarts-published : (m t : Machine) (plan : List Acquisition) → HasEarliestStarts m.instance plan → t ≡ stepped m (Publish plan)
    → HasEarliestStarts t.instance t.state.incumbent
HasEarliestStarts-published m t plan h is = subst (λ (u : Machine). HasEarliestStarts u.instance u.state.incumbent) (sym is) h
