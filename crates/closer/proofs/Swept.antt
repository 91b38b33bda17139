-- Antichains of a side are pruned one after another.
use Rattle.std.proofs.Common.{◌≡◌, ◌≢◌, ℕ, ◌+◌, ◌*◌, ◌%◌, ◌<◌, ◌≤◌, true, All, List, [], ◌∷◌, length, get_or, set, get_or-set_same, get_or-set_other, refl, sym, ◌∙◌, ap, subst, inl, inr, arith}
use Rattle.std.proofs.lemmas.Bool.{cases_eq}
use Rattle.std.proofs.lemmas.List.Elements.{All-head, All-tail}
use Rattle.label_list.specs.Labels.{last_of}
use Rattle.bucket.specs.declared.id.Id.{Id}
use Rattle.bucket.specs.declared.limits.TheConstants.{BUCKETS}
use Rattle.closer.proofs.AfterFading.{IsSearching-after}
use Rattle.closer.specs.Finishing.{BoundsExceed}
use Rattle.closer.specs.Searching.{IsSearching}
use Rattle.closer.specs.Sweeping.{SweepsSide}
use Rattle.closer.specs.declared.agenda.Agenda.{Agenda}
use Rattle.label.specs.Outlines.{IsOutlineOf}
use Rattle.label_core.proofs.Orderly.{IsOrderly}
use Rattle.label_core.proofs.SameIds.{cases_end, Forward≢Backward}
use Rattle.label_core.specs.CoreState.{labels_in, path_of, IsLiveAt}
use Rattle.label_core.specs.Machine.{Machine, IsReached}
use Rattle.admission.proofs.CarefulSteps.{GoesQuietly-refl, GoesQuietly-trans, IsOrderly-reached}
use Rattle.admission.proofs.Fading.{Fades-refl, Fades-trans}
use Rattle.admission.proofs.AntichainOrder.{Belongs-live, id_at-is, last_of-below}
use Rattle.admission.proofs.AntichainSets.{HasAntichains-fades, HasAntichains-shrinks}
use Rattle.admission.specs.CarefulRuns.{GoesQuietly}
use Rattle.admission.specs.Antichains.{id_at, Belongs, IsAntichainAt, HasAntichains, Fades, Shrinks, members_of}
use Rattle.antichain.specs.Antichains.{ids_of}
use Rattle.antichain.specs.declared.member.Member.{Member}
use Rattle.strip_model.proofs.Words.{has_cons_cases}
use Rattle.strip_model.specs.Directed.{has}
use Rattle.strip_model.specs.Orbit.{Orbit}
use Rattle.strip_model.specs.Plan.{gain_of}
use Rattle.strip_model.specs.Reach.{bound}
use Rattle.strip_model.specs.Side.{facing, face_of}
use Rattle.strip_model.specs.declared.acquisition.Acquisition.{Acquisition}
use Rattle.strip_model.specs.declared.end.End.{End}
use Rattle.strip_model.specs.declared.end.End.TheVariants.{Forward, Backward}

-- the members' bounds exceed the gain
abbrev pub Exceed : ℕ → List Member → Type 0
Exceed gain members = All (λ (a : Member). gain < a.outline.bound) members

-- Some labels of the side are cut, so that the antichains have none left; in the first n antichains each bound exceeds the incumbent's
-- gain.
pub record SweepsAntichains (m t : Machine) (e : End) (n : ℕ) (antichains : List (List Member)) : Type 0 where
  pub quiet : GoesQuietly m t
  pub fades : Fades m t
  pub others : (id : Id) → id.end ≢ e → IsLiveAt m.state id → IsLiveAt t.state id
  pub plan : t.state.incumbent ≡ m.state.incumbent
  pub has_antichains : HasAntichains t e antichains
  pub exceed : (x : ℕ) → x < n → Exceed (gain_of t.instance t.state.incumbent) (get_or antichains x [])

pub SweepsAntichains-none : (m : Machine) (e : End) (antichains : List (List Member)) → HasAntichains m e antichains → SweepsAntichains m m e 0 antichains
SweepsAntichains-none m e antichains h = record {
  quiet = GoesQuietly-refl m;
  fades = Fades-refl m;
  others = λ id other live. live;
  plan = refl;
  has_antichains = h;
  exceed = λ x below. absurd (omega (arith, below));
}

-- one antichain more is pruned
pub SweepsAntichains-more : (m t u : Machine) (e : End) (x : ℕ) (antichains : List (List Member)) (members : List Member) → x < length antichains
    → SweepsAntichains m t e x antichains → GoesQuietly t u → Shrinks t u e x → u.state.incumbent ≡ t.state.incumbent
    → IsAntichainAt u e x (length (labels_in u.state e (x % BUCKETS))) members → Exceed (gain_of u.instance u.state.incumbent) members
    → SweepsAntichains m u e (x + 1) (set antichains x members)
SweepsAntichains-more m t u e x antichains members there h quiet shrinks plan antichain exceed = record {
  quiet = GoesQuietly-trans m t u h.quiet quiet;
  fades = Fades-trans m t u h.fades shrinks.fades;
  others = λ id other live. shrinks.others id (h.others id other live) (λ ends. other ends.side);
  plan = plan ∙ h.plan;
  has_antichains = HasAntichains-shrinks t u e x antichains members shrinks there antichain h.has_antichains;
  exceed =
      λ y below. elim (cases_eq y x) [
        | inl same ↦
            subst (λ (z : ℕ). Exceed (gain_of u.instance u.state.incumbent) (get_or (set antichains x members) z [])) (sym same)
            (subst (λ (ps : List Member). Exceed (gain_of u.instance u.state.incumbent) ps) (sym (get_or-set_same antichains x members [] there)) exceed)
        | inr other ↦
            subst (λ (ps : List Member). Exceed (gain_of u.instance u.state.incumbent) ps) (sym (get_or-set_other antichains x y members [] other))
            (subst (λ (g : ℕ). Exceed g (get_or antichains y [])) same_gain (h.exceed y (less y below other)))
      ];
}
  where
    same_gain : gain_of t.instance t.state.incumbent ≡ gain_of u.instance u.state.incumbent
    same_gain =
        ap (λ (p : List Acquisition). gain_of t.instance p) (sym plan)
        ∙ ap (λ I. gain_of I u.state.incumbent) (sym shrinks.fades.instance)

    less : (y : ℕ) → y < x + 1 → y ≢ x → y < x
    less y below other = omega (arith, below, other)

-- an id that stands in an antichain is that of a member
member_of : (members : List Member) (k : ℕ) → has k (ids_of members) ≡ true → (P : Member → Type 0) → All P members → (a : Member) × (a.id ≡ k) × P a
member_of [] k h P all = absurd cc
member_of (a ∷ members) k h P all = elim (has_cons_cases k a.id (ids_of members) h) [
  | inl same ↦ (a, sym same, All-head P a members all)
  | inr rest ↦ member_of members k rest P (All-tail P a members all)
]

-- an antichain for each directed strip, as there was before
pub antichains_still : (m t : Machine) (e : End) (n : ℕ) (before antichains : List (List Member)) → HasAntichains m e before → SweepsAntichains m t e n antichains
    → length antichains ≡ length before
antichains_still m t e n before antichains had h =
    h.has_antichains.size ∙ ap (λ (I : Orbit). 2 * length I.strips) h.fades.instance ∙ sym had.size

-- where all antichains are pruned, the bound of each live label of the side exceeds the gain
pub SweepsSide-whole : (m t : Machine) (e : End) (n : ℕ) (antichains : List (List Member)) → IsReached t → length antichains ≤ n → SweepsAntichains m t e n antichains
    → SweepsSide m t e
SweepsSide-whole m t e n antichains reached whole h = record {
  quiet = h.quiet;
  fades = h.fades;
  others = h.others;
  plan = h.plan;
  bounds = bounds;
}
  where
    o : IsOrderly t.instance t.cut t.state
    o = IsOrderly-reached t reached

    bounds : (id : Id) → id.end ≡ e → IsLiveAt t.state id → gain_of t.instance t.state.incumbent < bound (facing t.instance id.end) (path_of t.state id)
    bounds id side live =
        let x : ℕ = last_of (path_of t.state id) in
        let below : last_of (path_of t.state id) < length antichains =
        omega (arith, h.has_antichains.size, last_of-below t.instance t.cut id.end (path_of t.state id) (o.is_path id live.there)) in
        let antichain : IsAntichainAt t e x (length (labels_in t.state e (x % BUCKETS))) (get_or antichains x []) = h.has_antichains.antichain x below in
        let belongs : Belongs t.state e x id.index = Belongs-live t o e x id side refl live in
        let stands : has id.index (ids_of (get_or antichains x [])) ≡ true = antichain.complete id.index belongs.live.there belongs in
        let member = member_of (get_or antichains x []) id.index stands
        (λ (a : Member). (gain_of t.instance t.state.incumbent < a.outline.bound) × IsOutlineOf (face_of t.instance t.cut e) a.outline (path_of t.state (id_at e x a.id)))
        (λ k a within. (h.exceed x (omega (arith, below, whole)) k a within, (antichain.antichain.sound k a within).outline)) in
        let same : path_of t.state (id_at e x member.0.id) ≡ path_of t.state id =
        ap (λ (k : ℕ). path_of t.state (id_at e x k)) member.1 ∙ ap (λ (d : Id). path_of t.state d) (id_at-is t o e id side live.there) in
        let is : member.0.outline.bound ≡ bound (facing t.instance id.end) (path_of t.state id) =
        member.2.1.bound ∙ ap (λ (p : List ℕ). bound (facing t.instance e) p) same ∙ ap (λ (d : End). bound (facing t.instance d) (path_of t.state id)) (sym side) in
        omega (arith, member.2.0, is)

-- ---- first the forward side, then the backward one

module _ (m u t : Machine) (first : SweepsSide m u Forward) (second : SweepsSide u t Backward) where
  pub GoesQuietly-swept : GoesQuietly m t
  GoesQuietly-swept = GoesQuietly-trans m u t first.quiet second.quiet

  pub Fades-swept : Fades m t
  Fades-swept = Fades-trans m u t first.fades second.fades

  -- what was swept first stays so
  pub HasAntichains-swept : (antichains : List (List Member)) → HasAntichains u Forward antichains → HasAntichains t Forward antichains
  HasAntichains-swept antichains h =
      HasAntichains-fades u t Forward antichains second.fades
      (λ id side live. second.others id (λ other. Forward≢Backward (sym side ∙ other)) live) h

  pub IsSearching-swept : (a b : Agenda) → b.queue ≡ a.queue → HasAntichains u Forward (members_of b.forward.items) → HasAntichains t Backward (members_of b.backward.items)
      → IsSearching m a → IsSearching t b
  unfolding GoesQuietly-swept Fades-swept
  IsSearching-swept a b queue forward backward h =
      IsSearching-after m t a b Fades-swept GoesQuietly-swept queue (HasAntichains-swept (members_of b.forward.items) forward) backward h

  pub BoundsExceed-swept : BoundsExceed t
  BoundsExceed-swept id live = elim (cases_end id.end Backward) [
    | inl backward ↦ second.bounds id backward live
    | inr other ↦
        let before : gain_of u.instance u.state.incumbent < bound (facing u.instance id.end) (path_of u.state id) =
        first.bounds id (forward id.end other) (second.fades.live id live) in
        let bound_same : bound (facing t.instance id.end) (path_of t.state id) ≡ bound (facing u.instance id.end) (path_of u.state id) =
        ap (λ (p : List ℕ). bound (facing t.instance id.end) p) (second.fades.path id)
        ∙ ap (λ (I : Orbit). bound (facing I id.end) (path_of u.state id)) second.fades.instance in
        let gain_same : gain_of t.instance t.state.incumbent ≡ gain_of u.instance u.state.incumbent =
        ap (λ (p : List Acquisition). gain_of t.instance p) second.plan ∙ ap (λ (I : Orbit). gain_of I u.state.incumbent) second.fades.instance in
        omega (arith, before, bound_same, gain_same)
  ]
    where
      forward : (e : End) → e ≢ Backward → e ≡ Forward
      forward Forward other = refl
      forward Backward other = absurd (other refl)
