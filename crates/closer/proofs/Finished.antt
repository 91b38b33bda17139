-- What a search has at its end: the incumbent has earliest starts, the greatest pair was joined, and what can't gain more was cut.
use Rattle.std.proofs.Common.{◌≡◌, ℕ, ◌≤◌, List, sym, ◌∙◌, ap, subst, arith}
use Rattle.closer.proofs.AfterFading.{IsLivePath-before, IsExtended-after, IsAntichain-searching, count-fades}
use Rattle.closer.specs.Finishing.{HasNoBetterJoin, BoundsExceed, EndsAt, IsOpen, IsSpent}
use Rattle.closer.specs.Joining.{Replans}
use Rattle.closer.specs.Searching.{IsSearching}
use Rattle.closer.specs.declared.agenda.Agenda.{Agenda}
use Rattle.label_core.specs.Closed.{IsClosed}
use Rattle.label_core.specs.CoreState.{CoreState, IsLivePath}
use Rattle.label_core.specs.Events.{CanPublish}
use Rattle.label_core.specs.Machine.{Machine, count_of}
use Rattle.admission.proofs.CarefulSteps.{GoesCarefully-trans, instance-careful}
use Rattle.admission.proofs.Fading.{Fades-trans}
use Rattle.admission.specs.CarefulRuns.{GoesCarefully, GoesQuietly, IsExtended}
use Rattle.admission.specs.Antichains.{Fades}
use Rattle.strip_model.proofs.Orders.{Feasible-order, IsFeasibleOrder-order_of}
use Rattle.strip_model.proofs.Starts.{HasEarliestStarts-earliest, gain_of-earliest}
use Rattle.strip_model.specs.Join.{Joins, join_gain}
use Rattle.strip_model.specs.Orbit.{Orbit}
use Rattle.strip_model.specs.Plan.{Feasible, gain_of, order_of}
use Rattle.strip_model.specs.Starts.{Root, earliest, HasEarliestStarts, IsInTime}
use Rattle.strip_model.specs.declared.acquisition.Acquisition.{Acquisition}
use Rattle.strip_model.specs.declared.end.End.{End}
use Rattle.strip_model.specs.declared.end.End.TheVariants.{Forward, Backward}

-- each root and live label has all label paths that extend it by one in the list
abbrev pub IsWhole : Machine → Type 0
IsWhole m = (e : End) (path : List ℕ) → IsLivePath m.state e path → IsExtended m e path

-- where all is extended, and no pair gains more than the incumbent, the state is closed
pub IsClosed-whole : (m : Machine) → IsWhole m → HasNoBetterJoin m → IsClosed m.instance m.cut m.state
IsClosed-whole m whole joined = record { extended = λ e path y live is_path. whole e path live y is_path; joined = joined }

-- ---- where some labels live no more, and the plan is the same

module _ (m t : Machine) (fades : Fades m t) (plan : t.state.incumbent ≡ m.state.incumbent) where
  pub HasNoBetterJoin-after : HasNoBetterJoin m → HasNoBetterJoin t
  HasNoBetterJoin-after h f b f_lives b_lives =
      let before : Joins m.instance f b → join_gain m.instance f b ≤ gain_of m.instance m.state.incumbent =
      h f b (IsLivePath-before m t fades Forward f f_lives) (IsLivePath-before m t fades Backward b b_lives) in
      subst (λ (I : Orbit). Joins I f b → join_gain I f b ≤ gain_of I t.state.incumbent) (sym fades.instance)
      (subst (λ (p : List Acquisition). Joins m.instance f b → join_gain m.instance f b ≤ gain_of m.instance p) (sym plan) before)

  pub HasEarliestStarts-after : HasEarliestStarts m.instance m.state.incumbent → HasEarliestStarts t.instance t.state.incumbent
  HasEarliestStarts-after h =
      subst (λ (I : Orbit). HasEarliestStarts I t.state.incumbent) (sym fades.instance)
      (subst (λ (p : List Acquisition). HasEarliestStarts m.instance p) (sym plan) h)

pub IsWhole-after : (m t : Machine) → Fades m t → IsWhole m → IsWhole t
IsWhole-after m t fades h e path live = IsExtended-after m t fades e path (h e path (IsLivePath-before m t fades e path live))

-- ---- earliest starts

-- A feasible plan with earliest starts may be published: it is feasible, and gains the same.
pub CanPublish-earliest : (I : Orbit) (s : CoreState) (plan : List Acquisition) → Feasible I s.incumbent
    → plan ≡ earliest I Root (order_of s.incumbent) → CanPublish I s plan
CanPublish-earliest I s plan feasible is =
    let order : List ℕ = order_of s.incumbent in
    subst (λ (p : List Acquisition). CanPublish I s p) (sym is)
    (record {
      feasible = Feasible-order I order (IsFeasibleOrder-order_of I s.incumbent feasible);
      gains = omega (arith, gain_of-earliest I order);
    })

pub same_gain : (I : Orbit) (incumbent plan : List Acquisition) → plan ≡ earliest I Root (order_of incumbent)
    → gain_of I plan ≡ gain_of I incumbent
same_gain I incumbent plan is = ap (λ (p : List Acquisition). gain_of I p) is ∙ gain_of-earliest I (order_of incumbent)

pub IsInTime-feasible : (I : Orbit) (plan : List Acquisition) → Feasible I plan → IsInTime I (order_of plan)
IsInTime-feasible I plan feasible = (IsFeasibleOrder-order_of I plan feasible).in_time

pub HasEarliestStarts-is : (I : Orbit) (plan : List Acquisition) (order : List ℕ) → plan ≡ earliest I Root order → HasEarliestStarts I plan
HasEarliestStarts-is I plan order is = subst (λ (p : List Acquisition). HasEarliestStarts I p) (sym is) (HasEarliestStarts-earliest I order)

-- the instance stays the same
pub instance-explored : (budget : ℕ) (m opened explored : Machine) → GoesQuietly m opened → GoesCarefully budget opened explored
    → explored.instance ≡ m.instance
instance-explored budget m opened explored quiet careful =
    instance-careful budget opened careful.0 explored careful.1 ∙ instance-careful 0 m (quiet 0).0 opened (quiet 0).1

-- ---- from the first machine to the last: the search is opened, explored, planned at earliest starts, joined and swept

module _ (budget : ℕ) (m opened explored planned joined swept : Machine) (a : Agenda) (opens : GoesQuietly m opened)
    (explores : GoesCarefully budget opened explored) (plans : Replans explored planned)
    (earliest : HasEarliestStarts planned.instance planned.state.incumbent) (joins : Replans planned joined) (no_better : HasNoBetterJoin joined)
    (stays_earliest : HasEarliestStarts planned.instance planned.state.incumbent → HasEarliestStarts joined.instance joined.state.incumbent)
    (sweeps : GoesQuietly joined swept) (fades : Fades joined swept) (plan : swept.state.incumbent ≡ joined.state.incumbent)
    (searching : IsSearching swept a) (bounds : BoundsExceed swept) where
  no_better_swept : HasNoBetterJoin swept
  no_better_swept = HasNoBetterJoin-after joined swept fades plan no_better

  pub EndsAt-swept : EndsAt budget m swept
  unfolding no_better_swept
  EndsAt-swept = record {
    run =
        GoesCarefully-trans budget m opened swept (opens budget)
        (GoesCarefully-trans budget opened explored swept explores
        (GoesCarefully-trans budget explored planned swept (plans.quiet budget)
        (GoesCarefully-trans budget planned joined swept (joins.quiet budget) (sweeps budget))));
    rest = record {
      joined = no_better_swept;
      antichain = IsAntichain-searching swept a searching;
      bounds = bounds;
      earliest = HasEarliestStarts-after joined swept fades plan (stays_earliest earliest);
    };
  }

  fades_since : Fades explored swept
  fades_since = Fades-trans explored planned swept plans.fades (Fades-trans planned joined swept joins.fades fades)

  -- all was extended
  pub IsClosed-swept : IsWhole explored → IsClosed swept.instance swept.cut swept.state
  unfolding no_better_swept fades_since
  IsClosed-swept whole = IsClosed-whole swept (IsWhole-after explored swept fades_since whole) no_better_swept

  -- there was no room left
  pub still_spent : budget ≤ count_of explored.state → budget ≤ count_of swept.state
  unfolding fades_since
  still_spent spent = omega (arith, spent, count-fades explored swept fades_since)

  -- after a second look that changed nothing, all is extended
  pub IsClosed-again : (t : Machine) → t ≡ swept → IsWhole t → EndsAt budget m t × IsClosed t.instance t.cut t.state
  unfolding no_better_swept
  IsClosed-again t same whole = (
    subst (λ (u : Machine). EndsAt budget m u) (sym same) EndsAt-swept,
    IsClosed-whole t whole (subst (λ (u : Machine). HasNoBetterJoin u) (sym same) no_better_swept),
  )

  -- or an extension is missing
  pub IsSpent-again : (t : Machine) → t ≡ swept → IsOpen t → budget ≤ count_of t.state → EndsAt budget m t × IsSpent budget t
  IsSpent-again t same missing spent =
      (subst (λ (u : Machine). EndsAt budget m u) (sym same) EndsAt-swept, record { spent = spent; missing = missing })
