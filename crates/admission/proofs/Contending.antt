-- A new label contends for a place in its antichain.
use Rattle.std.proofs.Common.{◌≡◌, ℕ, ◌+◌, ◌≤◌, true, false, List, [], length, get_or, ◌==◌, refl, sym, ◌∙◌, ap, subst, inl, inr, arith}
use Rattle.std.proofs.lemmas.Bool.{cases_Bool, cases_lt}
use Rattle.std.specs.List.{All, IsDistinct}
use Rattle.admission.proofs.Admitting.{Inserted, Inserted-insert, Admits-shrinks, IsAntichainAt-admits}
use Rattle.admission.proofs.AntichainMembers.{IsAntichainAt-over, IsAntichainAt-skip, face-still, IsOutlineOf-still, beside_is, beside-itself}
use Rattle.admission.proofs.CarefulSteps.{GoesCarefully-inserted, GoesQuietly-retire, GoesQuietly-cut, IsOrderly-reached}
use Rattle.admission.proofs.Marked.{IsAntichainAt-left, has-at}
use Rattle.admission.proofs.Fading.{Dies, Dies-retire, Dies-cut, Shrinks-dies}
use Rattle.admission.specs.Antichains.{id_at, Belongs, IsAntichainAt, Shrinks, Admits}
use Rattle.admission.specs.CarefulRuns.{InsertsWithCare, GoesCarefully, GoesQuietly}
use Rattle.admission.specs.Clearing.{AreRetirable, Clears}
use Rattle.admission.specs.Contests.{last_at, beside, HasContended}
use Rattle.antichain.proofs.Changes.{gone-tells, kept-tells, has-inserted, has-inserted_new, has-inserted_old}
use Rattle.antichain.proofs.Parts.{distinct-gone, has-gone, has-kept}
use Rattle.antichain.specs.Antichains.{ids_of, IsMemberOf, IsAntichainOf, IsApartFrom, IsBeaten, IsUnbeaten, IsDominator, IsInserted, NoneDominates, TakesOut}
use Rattle.antichain.specs.declared.member.Member.{Member}
use Rattle.bucket.specs.Histories.{bucket_of}
use Rattle.bucket.specs.declared.id.Id.{Id}
use Rattle.label.specs.Outlines.{IsOutlineOf}
use Rattle.label.specs.declared.outline.Outline.{Outline}
use Rattle.label_core.proofs.Orderly.{IsOrderly}
use Rattle.label_core.specs.CoreState.{labels_in, path_of, IsLiveAt}
use Rattle.label_core.specs.Events.{InsertLabel, RetireLabel, CutLabel, CanRetire}
use Rattle.label_core.specs.Machine.{Machine, Can, stepped, new_id, IsReached}
use Rattle.label_list.specs.Labels.{last_of}
use Rattle.strip_model.specs.Directed.{has}
use Rattle.strip_model.specs.Dominance.{Dominates}
use Rattle.strip_model.specs.LabelPath.{LabelPath}
use Rattle.strip_model.specs.Orbit.{Orbit}
use Rattle.strip_model.specs.Plan.{gain_of}
use Rattle.strip_model.specs.Reach.{bound}
use Rattle.strip_model.specs.Side.{Face, facing, face_of}
use Rattle.strip_model.specs.declared.end.End.{End}

-- ---- the new label lives no more

pub HasContended-dies : (m t : Machine) (id : Id) (members : List Member) → IsOrderly m.instance m.cut m.state → GoesQuietly m t → Dies m t id
    → t.state.incumbent ≡ m.state.incumbent → IsAntichainAt m id.end (last_at m id) id.index members → HasContended m t id members
HasContended-dies m t id members o quiet dies plan h =
    let itself : beside m id id.index ≡ id = beside-itself m id o dies.lived.there in
    let still : IsAntichainAt t id.end (last_at m id) id.index members =
    IsAntichainAt-over m t id.end (last_at m id) id.index members dies.fades.instance dies.fades.cut h.antichain h.below h.sound
    (λ k i. dies.fades.path (beside m id k))
    (λ k i. dies.others (beside m id k) (λ same. omega (arith, h.below k i, ap (λ (y : Id). y.index) same)) (h.sound k i).live)
    (λ k l b. h.complete k l (record {
      live = dies.fades.live (beside m id k) b.live;
      ends = sym (ap (λ (p : List ℕ). last_of p) (dies.fades.path (beside m id k))) ∙ b.ends;
    })) in
    record {
      quiet = quiet;
      shrinks = Shrinks-dies m t id.end (last_at m id) id dies (record { side = refl; last = refl });
      plan = plan;
      antichain =
          IsAntichainAt-skip t id.end (last_at m id) id.index members (λ b. dies.dead (subst (λ (y : Id). IsLiveAt t.state y) itself b.live)) still;
    }

-- a member that dominates it retires it
pub CanRetire-by : (m : Machine) (id : Id) (members : List Member) (by : ℕ) → IsReached m → IsLiveAt m.state id
    → IsAntichainAt m id.end (last_at m id) id.index members
    → IsDominator (facing m.instance id.end) (λ k. path_of m.state (beside m id k)) members (path_of m.state id) by
    → CanRetire m.instance m.state id (record { end = id.end; bucket = id.bucket; index = by })
CanRetire-by m id members by reached live h dominator =
    subst (λ (x : Id). CanRetire m.instance m.state id x) (sym (beside_is m id by (IsOrderly-reached m reached) live.there))
    (record {
      live = live;
      by_live = (h.sound by dominator.there).live;
      one_side = refl;
      differ = λ same. omega (arith, h.below by dominator.there, ap (λ (y : Id). y.index) same);
      dominated = dominator.dominates;
    })

pub HasContended-retired : (m t : Machine) (id by : Id) (members : List Member) → IsReached m → Can m (RetireLabel id by)
    → t ≡ stepped m (RetireLabel id by) → IsAntichainAt m id.end (last_at m id) id.index members → HasContended m t id members
HasContended-retired m t id by members reached can step h =
    HasContended-dies m t id members (IsOrderly-reached m reached) (GoesQuietly-retire m t id by can step) (Dies-retire m t id by can step)
    (ap (λ (v : Machine). v.state.incumbent) step) h

-- it is cut
pub HasContended-cut : (m t : Machine) (id : Id) (members : List Member) → IsReached m → Can m (CutLabel id)
    → t ≡ stepped m (CutLabel id) → IsAntichainAt m id.end (last_at m id) id.index members → HasContended m t id members
HasContended-cut m t id members reached can step h =
    HasContended-dies m t id members (IsOrderly-reached m reached) (GoesQuietly-cut m t id can step) (Dies-cut m t id can step)
    (ap (λ (v : Machine). v.state.incumbent) step) h

-- ---- what is told of outlines holds of the label and the members

pub told_at : (Q : Face → (ℕ → List ℕ) → List ℕ → Type 0) (m : Machine) (id : Id) (members : List Member) (S : Face) (outline : Outline)
    → IsReached m → IsLiveAt m.state id → IsOutlineOf (face_of m.instance m.cut id.end) outline (path_of m.state id)
    → IsAntichainAt m id.end (last_at m id) id.index members → S ≡ face_of m.instance m.cut id.end
    → ((path_at : ℕ → List ℕ) (path : List ℕ) → All (IsMemberOf S path_at) members → LabelPath S path → IsOutlineOf S outline path → Q S path_at path)
    → Q (face_of m.instance m.cut id.end) (λ k. path_of m.state (beside m id k)) (path_of m.state id)
told_at Q m id members S outline reached live is h side tells =
    subst
    (λ (T : Face).
    ((path_at : ℕ → List ℕ) (path : List ℕ) → All (IsMemberOf T path_at) members → LabelPath T path → IsOutlineOf T outline path → Q T path_at path)
    → Q (face_of m.instance m.cut id.end) (λ k. path_of m.state (beside m id k)) (path_of m.state id))
    (sym side)
    (λ f. f (λ k. path_of m.state (beside m id k)) (path_of m.state id) h.antichain.sound ((IsOrderly-reached m reached).is_path id live.there) is) tells

-- ---- the new label joins the others

-- the members that it dominates were taken out
abbrev pub TakesBeaten : Machine → Id → List Member → List Member → List ℕ → Type 0
TakesBeaten m id old rest ids =
    TakesOut (IsBeaten (facing m.instance id.end) (λ k. path_of m.state (beside m id k)) (path_of m.state id))
    (IsUnbeaten (facing m.instance id.end) (λ k. path_of m.state (beside m id k)) (path_of m.state id)) old rest [] ids

-- those that the outline tells were taken out
pub TakesBeaten-told : (m : Machine) (id : Id) (old now rest : List Member) (empty ids : List ℕ) (S : Face) (outline : Outline) → IsReached m
    → IsLiveAt m.state id → IsOutlineOf (face_of m.instance m.cut id.end) outline (path_of m.state id)
    → IsAntichainAt m id.end (last_at m id) id.index old → S ≡ face_of m.instance m.cut id.end → now ≡ old → empty ≡ []
    → ((path_at : ℕ → List ℕ) (path : List ℕ) → All (IsMemberOf S path_at) now → LabelPath S path → IsOutlineOf S outline path
    → TakesOut (IsBeaten S.instance path_at path) (IsUnbeaten S.instance path_at path) now rest empty ids)
    → TakesBeaten m id old rest ids
TakesBeaten-told m id old now rest empty ids S outline reached live is h side same none tells =
    let here : TakesOut (IsBeaten (facing m.instance id.end) (λ k. path_of m.state (beside m id k)) (path_of m.state id))
    (IsUnbeaten (facing m.instance id.end) (λ k. path_of m.state (beside m id k)) (path_of m.state id)) now rest empty ids =
    told_at
    (λ (T : Face) (path_at : ℕ → List ℕ) (path : List ℕ).
    TakesOut (IsBeaten T.instance path_at path) (IsUnbeaten T.instance path_at path) now rest empty ids)
    m id now S outline reached live is
    (subst (λ (ps : List Member). IsAntichainAt m id.end (last_at m id) id.index ps) (sym same) h) side tells in
    subst (λ (ps : List Member). TakesBeaten m id ps rest ids) same
    (subst
    (λ (xs : List ℕ).
    TakesOut (IsBeaten (facing m.instance id.end) (λ k. path_of m.state (beside m id k)) (path_of m.state id))
    (IsUnbeaten (facing m.instance id.end) (λ k. path_of m.state (beside m id k)) (path_of m.state id)) now rest xs ids)
    none here)

module _ (m : Machine) (id : Id) (old rest : List Member) (ids : List ℕ) (reached : IsReached m) (live : IsLiveAt m.state id)
    (h : IsAntichainAt m id.end (last_at m id) id.index old) (out : TakesBeaten m id old rest ids) where
  abbrev Beaten : ℕ → Type 0
  Beaten k = Dominates (facing m.instance id.end) (path_of m.state id) (path_of m.state (beside m id k))

  -- the ids that were added are theirs
  stood : (k : ℕ) → has k ids ≡ true → has k (ids_of out.gone) ≡ true
  stood k i = subst (λ (xs : List ℕ). has k xs ≡ true) out.added i

  was : (k : ℕ) → has k ids ≡ true → has k (ids_of old) ≡ true
  unfolding stood
  was k i =
      has-gone (IsBeaten (facing m.instance id.end) (λ k. path_of m.state (beside m id k)) (path_of m.state id))
      (IsUnbeaten (facing m.instance id.end) (λ k. path_of m.state (beside m id k)) (path_of m.state id)) k out.parted (stood k i)

  pub AreRetirable-beaten : AreRetirable m id ids
  unfolding was stood
  AreRetirable-beaten = record {
    reached = reached;
    lives = live;
    distinct =
        subst (λ (xs : List ℕ). IsDistinct (λ j k. j == k) xs) (sym out.added)
        (distinct-gone (IsBeaten (facing m.instance id.end) (λ k. path_of m.state (beside m id k)) (path_of m.state id))
        (IsUnbeaten (facing m.instance id.end) (λ k. path_of m.state (beside m id k)) (path_of m.state id)) out.parted h.antichain.distinct);
    below = λ k i. h.below k (was k i);
    belong = λ k i. h.sound k (was k i);
    beaten = λ k i. gone-tells (λ k. Beaten k) (λ k. ¬ Beaten k) k out.parted (stood k i);
  }

  -- none of them is left
  none_left : (k : ℕ) → has k (ids_of out.gone) ≡ true → has k (ids_of rest) ≡ true → ⊥
  none_left k i stays =
      kept-tells (λ k. Beaten k) (λ k. ¬ Beaten k) k out.parted stays (gone-tells (λ k. Beaten k) (λ k. ¬ Beaten k) k out.parted i)

  module _ (t : Machine) (clears : Clears m t id.end (last_at m id) ids (length ids)) where
    cleared : Clears m t id.end (last_at m id) (ids_of out.gone) (length (ids_of out.gone))
    cleared = subst (λ (xs : List ℕ). Clears m t id.end (last_at m id) xs (length xs)) out.added clears

    left : IsAntichainAt t id.end (last_at m id) id.index rest
    unfolding none_left cleared
    left =
        IsAntichainAt-left (IsBeaten (facing m.instance id.end) (λ k. path_of m.state (beside m id k)) (path_of m.state id))
        (IsUnbeaten (facing m.instance id.end) (λ k. path_of m.state (beside m id k)) (path_of m.state id)) m t id.end (last_at m id) id.index
        old out.gone rest out.parted none_left cleared h

    own_name : beside m id id.index ≡ id
    own_name = beside-itself m id (IsOrderly-reached m reached) live.there

    -- it lives on
    pub lives_on : IsLiveAt t.state id
    unfolding was
    lives_on =
        clears.others id live
        (λ j l same. omega (arith, h.below (get_or ids j 0) (was (get_or ids j 0) (has-at ids j l)), ap (λ (y : Id). y.index) same))

    -- the label can come in among them
    module _ (outline : Outline) (is : IsOutlineOf (face_of m.instance m.cut id.end) outline (path_of m.state id))
        (unbeaten : NoneDominates (facing m.instance id.end) (λ k. path_of m.state (beside m id k)) old (path_of m.state id)) where
      own_path : path_of t.state (beside m id id.index) ≡ path_of m.state id
      unfolding own_name
      own_path = clears.shrinks.fades.path (beside m id id.index) ∙ ap (λ (y : Id). path_of m.state y) own_name

      IsMemberOf-own : IsMemberOf (face_of t.instance t.cut id.end) (λ k. path_of t.state (beside m id k)) (record { id = id.index; outline = outline })
      unfolding own_path
      IsMemberOf-own =
          subst (λ (S : Face). IsMemberOf S (λ k. path_of t.state (beside m id k)) (record { id = id.index; outline = outline }))
          (face-still m t clears.shrinks.fades.instance clears.shrinks.fades.cut id.end)
          (record {
            path = subst (λ (p : List ℕ). LabelPath (face_of m.instance m.cut id.end) p) (sym own_path) ((IsOrderly-reached m reached).is_path id live.there);
            outline = subst (λ (p : List ℕ). IsOutlineOf (face_of m.instance m.cut id.end) outline p) (sym own_path) is;
          })

      belongs : Belongs t.state id.end (last_at m id) id.index
      unfolding own_path own_name
      belongs = record {
        live = subst (λ (y : Id). IsLiveAt t.state y) (sym own_name) lives_on;
        ends = ap (λ (p : List ℕ). last_of p) own_path;
      }

      absent : has id.index (ids_of rest) ≡ false
      unfolding left
      absent = elim (cases_Bool (has id.index (ids_of rest))) [
        | inl there ↦ absurd (omega (arith, left.below id.index there))
        | inr none ↦ none
      ]

      -- what dominates on the machine then did so before
      before : (b a c d : List ℕ) → b ≡ c → a ≡ d → Dominates (facing t.instance id.end) b a → Dominates (facing m.instance id.end) c d
      before b a c d b_is a_is dominates =
          subst (λ (p : List ℕ). Dominates (facing m.instance id.end) p d) b_is
          (subst (λ (p : List ℕ). Dominates (facing m.instance id.end) b p) a_is
          (subst (λ (I : Orbit). Dominates (facing I id.end) b a) clears.shrinks.fades.instance dominates))

      apart : IsApartFrom (facing t.instance id.end) (λ k. path_of t.state (beside m id k)) rest id.index
      unfolding own_path before
      apart k i = (
        λ dominates.
            unbeaten k
            (has-kept (IsBeaten (facing m.instance id.end) (λ k. path_of m.state (beside m id k)) (path_of m.state id))
            (IsUnbeaten (facing m.instance id.end) (λ k. path_of m.state (beside m id k)) (path_of m.state id)) k out.parted i)
            (before (path_of t.state (beside m id k)) (path_of t.state (beside m id id.index)) (path_of m.state (beside m id k)) (path_of m.state id)
            (clears.shrinks.fades.path (beside m id k)) own_path dominates),
        λ dominates.
            kept-tells (λ k. Beaten k) (λ k. ¬ Beaten k) k out.parted i
            (before (path_of t.state (beside m id id.index)) (path_of t.state (beside m id k)) (path_of m.state id) (path_of m.state (beside m id k)) own_path
            (clears.shrinks.fades.path (beside m id k)) dominates),
      )

      pub HasContended-joined : (more : List Member) → IsInserted (record { id = id.index; outline = outline }) rest more
          → ((S : Face) (path_at : ℕ → List ℕ) → IsAntichainOf S path_at rest → IsMemberOf S path_at (record { id = id.index; outline = outline })
          → has id.index (ids_of rest) ≡ false → IsApartFrom S.instance path_at rest id.index → IsAntichainOf S path_at more)
          → HasContended m t id more
      unfolding left IsMemberOf-own belongs absent apart
      HasContended-joined more in' kept =
          record {
            quiet = clears.quiet;
            shrinks = clears.shrinks;
            plan = clears.plan;
            antichain = record {
              below =
                  λ k i. elim (has-inserted (record { id = id.index; outline = outline }) rest more in' k i) [
                    | inl own ↦ omega (arith, own)
                    | inr old_one ↦ omega (arith, left.below k old_one)
                  ];
              sound =
                  λ k i. elim (has-inserted (record { id = id.index; outline = outline }) rest more in' k i) [
                    | inl own ↦ subst (λ (j : ℕ). Belongs t.state id.end (last_at m id) j) (sym own) belongs
                    | inr old_one ↦ left.sound k old_one
                  ];
              complete =
                  λ k l b. elim (cases_lt k id.index) [
                    | inl below ↦ has-inserted_old (record { id = id.index; outline = outline }) rest more in' k (left.complete k below b)
                    | inr past ↦
                        let last : id.index ≡ k = omega (arith, l, past) in
                        subst (λ (j : ℕ). has j (ids_of more) ≡ true) last (has-inserted_new (record { id = id.index; outline = outline }) rest more in')
                  ];
              antichain = kept (face_of t.instance t.cut id.end) (λ k. path_of t.state (beside m id k)) left.antichain IsMemberOf-own absent apart;
            };
          }

-- ---- a label is inserted, and contends

module _ (m t u : Machine) (e : End) (path : List ℕ) (inserted : Inserted m t e path) where
  -- the antichain that it enters
  pub IsAntichainAt-entered : (members : List Member) → IsAntichainAt m e (last_of path) (length (labels_in m.state e (bucket_of path))) members
      → IsAntichainAt t e (last_at t (new_id m.state e path)) (length (labels_in m.state e (bucket_of path))) members
  IsAntichainAt-entered members h =
      subst (λ (x : ℕ). IsAntichainAt t e x (length (labels_in m.state e (bucket_of path))) members)
      (sym (ap (λ (p : List ℕ). last_of p) inserted.admits.new_path))
      (IsAntichainAt-admits m t e path e (last_of path) (length (labels_in m.state e (bucket_of path))) members inserted.admits (omega arith)
      (λ k b. inserted.alive (id_at e (last_of path) k) b.live) h)

  pub Admits-contended : (members : List Member) → HasContended t u (new_id m.state e path) members → Admits m u e path
  Admits-contended members h =
      Admits-shrinks m t u e path inserted.admits
      (subst (λ (x : ℕ). Shrinks t u e x) (ap (λ (p : List ℕ). last_of p) inserted.admits.new_path) h.shrinks)

  pub GoesCarefully-contended : (members : List Member) → Can m (InsertLabel e path) → t ≡ stepped m (InsertLabel e path)
      → HasContended t u (new_id m.state e path) members → (budget : ℕ) → InsertsWithCare budget m e path → GoesCarefully budget m u
  GoesCarefully-contended members can step h budget care = GoesCarefully-inserted budget m t u e path can care step h.quiet

  pub IsAntichainAt-contended : (members : List Member) → HasContended t u (new_id m.state e path) members
      → IsAntichainAt u e (last_of path) (length (labels_in u.state e (bucket_of path))) members
  IsAntichainAt-contended members h =
      let more : length (labels_in m.state e (bucket_of path)) + 1 ≡ length (labels_in u.state e (bucket_of path)) =
      sym (h.shrinks.fades.len e (bucket_of path) ∙ inserted.admits.len_here) in
      subst (λ (n : ℕ). IsAntichainAt u e (last_of path) n members) more
      (subst (λ (x : ℕ). IsAntichainAt u e x (length (labels_in m.state e (bucket_of path)) + 1) members)
      (ap (λ (p : List ℕ). last_of p) inserted.admits.new_path) h.antichain)

-- ---- as the code names it

module _ (m t : Machine) (e : End) (path : List ℕ) (id : Id) (is : id ≡ new_id m.state e path) (reached : IsReached m)
    (step : t ≡ stepped m (InsertLabel e path)) where
  entered : Inserted m t e path
  entered = Inserted-insert m t e path (IsOrderly-reached m reached) step

  pub lives_entered : IsLiveAt t.state id
  unfolding entered
  lives_entered = subst (λ (x : Id). IsLiveAt t.state x) (sym is) entered.new_lives

  pub path_entered : path_of t.state id ≡ path
  unfolding entered
  path_entered = ap (λ (x : Id). path_of t.state x) is ∙ entered.admits.new_path

  -- its bound is at most the gain where it was before
  pub low_entered : bound (facing m.instance e) path ≤ gain_of m.instance m.state.incumbent
      → bound (facing t.instance id.end) (path_of t.state id) ≤ gain_of t.instance t.state.incumbent
  low_entered low =
      omega (
        arith,
        low,
        ap (λ (p : List ℕ). bound (facing t.instance id.end) p) path_entered,
        ap (λ (x : Id). bound (facing t.instance x.end) path) is,
        ap (λ (v : Machine). bound (facing v.instance e) path) step,
        ap (λ (v : Machine). gain_of v.instance v.state.incumbent) step,
      )

  pub outline_entered : (S : Face) (outline : Outline) → S ≡ face_of m.instance m.cut id.end → IsOutlineOf S outline path
      → IsOutlineOf (face_of t.instance t.cut id.end) outline (path_of t.state id)
  unfolding entered
  outline_entered S outline side h =
      let path_is : path_of t.state id ≡ path = ap (λ (x : Id). path_of t.state x) is ∙ entered.admits.new_path in
      IsOutlineOf-still m t entered.admits.instance entered.admits.cut id.end outline (path_of t.state id)
      (subst (λ (p : List ℕ). IsOutlineOf (face_of m.instance m.cut id.end) outline p) (sym path_is)
      (subst (λ (T : Face). IsOutlineOf T outline path) side h))

  pub antichain_entered : (members : List Member) → IsAntichainAt m e (last_of path) (length (labels_in m.state e (bucket_of path))) members
      → IsAntichainAt t id.end (last_at t id) id.index members
  unfolding entered
  antichain_entered members h =
      subst (λ (x : Id). IsAntichainAt t x.end (last_at t x) x.index members) (sym is) (IsAntichainAt-entered m t t e path entered members h)

  module _ (u : Machine) (members : List Member) (h : HasContended t u id members) where
    contended : HasContended t u (new_id m.state e path) members
    contended = subst (λ (x : Id). HasContended t u x members) is h

    pub run_admitted : Can m (InsertLabel e path) → (budget : ℕ) → InsertsWithCare budget m e path → GoesCarefully budget m u
    unfolding entered contended
    run_admitted can = GoesCarefully-contended m t u e path entered members can step contended

    pub admits_admitted : Admits m u e path
    unfolding entered contended
    admits_admitted = Admits-contended m t u e path entered members contended

    pub antichain_admitted : IsAntichainAt u e (last_of path) (length (labels_in u.state e (bucket_of path))) members
    unfolding entered contended
    antichain_admitted = IsAntichainAt-contended m t u e path entered members contended
