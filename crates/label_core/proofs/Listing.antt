-- Whether a path is listed, and what may come next.
use Rattle.std.proofs.Common.{◌≡◌, ◌↔◌, Option, Some, None, Result, Ok, Err, IfOk, IfSome, IsSome, MatchOption, Vec, Global, reverse, ◌++◌, true≢false, ℕ, ◌≤◌, List, refl, sym, ◌∙◌, ap, subst}
use Rattle.std.specs.declared.alloc.AllocError.{AllocError}
use Rattle.bucket.specs.Histories.{bucket_of}
use Rattle.bucket.specs.declared.id.Id.{Id}
use Rattle.label.specs.Labels.{IsLabelOf, IsLabelWith}
use Rattle.label.specs.declared.label.Label.{Label}
use Rattle.label_core.proofs.Cores.{there_on, there_from, path_from, IsOrderly-reached}
use Rattle.label_core.specs.CoreState.{Note, IsListed}
use Rattle.label_core.specs.Events.{InsertLabel, Publish, JoinLabels, joining_path}
use Rattle.label_core.specs.BothSides.{labels_on, machine_of}
use Rattle.label_core.specs.Machine.{Machine, Can, stepped, IsReached}
use Rattle.label_core.specs.SideLists.{HasPath}
use Rattle.label_core.specs.declared.both_sides.BothSides.{BothSides}
use Rattle.strip_model.proofs.Orders.{IsFeasibleOrder-earliest}
use Rattle.strip_model.specs.Starts.{Root, earliest, IsInTime}
use Rattle.strip_model.specs.Join.{joined_plan, Joins}
use Rattle.strip_model.specs.LabelPath.{LabelPath}
use Rattle.strip_model.specs.Orbit.{Orbit}
use Rattle.strip_model.specs.Plan.{Feasible, gain_of}
use Rattle.strip_model.specs.Side.{face_of}
use Rattle.strip_model.specs.declared.acquisition.Acquisition.{Acquisition}
use Rattle.strip_model.specs.declared.end.End.{End}

-- ---- a path is listed exactly where a label of its bucket has it

module _ (I : Orbit) (h : BothSides) (notes : List Note) (plan : List Acquisition) (m : Machine) (view : machine_of I h notes plan ≡ m) where
  pub listed_from : (e : End) (path : List ℕ) → HasPath (labels_on h e (bucket_of path)) path → IsListed m.state e path
  listed_from e path (k, below, same) =
      let id : Id = record { end = e; bucket = bucket_of path; index = k } in (
        record { end = e; bucket = bucket_of path; index = k },
        refl,
        there_from I h notes plan m view (record { end = e; bucket = bucket_of path; index = k }) below,
        sym (path_from I h notes plan m view (record { end = e; bucket = bucket_of path; index = k })) ∙ same,
      )

  pub listed_on : IsReached m → (e : End) (path : List ℕ) → IsListed m.state e path → HasPath (labels_on h e (bucket_of path)) path
  listed_on reached e path (id, side, there, same) =
      let bucket : id.bucket ≡ bucket_of path = sym ((IsOrderly-reached m reached).placed id there) ∙ ap (λ (p : List ℕ). bucket_of p) same in
      let here : HasPath (labels_on h id.end id.bucket) path =
      (id.index, there_on I h notes plan m view id there, path_from I h notes plan m view id ∙ same) in
      subst (λ (f : End). HasPath (labels_on h f (bucket_of path)) path) side
      (subst (λ (b : ℕ). HasPath (labels_on h id.end b) path) bucket here)

-- ---- a new label

pub can_insert : (m : Machine) (e : End) (path : List ℕ) (label : Label) → IsLabelWith (face_of m.instance m.cut e) path label
    → (IsListed m.state label.end label.path.items → ⊥) → Can m (InsertLabel label.end label.path.items)
can_insert m e path label is new = record {
  is_path = subst (λ (f : End). LabelPath (face_of m.instance m.cut f) label.path.items) (sym is.1.side) is.1.path;
  is_new = new;
}

pub label_here : (m : Machine) (e : End) (path : List ℕ) (label : Label) → IsLabelWith (face_of m.instance m.cut e) path label
    → IsLabelOf (face_of m.instance m.cut label.end) label
label_here m e path label is = subst (λ (f : End). IsLabelOf (face_of m.instance m.cut f) label) (sym is.1.side) is.1

-- the event of the label is that of the path
pub insert_event : (m : Machine) (e : End) (path : List ℕ) (label : Label) → IsLabelWith (face_of m.instance m.cut e) path label
    → InsertLabel label.end label.path.items ≡ InsertLabel e path
insert_event m e path label is =
    ap (λ (f : End). InsertLabel f label.path.items) is.1.side ∙ ap (λ (p : List ℕ). InsertLabel e p) is.0

pub listed_here : (m : Machine) (e : End) (path : List ℕ) (label : Label) → IsLabelWith (face_of m.instance m.cut e) path label
    → IsListed m.state label.end label.path.items → IsListed m.state e path
listed_here m e path label is listed =
    subst (λ (f : End). IsListed m.state f path) is.1.side (subst (λ (p : List ℕ). IsListed m.state label.end p) is.0 listed)

-- ---- two labels joined

pub can_publish : (m : Machine) (f b : Option Id) (plan : List Acquisition) → Can m (JoinLabels f b)
    → plan ≡ joined_plan m.instance (joining_path m.state f) (joining_path m.state b) → Can m (Publish plan)
can_publish m f b plan can is = record {
  feasible = subst (λ (p : List Acquisition). Feasible m.instance p) (sym is) can.joins;
  gains = subst (λ (p : List Acquisition). gain_of m.instance m.state.incumbent ≤ gain_of m.instance p) (sym is) can.gains;
}

pub stepped_join : (m : Machine) (f b : Option Id) (plan : List Acquisition)
    → plan ≡ joined_plan m.instance (joining_path m.state f) (joining_path m.state b) → stepped m (Publish plan) ≡ stepped m (JoinLabels f b)
stepped_join m f b plan is =
    ap (λ (p : List Acquisition). with_plan m p) is
  where
    with_plan : Machine → List Acquisition → Machine
    with_plan m p = record { instance = m.instance; cut = m.cut; state = record m.state { incumbent = p } }

-- what is made of the joined order of two paths
pub joined_answer : (I J : Orbit) (f b order : List ℕ) (r : Result (Option (Vec Acquisition Global)) AllocError) → J ≡ I → order ≡ f ++ reverse b
    → IfOk r (λ answer. IsSome answer ↔ IsInTime J order) → IfOk r (λ answer. IfSome answer (λ plan. plan.items ≡ earliest J Root order))
    → IfOk r (λ answer. MatchOption answer (¬ Joins I f b) (λ plan. plan.items ≡ joined_plan I f b))
joined_answer I J f b order (Err e) same is in_time plan = tt
joined_answer I J f b order (Ok (Some p)) same is in_time plan =
    plan ∙ ap (λ (K : Orbit). earliest K Root order) same ∙ ap (λ (xs : List ℕ). earliest I Root xs) is
joined_answer I J f b order (Ok None) same is in_time plan = λ joins.
    let here : IsInTime I (f ++ reverse b) = (IsFeasibleOrder-earliest I (f ++ reverse b) joins).in_time in
    let there : IsInTime J order =
    subst (λ (K : Orbit). IsInTime K order) (sym same) (subst (λ (xs : List ℕ). IsInTime I xs) (sym is) here) in
    absurd (true≢false (sym (in_time.1 there)))
