-- The log of a proof is within the ranges of a text.
use Rattle.std.proofs.Common.{◌≢◌, ℕ, ◌*◌, ◌/◌, ◌<◌, ◌≤◌, List, [], ◌∷◌, length, get_or, All, refl, sym, subst, arith}
use Rattle.std.proofs.lemmas.List.{length-map}
use Rattle.std.proofs.lemmas.List.Elements.{All-nil, All-cons, All-from_get_or}
use Rattle.std.proofs.lemmas.Option.{slice_get-get_or}
use Rattle.std.specs.List.{AllByRecursion}
use Rattle.std.specs.declared.alloc.Global.{Global}
use Rattle.std.specs.declared.vec.Vec.{Vec}
use Rattle.plan_check.specs.PlanText.{IsAcquisitionInText, IsPlanInText}
use Rattle.proof_log.specs.AnswerText.{IsPathInText, IsMarkInText, IsLogInText, label_count}
use Rattle.proof_log.specs.Labels.{paths_in, path_at}
use Rattle.proof_log.specs.Rules.{NamesLabels, IsProof}
use Rattle.proof_log.specs.declared.limits.TheConstants.{MAX_LABELS}
use Rattle.proof_log.specs.declared.log.Log.{Log}
use Rattle.proof_log.specs.declared.mark.Mark.{Mark}
use Rattle.proof_log.specs.declared.mark.Mark.TheVariants.{Retire, Cut}
use Rattle.strip_model.proofs.Distinct.{length_distinct-le}
use Rattle.strip_model.proofs.Gains.{gain_in-le}
use Rattle.strip_model.proofs.Horizons.{horizon_of-late, horizon_of-le}
use Rattle.strip_model.proofs.Mirrored.{IsInstance-mirror_of}
use Rattle.strip_model.specs.Directed.{strip_of}
use Rattle.strip_model.specs.IsInstance.{IsInstance}
use Rattle.strip_model.specs.LabelPath.{LabelPath}
use Rattle.strip_model.specs.Orbit.{Orbit}
use Rattle.strip_model.specs.Plan.{Feasible, IsInWindow, order_of}
use Rattle.strip_model.specs.Side.{facing, face_of}
use Rattle.strip_model.specs.declared.acquisition.Acquisition.{Acquisition}
use Rattle.strip_model.specs.declared.end.End.{End}
use Rattle.strip_model.specs.declared.end.End.TheVariants.{Forward, Backward}
use Rattle.strip_model.specs.declared.limits.TheConstants.{MAX_HORIZON, MAX_STRIPS, MAX_TOTAL_GAIN}

-- ---- paths

IsInstance-facing : (J : Orbit) → IsInstance J → (e : End) → IsInstance (facing J e)
IsInstance-facing J inst Forward = inst
IsInstance-facing J inst Backward = IsInstance-mirror_of J inst

each_small : (n : ℕ) (path : List ℕ) → n ≤ MAX_STRIPS → AllByRecursion (λ x. strip_of x < n) path → All (λ x. x < 2 * MAX_STRIPS) path
each_small n [] few exist = All-nil (λ x. x < 2 * MAX_STRIPS)
each_small n (x ∷ path) few exist =
    let here : x / 2 < n = exist.0 in
    All-cons (λ x. x < 2 * MAX_STRIPS) x path (omega (arith, few, here)) (each_small n path few exist.1)

some_length : (path : List ℕ) → path ≢ [] → 1 ≤ length path
some_length [] some = absurd (some refl)
some_length (x ∷ path) some = omega arith

path_in_text : (J : Orbit) (cut : ℕ) (e : End) (path : List ℕ) → IsInstance J → LabelPath (face_of J cut e) path → IsPathInText path
path_in_text J cut e path inst label =
    let few : length (facing J e).strips ≤ MAX_STRIPS = (IsInstance-facing J inst e).limits.few_strips in
    record {
      some = some_length path label.some;
      few = omega (arith, few, length_distinct-le (facing J e) path label.in_time.exist label.in_time.distinct);
      each = each_small (length (facing J e).strips) path few label.in_time.exist;
    }

-- ---- marks

side-le : (log : Log) (e : End) → length (paths_in log e) ≤ label_count log
side-le log Forward = omega (arith, length-map log.forward.items (λ (path : Vec ℕ Global). path.items))
side-le log Backward = omega (arith, length-map log.backward.items (λ (path : Vec ℕ Global). path.items))

mark_in_text : (log : Log) (mark : Mark) → label_count log ≤ MAX_LABELS → NamesLabels log mark → IsMarkInText mark
mark_in_text log (Retire e a b) few names = (omega (arith, few, side-le log e, names.0), omega (arith, few, side-le log e, names.1))
mark_in_text log (Cut e a) few names = omega (arith, few, side-le log e, names)

-- ---- the plan

acquisition_in_text : (J : Orbit) (a : Acquisition) → IsInstance J → strip_of a.at < length J.strips → IsInWindow J a → IsAcquisitionInText a
acquisition_in_text J a inst exist window = record {
  start = omega (arith, window.1, horizon_of-late J a.at exist, horizon_of-le J inst);
  strip = omega (arith, exist, inst.limits.few_strips);
}

each_in_text : (J : Orbit) (plan : List Acquisition) → IsInstance J → AllByRecursion (λ x. strip_of x < length J.strips) (order_of plan)
    → AllByRecursion (IsInWindow J) plan → All IsAcquisitionInText plan
each_in_text J [] inst exist windows = All-nil IsAcquisitionInText
each_in_text J (a ∷ plan) inst exist windows =
    All-cons IsAcquisitionInText a plan (acquisition_in_text J a inst exist.0 windows.0) (each_in_text J plan inst exist.1 windows.1)

plan_in_text : (J : Orbit) (plan : List Acquisition) → IsInstance J → Feasible J plan → IsPlanInText plan
plan_in_text J plan inst feasible = record {
  few =
      omega (
        arith,
        length-map plan (λ (a : Acquisition). a.at),
        length_distinct-le J (order_of plan) feasible.exist feasible.distinct,
        inst.limits.few_strips,
      );
  each = each_in_text J plan inst feasible.exist feasible.windows;
}

-- ---- the whole

pub IsLogInText-proof : (J : Orbit) (log : Log) → IsInstance J → IsProof J log → log.cut ≤ MAX_HORIZON → label_count log ≤ MAX_LABELS → IsLogInText log
IsLogInText-proof J log inst proof cut few = record {
  gain = subst (λ (gain : ℕ). gain ≤ MAX_TOTAL_GAIN) (sym proof.gain) (gain_in-le J (order_of log.plan.items) inst proof.feasible.exist proof.feasible.distinct);
  plan = plan_in_text J log.plan.items inst proof.feasible;
  few = few;
  cut = cut;
  paths =
      λ e.
      All-from_get_or IsPathInText (paths_in log e) []
      (λ k low. path_in_text J log.cut e (path_at log e k) inst (proof.labels e k low));
  marks =
      λ j d low.
      mark_in_text log (get_or log.marks.items j d) few
      (proof.there j (get_or log.marks.items j d) (slice_get-get_or log.marks.items j d low));
}
