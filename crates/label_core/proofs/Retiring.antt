-- What the tests of the steps that end a label's life answer.
use Rattle.std.proofs.Common.{◌≡◌, ◌≢◌, ◌↔◌, ℕ, ◌≤◌, Bool, IsTrue, List, sym, ◌∙◌, ap, subst, arith}
use Rattle.bucket.specs.declared.id.Id.{Id}
use Rattle.label.specs.Briefs.{IsBrief, IsBriefOf}
use Rattle.label.specs.declared.briefs.Brief.{Brief}
use Rattle.label_core.specs.CoreState.{CoreState, path_of, IsLiveAt}
use Rattle.label_core.specs.Events.{CanRetire, CanCut}
use Rattle.strip_model.specs.Dominance.{Dominates}
use Rattle.strip_model.specs.LabelPath.{LabelPath}
use Rattle.strip_model.specs.Orbit.{Orbit}
use Rattle.strip_model.specs.Plan.{gain_of}
use Rattle.strip_model.specs.Reach.{bound}
use Rattle.strip_model.specs.Side.{Face, facing, face_of}
use Rattle.strip_model.specs.declared.end.End.{End}

-- the brief of a label path of a side is one of the same side at hand
pub brief_here : (S F : Face) (brief : Brief) (path : List ℕ) → S ≡ F → LabelPath F path → IsBriefOf F brief path → LabelPath S path × IsBriefOf S brief path
brief_here S F brief path same is_path is_brief = (
  subst (λ (G : Face). LabelPath G path) (sym same) is_path,
  subst (λ (G : Face). IsBriefOf G brief path) (sym same) is_brief,
)

pub IsBrief-here : (S F : Face) (brief : Brief) (path : List ℕ) → S ≡ F → LabelPath F path → IsBriefOf F brief path → IsBrief S brief
IsBrief-here S F brief path same is_path is_brief =
    let here = brief_here S F brief path same is_path is_brief in
    (path, here.0, here.1)

-- where all else holds, the label may be retired exactly where the other one dominates it
pub retires-told : (I : Orbit) (H : ℕ) (s : CoreState) (id by : Id) (S : Face) (told : Bool) → IsLiveAt s id → IsLiveAt s by → by.end ≡ id.end → id ≢ by
    → S ≡ face_of I H id.end → IsTrue told ↔ Dominates S.instance (path_of s by) (path_of s id) → IsTrue told ↔ CanRetire I s id by
retires-told I H s id by S told live by_live one_side differ side answer = (
  λ t. record {
    live = live;
    by_live = by_live;
    one_side = one_side;
    differ = differ;
    dominated = subst (λ (F : Face). Dominates F.instance (path_of s by) (path_of s id)) side (answer.0 t);
  },
  λ can. answer.1 (subst (λ (F : Face). Dominates F.instance (path_of s by) (path_of s id)) (sym side) can.dominated),
)

-- the bound of a label, as its brief gives it
pub bound_here : (I : Orbit) (H : ℕ) (e : End) (S : Face) (brief : Brief) (path : List ℕ) (high : ℕ) → S ≡ face_of I H e → LabelPath (face_of I H e) path
    → IsBriefOf (face_of I H e) brief path → ((p : List ℕ) → LabelPath S p → IsBriefOf S brief p → high ≡ bound S.instance p)
    → high ≡ bound (facing I e) path
bound_here I H e S brief path high side is_path is_brief answer =
    let here = brief_here S (face_of I H e) brief path side is_path is_brief in
    answer path here.0 here.1 ∙ ap (λ (F : Face). bound F.instance path) side

-- a live label may be cut exactly where its bound is at most the incumbent's gain
pub cuts-told : (I : Orbit) (s : CoreState) (id : Id) (high gain : ℕ) (told : Bool) → IsLiveAt s id → high ≡ bound (facing I id.end) (path_of s id)
    → gain ≡ gain_of I s.incumbent → IsTrue told ↔ (high ≤ gain) → IsTrue told ↔ CanCut I s id
cuts-told I s id high gain told live high_is gain_is answer = (
  λ t. record { live = live; bounded = omega (arith, answer.0 t, high_is, gain_is) },
  λ can. answer.1 (omega (arith, can.bounded, high_is, gain_is)),
)
