-- Logs that say the same keep the same rules.
use Rattle.std.proofs.Common.{◌≡◌, ℕ, ◌<◌, ◌≤◌, false, List, [], ◌∷◌, ◌++◌, length, take, get_or, slice_get, Some, sym, ◌∙◌, ap, subst, inl, inr}
use Rattle.proof_log.specs.AnswerText.{AreSame}
use Rattle.proof_log.specs.Labels.{paths_in, path_at, is_marked, IsListed, Stands}
use Rattle.proof_log.specs.Rules.{NamesLabels, KeepsRetireRule, KeepsCutRule, IsProof}
use Rattle.proof_log.specs.declared.log.Log.{Log}
use Rattle.proof_log.specs.declared.mark.Mark.{Mark}
use Rattle.proof_log.specs.declared.mark.Mark.TheVariants.{Retire, Cut}
use Rattle.strip_model.specs.Dominance.{Dominates}
use Rattle.strip_model.specs.Join.{join_gain}
use Rattle.strip_model.specs.LabelPath.{LabelPath}
use Rattle.strip_model.specs.Orbit.{Orbit}
use Rattle.strip_model.specs.Plan.{Feasible, gain_of}
use Rattle.strip_model.specs.Reach.{bound}
use Rattle.strip_model.specs.Side.{facing, face_of}
use Rattle.strip_model.specs.declared.acquisition.Acquisition.{Acquisition}
use Rattle.strip_model.specs.declared.end.End.{End}
use Rattle.strip_model.specs.declared.end.End.TheVariants.{Forward, Backward}

module _ (I : Orbit) (l m : Log) (same : AreSame l m) (proof : IsProof I l) where
  path_same : (e : End) (k : ℕ) → path_at l e k ≡ path_at m e k
  path_same e k = ap (λ (paths : List (List ℕ)). get_or paths k []) (same.paths e)

  below_there : (e : End) (k : ℕ) → k < length (paths_in m e) → k < length (paths_in l e)
  below_there e k low = subst (λ (paths : List (List ℕ)). k < length paths) (sym (same.paths e)) low

  below_here : (e : End) (k : ℕ) → k < length (paths_in l e) → k < length (paths_in m e)
  below_here e k low = subst (λ (paths : List (List ℕ)). k < length paths) (same.paths e) low

  at_there : (j : ℕ) (mark : Mark) → slice_get m.marks.items j ≡ Some mark → slice_get l.marks.items j ≡ Some mark
  at_there j mark at = ap (λ (marks : List Mark). slice_get marks j) same.marks ∙ at

  label_path : (cut : ℕ) (e : End) (path : List ℕ) → l.cut ≡ cut → LabelPath (face_of I l.cut e) path → LabelPath (face_of I cut e) path
  label_path cut e path is h = subst (λ (c : ℕ). LabelPath (face_of I c e) path) is h

  names : (mark : Mark) → NamesLabels l mark → NamesLabels m mark
  names (Retire e a b) h = (below_here e a h.0, below_here e b h.1)
  names (Cut e a) h = below_here e a h

  earlier_same : (j : ℕ) (e : End) (a : ℕ) → is_marked e a (take j l.marks.items) ≡ false → is_marked e a (take j m.marks.items) ≡ false
  earlier_same j e a h = subst (λ (marks : List Mark). is_marked e a (take j marks) ≡ false) same.marks h

  retires : (j : ℕ) (mark : Mark) → KeepsRetireRule I l (take j l.marks.items) mark → KeepsRetireRule I m (take j m.marks.items) mark
  retires j (Cut e a) h = tt
  retires j (Retire e a b) h = record {
    differ = h.differ;
    unmarked = earlier_same j e a h.unmarked;
    by_unmarked = earlier_same j e b h.by_unmarked;
    dominated =
        subst (λ (path : List ℕ). Dominates (facing I e) path (path_at m e a)) (path_same e b)
        (subst (λ (path : List ℕ). Dominates (facing I e) (path_at l e b) path) (path_same e a) h.dominated);
  }

  cuts : (j : ℕ) (mark : Mark) → KeepsCutRule I l (take j l.marks.items) mark → KeepsCutRule I m (take j m.marks.items) mark
  cuts j (Retire e a b) h = tt
  cuts j (Cut e a) h = record {
    unmarked = earlier_same j e a h.unmarked;
    bounded =
        subst (λ (gain : ℕ). bound (facing I e) (path_at m e a) ≤ gain) same.gain
        (subst (λ (path : List ℕ). bound (facing I e) path ≤ l.gain) (path_same e a) h.bounded);
  }

  stands : (e : End) (path : List ℕ) → Stands m e path → Stands l e path
  stands e path (inl root) = inl root
  stands e path (inr (k, low, is, unmarked)) =
      inr (k, below_there e k low, path_same e k ∙ is, subst (λ (marks : List Mark). is_marked e k marks ≡ false) (sym same.marks) unmarked)

  listed : (e : End) (path : List ℕ) → IsListed l e path → IsListed m e path
  listed e path (k, low, is) = (k, below_here e k low, sym (path_same e k) ∙ is)

  pub IsProof-same : IsProof I m
  IsProof-same = record {
    feasible = subst (λ (plan : List Acquisition). Feasible I plan) same.plan proof.feasible;
    gain = sym same.gain ∙ proof.gain ∙ ap (λ (plan : List Acquisition). gain_of I plan) same.plan;
    labels =
        λ e k low.
        subst (λ (path : List ℕ). LabelPath (face_of I m.cut e) path) (path_same e k)
        (label_path m.cut e (path_at l e k) same.cut (proof.labels e k (below_there e k low)));
    once = λ e j k less low is. proof.once e j k less (below_there e k low) (path_same e j ∙ is ∙ sym (path_same e k));
    there = λ j mark at. names mark (proof.there j mark (at_there j mark at));
    retired = λ j mark at. retires j mark (proof.retired j mark (at_there j mark at));
    cut_off = λ j mark at. cuts j mark (proof.cut_off j mark (at_there j mark at));
    extended =
        λ e path y stands_here label.
        listed e (path ++ y ∷ [])
        (proof.extended e path y (stands e path stands_here)
        (subst (λ (c : ℕ). LabelPath (face_of I c e) (path ++ y ∷ [])) (sym same.cut) label));
    joined =
        λ f b f_stands b_stands joins.
        subst (λ (gain : ℕ). join_gain I f b ≤ gain) same.gain
        (proof.joined f b (stands Forward f f_stands) (stands Backward b b_stands) joins);
  }
