use Rattle.std.proofs.Common.{List, ℕ, sym, ap, subst}
use Rattle.label_list.specs.Labels.{Listed, path_of}
use Rattle.label_list.proofs.Records.{label_paths}
use Rattle.label_list.proofs.label_list.LabelList.restore.Goals as goal
use Rattle.strip_model.specs.LabelPath.{LabelPath}
use Rattle.strip_model.specs.Side.{Face}

pub unreachable-requires : goal.unreachable-requires
unreachable-requires c =
    let S : Face = c.self.inside.side.now in
    let path : List ℕ = path_of c.args.self.now.labels c.args.id in
    let is_path : LabelPath S path =
    subst (λ (face : Face). LabelPath face path) (sym (ap (λ (l : Listed). l.face) c.self.view_is))
    (label_paths S c.self.inside.steps.items c.self.inside.records.items c.args.self.now c.self.invariant.records c.self.view_is c.args.id c.requires) in
    let no : ¬ LabelPath S c.path.result.now = rw c.in-None.is at c.in_ok-label.ensures in
    no (subst (λ (p : List ℕ). LabelPath S p) (sym c.path.ensures) is_path)
