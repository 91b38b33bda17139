use Rattle.std.proofs.Common.{ℕ, List, [], ◌∷◌, subst}
use Rattle.label.proofs.Prefixes.{LabelPath-prefix}
use Rattle.strip_model.specs.LabelPath.{LabelPath}
use Rattle.label.proofs.restoring.restore.Goals as goal

pub returns-in-None : goal.returns-in-None
returns-in-None c = λ h.
    let none = rw c.in-None.is at c.in_ok-begun.ensures in
    let T : List ℕ → Type 0 = λ xs. LabelPath c.args.side.now xs in
    none (LabelPath-prefix c.args.side.now c.in-Some.rest.now (c.in-Some.first.now ∷ []) (λ e. cc) (subst T c.in-Some.ensures.cases.0 h))
