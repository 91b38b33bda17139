use Rattle.std.proofs.Common.{Bool, true, if◌then◌else◌, ◌==◌, ◌+◌, ◌*◌, refl, ◌∙◌, ap}
use Rattle.label.proofs.Paired.{both_of_strip}
use Rattle.label.proofs.tables.with_both.Goals as goal

pub returns : goal.returns
returns c = λ y.
    c.with-2.ensures.members y
    ∙ ap (λ (b : Bool). if y == 2 * c.args.strip + 1 then true else b) (c.with.ensures.members y)
    ∙ both_of_strip _ c.args.strip y (2 * c.args.strip) (2 * c.args.strip + 1) refl refl
