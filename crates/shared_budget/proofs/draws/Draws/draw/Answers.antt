use Rattle.std.proofs.Common.{◌∙◌, sym, arith}
use mathlib.Core.Option.{none}
use Rattle.atomic_table.specs.Table.{step}
use Rattle.shared_budget.proofs.Drawing.{draws_one}
use Rattle.shared_budget.proofs.draws.Draws.draw.Goals as goal

pub fetch_add-number-requires : goal.fetch_add-number-requires
fetch_add-number-requires c =
    let inv = c.drawer.invariant in (
      (λ i. (c.drawer.view_is i).table) ∙ c.requires.own ∙ sym c.self.view_is,
      (let words = c.self.invariant.0 in omega arith),
      draws_one _ _ _ _ (step 0 0 0 0 none) (sym inv.kept_is ∙ c.in_default.is) inv.positive,
    )
