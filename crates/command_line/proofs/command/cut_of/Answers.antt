use Rattle.std.proofs.Common.{◌∙◌, ◌≤◌, ℕ, Option, Some, IfSome, sym, subst, arith}
use Rattle.command_line.specs.Options.{IsInRange}
use Rattle.command_line.specs.declared.option.Opt.TheVariants.{Cut}
use Rattle.strip_model.specs.declared.limits.TheConstants.{MAX_HORIZON}
use Rattle.command_line.proofs.command.cut_of.Goals as goal

pub overflow_cast-result : goal.overflow_cast-result
overflow_cast-result c =
    let some = sym c.of.ensures ∙ c.in-Some.is in
    let range : IfSome (Some c.in-Some.tick) (IsInRange Cut) = subst (λ (n : Option ℕ). IfSome n (IsInRange Cut)) some (c.requires Cut) in
    let small : c.in-Some.tick ≤ MAX_HORIZON = range.1 in
    omega (arith, small)
