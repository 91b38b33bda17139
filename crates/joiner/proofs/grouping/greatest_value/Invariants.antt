use Rattle.std.proofs.Common.{◌≤◌}
use Rattle.std.specs.List.{AllWithin}
use Rattle.strip_model.specs.declared.limits.TheConstants.{MAX_TOTAL_GAIN}
use Rattle.joiner.proofs.grouping.greatest_value.Given as goal

abbrev pub invariant-loop-entry : goal.invariant-loop-entry
invariant-loop-entry l = record {
  greatest : AllWithin (λ w. w.value ≤ l.greatest) l.entries 0 l.entry-index;
  small : l.greatest ≤ MAX_TOTAL_GAIN;
}
