use Rattle.std.proofs.Common.{ℕ, ◌<◌}
use Rattle.log_check.specs.Faults.{IsNewLabel}
use Rattle.log_check.specs.Listing.{HasFirst}
use Rattle.log_check.specs.Paths.{plain}
use Rattle.log_check.proofs.listing.list_paths.Given as goal

-- the paths so far are new label paths, and the labels have them
abbrev pub invariant-loop-k : goal.invariant-loop-k
invariant-loop-k l = record {
  right : (k : ℕ) → k < l.k → IsNewLabel l.side (plain l.paths) k;
  held : HasFirst l.side (plain l.paths) l.k l.labels;
}
