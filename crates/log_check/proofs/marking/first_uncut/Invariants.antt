use Rattle.std.proofs.Common.{ℕ, ◌<◌}
use Rattle.log_check.specs.Faults.{Keeps}
use Rattle.log_check.specs.Faults.Rule.{CutAreBounded}
use Rattle.log_check.proofs.marking.first_uncut.Given as goal

-- the marks so far keep the rule
abbrev pub invariant-loop-j : goal.invariant-loop-j
invariant-loop-j l = (n : ℕ) → n < l.j → Keeps l.marked.instance l.marked.log CutAreBounded n
