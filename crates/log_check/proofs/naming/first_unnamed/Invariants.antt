use Rattle.std.proofs.Common.{◌≡◌, ◌<◌, ℕ}
use Rattle.std.specs.Prelude.{slice_get, Some}
use Rattle.proof_log.specs.Rules.{NamesLabels}
use Rattle.proof_log.specs.declared.mark.Mark.{Mark}
use Rattle.log_check.proofs.naming.first_unnamed.Given as goal

-- the marks so far name labels that are there
abbrev pub invariant-loop-j : goal.invariant-loop-j
invariant-loop-j l = (n : ℕ) → n < l.j → (m : Mark) → slice_get l.log.marks.items n ≡ Some m → NamesLabels l.log m
