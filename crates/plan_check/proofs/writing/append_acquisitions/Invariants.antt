use Rattle.std.proofs.Common.{◌≡◌, ◌++◌, map, take}
use Rattle.std.specs.List.{flat_map}
use Rattle.plan_check.specs.PlanText.{acquisition_line}
use Rattle.seq_io.specs.Line.{spelled_line}
use Rattle.plan_check.proofs.writing.append_acquisitions.Given as goal

-- the lines so far were appended
abbrev pub invariant-loop-acquisition : goal.invariant-loop-acquisition
invariant-loop-acquisition l = l.out.items ≡ l.initial.out.items ++ flat_map spelled_line (map acquisition_line (take l.acquisition-index l.plan))
