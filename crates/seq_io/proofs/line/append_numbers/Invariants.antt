use Rattle.std.proofs.Common.{◌≡◌, ◌++◌, map, decimal}
use Rattle.std.specs.List.{flat_map}
use Rattle.seq_io.specs.Token.{ended}
use Rattle.seq_io.proofs.line.append_numbers.Given as goal

-- the numbers so far were appended
abbrev pub invariant-loop-number : goal.invariant-loop-number
invariant-loop-number g l = l.out.items ≡ l.initial.out.items ++ flat_map ended (map decimal l.yielded)
