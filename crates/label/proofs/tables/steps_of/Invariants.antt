use Rattle.std.proofs.Common.{◌≡◌, map}
use Rattle.std.specs.List.{range_with_len}
use Rattle.label.proofs.Entries.{entry_of}
use Rattle.label.specs.Tables.{step_at}
use Rattle.label.proofs.tables.steps_of.Given as goal

-- the places before have their entries
abbrev pub invariant-loop-place : goal.invariant-loop-place
invariant-loop-place l = l.steps.items ≡ map (entry_of (step_at l.instance) l.count) (range_with_len 0 l.place)
