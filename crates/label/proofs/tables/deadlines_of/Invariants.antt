use Rattle.std.proofs.Common.{◌≡◌, map}
use Rattle.std.specs.List.{range_with_len}
use Rattle.label.proofs.Entries.{entry_of}
use Rattle.label.specs.Tables.{deadline_at}
use Rattle.label.proofs.tables.deadlines_of.Given as goal

-- the places before have their entries
abbrev pub invariant-loop-place : goal.invariant-loop-place
invariant-loop-place l = l.deadlines.items ≡ map (entry_of (deadline_at l.instance) l.count) (range_with_len 0 l.place)
