use Rattle.std.proofs.Common.{◌≡◌, map}
use Rattle.std.specs.List.{range_with_len}
use Rattle.manoeuvre.proofs.TurnedTables.{turned_entry}
use Rattle.manoeuvre.proofs.table.Table.turned.Given as goal

-- the places before have their entries
abbrev pub invariant-loop-place : goal.invariant-loop-place
invariant-loop-place l = l.entries.items ≡ map (turned_entry l.self) (range_with_len 0 l.place)
