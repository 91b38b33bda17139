use Rattle.std.proofs.Common.{◌≡◌, take}
use Rattle.instance_text.proofs.Spelled.{row_of}
use Rattle.instance_text.proofs.writing.copy_row.Given as goal

-- the times to the directed strips so far stand in the first places
abbrev pub invariant-loop-y : goal.invariant-loop-y
invariant-loop-y l = take l.y l.row ≡ take l.y (row_of l.table l.x)
