-- Which peak a share is of.
use Rattle.std.specs.Prelude.{◌≡◌}
use Rattle.incumbent.specs.declared.peak.Peak.{Peak}
use Rattle.incumbent.specs.declared.share.Share.{Share}
use Rattle.incumbent.specs.declared.worth.Worth.{Ghosts}

-- The share came from this peak.
abbrev pub IsShareOf : {P : Type 0} {g : Ghosts P} → Peak → Share P g → Type 0
IsShareOf peak share = share.seat.table_id ≡ peak.table.shared.table_id
