use Rattle.std.proofs.Common.{◌≡◌, map}
use Rattle.inst_maker.specs.Made.{time_between}
use Rattle.inst_maker.proofs.Rows.{first_in_rows}
use Rattle.inst_maker.proofs.manoeuvres.manoeuvre_times.Given as goal

-- the times of the first places
abbrev pub invariant-loop-place : goal.invariant-loop-place
invariant-loop-place l = l.times.items ≡ first_in_rows l.directed (time_between (map (λ p. p.offset) l.placed)) l.place
