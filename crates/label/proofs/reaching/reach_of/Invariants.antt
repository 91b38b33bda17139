use Rattle.std.proofs.Common.{◌≡◌, ℕ, ◌&&◌, not, nat_lt}
use Rattle.label.specs.Tables.{deadline_at}
use Rattle.strip_model.specs.Directed.{strip_of, has, has_strip}
use Rattle.label.proofs.reaching.reach_of.Given as goal

-- the set has what is reached of the strips before
abbrev pub invariant-loop-strip : goal.invariant-loop-strip
invariant-loop-strip l =
    (y : ℕ) → has y l.reach
    ≡ (nat_lt (strip_of y) l.strip && (not (has_strip (strip_of y) l.brief.visited) && nat_lt l.brief.start (deadline_at l.side.instance l.brief.last y)))
