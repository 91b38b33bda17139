use Rattle.std.proofs.Common.{◌≡◌}
use Rattle.inst_maker.specs.Draws.{in_order}
use Rattle.inst_maker.specs.Made.{a_placed_strip}
use Rattle.inst_maker.proofs.placed.draw_placed_strips.Given as goal

-- the first i strips are drawn
abbrev pub invariant-loop-i : goal.invariant-loop-i
invariant-loop-i l =
    (l.placed.items ≡ (in_order (a_placed_strip l.size) l.i l.fn.draws).value)
    × (l.draws ≡ (in_order (a_placed_strip l.size) l.i l.fn.draws).state)
