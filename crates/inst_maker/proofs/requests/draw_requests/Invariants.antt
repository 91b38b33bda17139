use Rattle.std.proofs.Common.{◌≡◌}
use Rattle.inst_maker.specs.Draws.{in_order}
use Rattle.inst_maker.specs.Made.{a_request}
use Rattle.inst_maker.proofs.requests.draw_requests.Given as goal

-- the first i requests are drawn
abbrev pub invariant-loop-i : goal.invariant-loop-i
invariant-loop-i l =
    (l.requests.items ≡ (in_order (λ _. a_request) l._i l.fn.draws).value)
    × (l.draws ≡ (in_order (λ _. a_request) l._i l.fn.draws).state)
