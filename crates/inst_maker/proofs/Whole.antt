-- The parts that were drawn make the instance of the seed and the size, and keep what an instance asks of them.
use Rattle.std.proofs.Common.{◌≡◌, ℕ, ◌+◌, ◌*◌, ◌/◌, List, length, map, ◌∙◌, ap, arith}
use Rattle.std.specs.Int.{div_ceil}
use Rattle.std.proofs.lemmas.List.{length-map}
use Rattle.inst_maker.proofs.InOrder.{length-in_order}
use Rattle.inst_maker.specs.Draws.{in_order}
use Rattle.inst_maker.specs.Made.{made, an_orbit, a_request, a_placed_strip, in_rows, time_between}
use Rattle.inst_maker.specs.declared.placed.Placed.{Placed}
use Rattle.strip_model.specs.declared.request.Request.{Request}
use Rattle.strip_model.specs.declared.strip.Strip.{Strip}

pub made_is : (seed size count start state : ℕ) (requests : List Request) (placed : List Placed) (strips : List Strip) (entries : List ℕ)
    → count ≡ div_ceil size 4 → start ≡ seed
    → requests ≡ (in_order (λ _. a_request) count start).value
    → state ≡ (in_order (λ _. a_request) count start).state
    → placed ≡ (in_order (a_placed_strip size) size state).value
    → strips ≡ map (λ p. p.strip) placed
    → entries ≡ in_rows (2 * length placed) (time_between (map (λ p. p.offset) placed))
    → record { requests = requests; strips = strips; table = record { size = 2 * length strips; entries = entries } } ≡ made seed size
unfolding made an_orbit
made_is seed size count start state requests placed strips entries counted begun requested asked drawn stripped timed =
    let quarter : count ≡ (size + 3) / 4 = omega arith in
    let as_many : length placed ≡ size = ap length drawn ∙ length-in_order (a_placed_strip size) size state in
    let no_fewer : length strips ≡ size = ap length stripped ∙ length-map placed (λ p. p.strip) ∙ as_many in
    cc
