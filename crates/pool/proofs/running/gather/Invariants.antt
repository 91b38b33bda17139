use Rattle.std.proofs.Common.{◌≡◌, ◌+◌, sum_by}
use Rattle.std.specs.List.{All}
use Rattle.std.specs.Prelude.{vec_len}
use Rattle.pool.specs.Growth.{Grows}
use Rattle.pool.proofs.running.gather.Given as goal

-- the workers that are left are of this board, and with the pass that has grown they have the weight of all
abbrev pub invariant-loop : goal.invariant-loop
invariant-loop g l =
    Grows l.fn.pass l.pass × All (λ w. w.board ≡ l.board) l.left.items
    × (l.pass.weight + sum_by (λ w. w.weight) l.left.items ≡ l.fn.pass.weight + sum_by (λ w. w.weight) l.fn.workers.items)
    × (vec_len l.left + l.counter ≡ l.count)
