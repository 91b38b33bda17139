use Rattle.std.proofs.Common.{◌≡◌, ◌≤◌, ◌+◌, sum_by}
use Rattle.std.specs.List.{All}
use Rattle.std.specs.Prelude.{vec_len, vec_capacity}
use Rattle.pool.specs.Growth.{Grows}
use Rattle.pool.proofs.running.deal.Given as goal

-- at most one worker for each number so far; they are of this board, and have the weight together with the pass that is left
abbrev pub invariant-loop-worker : goal.invariant-loop-worker
invariant-loop-worker g l =
    Grows l.fn.pass l.pass × All (λ w. w.board ≡ l.board) l.dealt.items
    × (l.pass.weight + sum_by (λ w. w.weight) l.dealt.items ≡ l.fn.pass.weight)
    × (vec_len l.dealt ≤ l.worker) × (vec_capacity l.dealt ≡ vec_capacity l.fn.room)
