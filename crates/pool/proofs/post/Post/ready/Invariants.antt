use Rattle.std.proofs.Common.{◌≡◌, ◌+◌, None}
use Rattle.std.specs.List.{All}
use Rattle.std.specs.Prelude.{vec_len}
use Rattle.label.specs.Labels.{IsLabelOf}
use Rattle.pool.specs.Acting.{Acts}
use Rattle.pool.proofs.post.Post.ready.Given as goal

-- all that was done so far stands, the lane is the one that it was, and the labels that are left are of its side
abbrev pub invariant-loop : goal.invariant-loop
invariant-loop g l =
    Acts l.self.board.now None l.fn.pass l.fn.tally.spare l.pass l.tally.spare × (l.lane ≡ l.fn.lane)
    × All (λ w. IsLabelOf l.fn.lane.side w.label) l.waiting.items × (vec_len l.waiting + l.counter ≡ l.count)
