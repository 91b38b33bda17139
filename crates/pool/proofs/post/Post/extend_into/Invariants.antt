use Rattle.std.proofs.Common.{◌≡◌, ◌+◌, None}
use Rattle.std.specs.List.{All}
use Rattle.std.specs.Prelude.{vec_len}
use Rattle.label.specs.Labels.{IsLabelOf}
use Rattle.pool.specs.Acting.{Acts}
use Rattle.pool.proofs.post.Post.extend_into.Given as goal

-- all that was done so far stands, the lane is the one that it was, and the extensions that are left are of its side
abbrev pub invariant-loop : goal.invariant-loop
invariant-loop g l =
    Acts l.self.board.now None l.fn.pass l.fn.tally.spare l.pass l.tally.spare × (l.lane ≡ l.fn.lane)
    × All (IsLabelOf l.fn.lane.side) l.fresh.items × (vec_len l.fresh + l.counter ≡ l.count)
