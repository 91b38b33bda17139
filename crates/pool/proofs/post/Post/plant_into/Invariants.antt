use Rattle.std.proofs.Common.{◌≡◌, ◌*◌, length, None}
use Rattle.pool.specs.Acting.{Acts}
use Rattle.pool.proofs.post.Post.plant_into.Given as goal

-- all that was done so far stands, and the lane is the one that it was
abbrev pub invariant-loop-turn : goal.invariant-loop-turn
invariant-loop-turn g l =
    Acts l.self.board.now None l.fn.pass l.fn.tally.spare l.pass l.tally.spare × (l.lane ≡ l.fn.lane)
    × (l.count ≡ 2 * length l.fn.lane.side.instance.strips)
