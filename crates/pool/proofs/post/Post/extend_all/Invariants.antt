use Rattle.std.proofs.Common.{◌≡◌, ◌*◌, ◌<◌, ℕ, [], ◌∷◌, ◌++◌, length, None}
use Rattle.board.specs.Passes.{side_at}
use Rattle.pool.specs.Acting.{Acts}
use Rattle.pool.specs.Seen.{IsPathSeen}
use Rattle.strip_model.specs.LabelPath.{LabelPath}
use Rattle.pool.proofs.post.Post.extend_all.Given as goal

-- the label is extended by each directed strip below y, and all that was done so far stands
abbrev pub invariant-loop-y : goal.invariant-loop-y
invariant-loop-y g l =
    Acts l.self.board.now None l.fn.pass l.fn.tally.spare l.pass l.tally.spare
    × (l.count ≡ 2 * length (side_at l.self.board.now l.label.end).instance.strips)
    × ((x : ℕ) → x < l.y → LabelPath (side_at l.self.board.now l.label.end) (l.label.path.items ++ x ∷ [])
    → IsPathSeen l.pass l.label.end (l.label.path.items ++ x ∷ []))
