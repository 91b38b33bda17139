use Rattle.std.proofs.Common.{◌≡◌, ◌<◌, ◌+◌}
use Rattle.std.specs.List.{All}
use Rattle.std.specs.Prelude.{vec_len}
use Rattle.bucket.specs.declared.limits.TheConstants.{BUCKETS}
use Rattle.label.specs.Labels.{IsLabelOf}
use Rattle.pool.proofs.lane.Lane.move_ready.Given as goal

-- the side and the number are as they were, and all labels, those that wait, those that are ready and those that were moved, are of
-- the side
abbrev pub invariant-loop : goal.invariant-loop
invariant-loop l =
    (l.self-inside.side.now ≡ l.fn.self.side) × (l.self-inside.number ≡ l.fn.self.number) × (l.self-inside.number < BUCKETS)
    × All (λ w. IsLabelOf l.self-inside.side.now w.label) l.self-inside.waiting.items
    × All (IsLabelOf l.self-inside.side.now) l.self-inside.ready.items
    × All (IsLabelOf l.self-inside.side.now) l.labels.items
    × (vec_len l.self-inside.ready + l.counter ≡ l.count)
