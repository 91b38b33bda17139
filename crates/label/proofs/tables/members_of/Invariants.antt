use Rattle.std.proofs.Common.{◌≡◌, ℕ, ◌<◌, length, [], slice_index_or}
use Rattle.label.specs.Tables.{is_strip_of}
use Rattle.strip_model.specs.Directed.{has}
use Rattle.label.proofs.tables.members_of.Given as goal

-- the requests before have their strips
abbrev pub invariant-loop-request : goal.invariant-loop-request
invariant-loop-request l =
    (length l.members.items ≡ l.request)
    × ((r i : ℕ) → r < l.request → has i (slice_index_or l.members.items r []) ≡ is_strip_of l.instance r i)
