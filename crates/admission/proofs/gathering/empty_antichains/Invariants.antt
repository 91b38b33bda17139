use Rattle.std.proofs.Common.{◌≡◌, ℕ, [], length, get_or}
use Rattle.admission.specs.Antichains.{members_of}
use Rattle.admission.proofs.gathering.empty_antichains.Given as goal

-- the antichains so far have no labels
abbrev pub invariant-loop : goal.invariant-loop
invariant-loop l = (length l.antichains.items ≡ l.counter) × ((x : ℕ) → get_or (members_of l.antichains.items) x [] ≡ [])
