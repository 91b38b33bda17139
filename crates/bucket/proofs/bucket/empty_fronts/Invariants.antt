use Rattle.std.proofs.Common.{◌≡◌, [], length}
use Rattle.std.specs.List.{All}
use Rattle.bucket.proofs.bucket.empty_fronts.Given as goal

abbrev pub invariant-loop : goal.invariant-loop
invariant-loop l = (length l.fronts.items ≡ l.counter) × All (λ front. front.members ≡ []) l.fronts.items
