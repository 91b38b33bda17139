-- The seats of labels that stand.
use Rattle.std.specs.Prelude.{ℕ, zero, suc, List, get_or}

-- the seat of a place: 0 is the root in both, and i + 1 is label i of a list of labels whose numbers are these
abbrev pub seat_at : List ℕ → ℕ → ℕ
seat_at places zero = 0
seat_at places (suc i) = suc (get_or places i 0)
