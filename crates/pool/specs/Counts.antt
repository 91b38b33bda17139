-- How many numbers were drawn, and how many labels inserted.
use Rattle.std.specs.Prelude.{ℕ, ◌+◌, ◌≤◌, Bool, true, false, List, length, sum_by, Option, None, Some}
use Rattle.board.specs.Passes.{HalfPass, BoardPass}
use Rattle.bucket.specs.Histories.{Step, Inserts, Takes, Retires, Cuts}

-- the labels that an entry inserts
abbrev pub inserted_in : Step → ℕ
inserted_in (Inserts id path) = 1
inserted_in (Takes id) = 0
inserted_in (Retires id by) = 0
inserted_in (Cuts id) = 0

-- the labels that entries insert
abbrev pub insertions : List Step → ℕ
insertions steps = sum_by inserted_in steps

-- the labels that a half has inserted itself
abbrev pub inserted_by_half : HalfPass → ℕ
inserted_by_half h = sum_by (λ l. insertions l.own) h.locks

-- the labels that a pass has inserted itself
abbrev pub inserted_by : BoardPass → ℕ
inserted_by p = inserted_by_half p.forward + inserted_by_half p.backward

-- the numbers that a pass has drawn itself
abbrev pub drawn_by : BoardPass → ℕ
drawn_by p = length p.drawer.own

-- at most one number more was drawn than labels were inserted
abbrev pub DrawsFew : (old new : BoardPass) → Type 0
DrawsFew old new = drawn_by new + inserted_by old ≤ drawn_by old + inserted_by new + 1

-- no more labels were inserted than numbers drawn
abbrev pub InsertsFew : (old new : BoardPass) → Type 0
InsertsFew old new = inserted_by new + drawn_by old ≤ drawn_by new + inserted_by old

-- one, where a number is at hand that no insertion has used
abbrev pub number_at_hand : Bool → ℕ
number_at_hand true = 1
number_at_hand false = 0

-- the same, or one where the pass is exhausted: it keeps the number that was refused, and draws no more
abbrev pub number_unused : (kept : Option ℕ) → Bool → ℕ
number_unused None spare = number_at_hand spare
number_unused (Some number) spare = 1

-- each number that was drawn was used by an insertion, is at hand, or was refused; and where one was at hand or refused before, it is
-- so still, or was used
abbrev pub Pays : (old : BoardPass) → Bool → (new : BoardPass) → Bool → Type 0
Pays old spare new left =
    drawn_by new + inserted_by old + number_unused old.drawer.kept spare
    ≤ drawn_by old + inserted_by new + number_unused new.drawer.kept left

-- each label was inserted for a number that was at hand, and each number that is at hand was drawn
abbrev pub Earns : (old : BoardPass) → Bool → (new : BoardPass) → Bool → Type 0
Earns old spare new left =
    inserted_by new + drawn_by old + number_at_hand left ≤ drawn_by new + inserted_by old + number_at_hand spare
