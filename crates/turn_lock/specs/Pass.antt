-- A pass as contracts see it.
use Rattle.std.specs.Prelude.{ℕ, ◌^◌, List, [], ◌∷◌, Option, Some, None}
use Rattle.pass_weight.specs.declared.whole_weight.TheConstants.{WHOLE_WEIGHT}
use Rattle.atomic_table.specs.Seated.{TableId}

-- E is the type of the history's entries, and F that of the frame
pub record Pass (E F : Type 0) : Type 0 where
  -- the lock that it came from
  pub lock : TableId
  -- what it has seen of the history
  pub seen : List E
  -- the entries that it made itself
  pub own : List E
  -- the own entries of each pass that was joined into it, and of those that were joined into these
  pub joined : List (List E)
  -- how many turns it made
  pub turns : ℕ
  -- its part of the whole weight
  pub weight : ℕ
  -- while it holds a turn, the history that it found
  pub turn : Option (List E)
  -- the frame of the lock's first value
  pub frame : Option F

-- the parties of a pass: itself and those that were joined into it, each with its own entries
abbrev pub parties : {E F : Type 0} → Pass E F → List (List E)
parties p = p.own ∷ p.joined

-- the pass of a new lock, whose value has this frame
abbrev pub first_pass : {E F : Type 0} → TableId → F → Pass E F
first_pass lock frame = record { lock = lock; seen = []; own = []; joined = []; turns = 0; weight = WHOLE_WEIGHT; turn = None; frame = Some frame }
