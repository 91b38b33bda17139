-- A drawer after each call.
use Rattle.std.specs.Prelude.{ℕ, ◌+◌, ◌-◌, ◌/◌, List, [], ◌∷◌, ◌++◌, Option, Some, None, Result, Ok, Err}
use Rattle.atomic_table.specs.Seated.{TableId}
use Rattle.shared_budget.specs.declared.draw_spent.DrawSpent.{DrawSpent}
use Rattle.pass_weight.specs.declared.whole_weight.TheConstants.{WHOLE_WEIGHT}
use Rattle.shared_budget.specs.Drawn.{Drawn, parties}

-- the first drawer of a new word with this budget
abbrev pub first_drawer : TableId → (budget : ℕ) → Drawn
first_drawer table budget = record { table = table; own = []; joined = []; kept = None; budget = budget; weight = WHOLE_WEIGHT }

-- the number of an answer
abbrev pub number_of : Result ℕ DrawSpent → ℕ
number_of (Ok number) = number
number_of (Err spent) = spent.number

-- the own numbers after a draw that was answered with this number: an exhausted drawer draws none, any other one drew it
abbrev pub own_after : (kept : Option ℕ) → (own : List ℕ) → (number : ℕ) → List ℕ
own_after (Some _) own number = own
own_after None own number = own ++ number ∷ []

-- the number that is kept after a draw: the one that was refused
abbrev pub kept_after : Result ℕ DrawSpent → Option ℕ
kept_after (Ok _) = None
kept_after (Err spent) = Some spent.number

-- a drawer after a draw with this answer
abbrev pub after_draw : Drawn → Result ℕ DrawSpent → Drawn
after_draw d answer = record d { own = own_after d.kept d.own (number_of answer); kept = kept_after answer }

-- a drawer that gave half of its weight, rounded down, to a new one
abbrev pub after_split : Drawn → Drawn
after_split d = record d { weight = d.weight - d.weight / 2 }

-- the new one: it has drawn nothing
abbrev pub split_off : Drawn → Drawn
split_off d = record d { own = []; joined = []; weight = d.weight / 2 }

-- the first number where there is one, else the second
abbrev pub first_of : Option ℕ → Option ℕ → Option ℕ
first_of (Some number) other = Some number
first_of None other = other

-- a drawer into which another was joined
abbrev pub together : Drawn → Drawn → Drawn
together d other = record d {
  joined = d.joined ++ parties other;
  kept = first_of d.kept other.kept;
  weight = d.weight + other.weight;
}
