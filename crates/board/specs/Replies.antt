-- The replies that a pass had from the queues.
use Rattle.std.specs.Prelude.{◌≡◌, ℕ, List, [], ◌∷◌, ◌++◌}
use mathlib.Core.Option.{some}
use Rattle.atomic_table.specs.Table.{Me, Step}
use Rattle.board.specs.declared.reply.Reply.{Reply}

-- the reply that the step announces stands behind the others
abbrev pub Hears : Step Reply → Me Reply (List Reply) → ℕ → Me Reply (List Reply) → Type 0
Hears step old found new = (reply : Reply) → step.said ≡ some reply → new ≡ (old.0 ++ reply ∷ [], old.1)
