-- Which of two plans is the better one.
use Rattle.std.specs.Prelude.{ℕ, nat_lt, if◌then◌else◌}

-- Of two plans the one of greater worth, and the old one where both are worth the same.
abbrev pub better : {P : Type 0} → (P → ℕ) → (old new : P) → P
better worth old new = if nat_lt (worth old) (worth new) then new else old
