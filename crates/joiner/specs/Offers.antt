-- What the best pair so far says of all pairs that were looked at.
use Rattle.std.specs.Prelude.{ℕ, ◌<◌, ◌≤◌, Option, None, Some, ⊤}
use Rattle.joiner.specs.Pairs.{IsNoWorse}
use Rattle.joiner.specs.declared.pair.Pair.{Pair}

-- the best so far, or the floor where there is none, is no worse than a pair with this gain at these places
abbrev pub Covers : ℕ → Option Pair → ℕ → ℕ → ℕ → Type 0
Covers floor None gain forward backward = gain ≤ floor
Covers floor (Some p) gain forward backward = IsNoWorse p gain forward backward

-- the best so far gains more than the floor
abbrev pub IsAbove : ℕ → Option Pair → Type 0
IsAbove floor None = ⊤
IsAbove floor (Some p) = floor < p.gain

-- what the one covers, the other covers too
abbrev pub IsKept : ℕ → Option Pair → Option Pair → Type 0
IsKept floor before later = (gain i j : ℕ) → Covers floor before gain i j → Covers floor later gain i j
