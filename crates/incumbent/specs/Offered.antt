-- What an offer answers.
use Rattle.std.specs.Prelude.{ℕ, ◌<◌, ◌≤◌}
use Rattle.incumbent.specs.declared.offered.Offered.{Offered}
use Rattle.incumbent.specs.declared.offered.Offered.TheVariants.{Raised, Kept}

-- The word just before the offer.
abbrev pub old_of : Offered → ℕ
old_of (Raised old) = old
old_of (Kept old) = old

-- The answer to an offer of this worth: Raised where it exceeds the old word, else Kept.
abbrev pub IsAnswer : ℕ → Offered → Type 0
IsAnswer worth (Raised old) = old < worth
IsAnswer worth (Kept old) = worth ≤ old
