-- Entries in rows, before a rule is known of them.
use Rattle.std.specs.Prelude.{◌≡◌, ◌*◌, ◌≤◌, length, All}
use Rattle.manoeuvre.specs.Grid.{Grid}
use Rattle.manoeuvre.specs.declared.limits.TheConstants.{MAX_DIRECTED, MAX_MANOEUVRE}

-- the shape and the limits of a table, of which no rule is known yet
pub record IsSquare (t : Grid) : Type 0 where
  pub small : t.size ≤ MAX_DIRECTED
  pub square : length t.entries ≡ t.size * t.size
  pub bounded : All (λ m. m ≤ MAX_MANOEUVRE) t.entries
