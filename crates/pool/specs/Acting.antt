-- What a worker's steps do to its pass.
use Rattle.std.specs.Prelude.{◌≡◌, Bool, Option}
use Rattle.board.specs.Passes.{BoardName, BoardPass, half_of}
use Rattle.bucket.specs.declared.id.Id.{Id}
use Rattle.pool.specs.Counts.{Pays, Earns}
use Rattle.pool.specs.Growth.{Grows, IsLawful}
use Rattle.pool.specs.Handling.{Handles}
use Rattle.strip_model.specs.declared.end.End.{End}

-- The pass has grown by legal entries and weighs what it did; what was given and taken is done with, but for one id; of the
-- numbers that were drawn at most the one at hand wasn't used, and each label was inserted for a number that was at hand.
pub record Works (b : BoardName) (last : Option Id) (old : BoardPass) (spare : Bool) (new : BoardPass) (left : Bool) : Type 0 where
  pub grows : Grows old new
  pub lawful : IsLawful b old new
  pub weight : new.weight ≡ old.weight
  pub handles : Handles b last old new
  pub pays : Pays old spare new left
  pub earns : Earns old spare new left

-- the same, and no queue was asked
pub record Acts (b : BoardName) (last : Option Id) (old : BoardPass) (spare : Bool) (new : BoardPass) (left : Bool) : Type 0 where
  pub works : Works b last old spare new left
  pub ids : (e : End) → (half_of new e).ids ≡ (half_of old e).ids
  pub asked : new.asked ≡ old.asked
