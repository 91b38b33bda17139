-- What the gate's answer leaves of a worker's tally: the number at hand, or none.
use Rattle.std.proofs.Common.{◌≡◌, Bool, Option, sym, subst}
use Rattle.board.specs.Passes.{BoardName, BoardPass}
use Rattle.bucket.specs.declared.id.Id.{Id}
use Rattle.pool.proofs.Acted.{acts_self}
use Rattle.pool.specs.Acting.{Acts}

-- the number at hand is as it was before the gate was asked
pub acts_asked : (b : BoardName) (l : Option Id) (p q : BoardPass) (s t : Bool) → t ≡ s → Acts b l p s q s → Acts b l p s q t
acts_asked b l p q s t same acts = subst (λ (u : Bool). Acts b l p s q u) (sym same) acts

-- the gate says that the worker stops
pub stopped_acts : (b : BoardName) (l : Option Id) (p : BoardPass) (s t : Bool) → t ≡ s → Acts b l p s p t
stopped_acts b l p s t same = acts_asked b l p p s t same (acts_self b l p s)
