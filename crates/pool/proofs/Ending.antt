-- How a worker ends.
use Rattle.std.proofs.Common.{◌≡◌, ℕ, subst}
use Rattle.std.specs.Prelude.{Result, Ok, Err, OnOk, OnErr}
use Rattle.board.specs.Passes.{BoardPass}
use Rattle.pool.specs.Ends.{IsEnd, IsHalt}
use Rattle.pool.specs.declared.work_end.WorkEnd.{WorkEnd}
use Rattle.pool.specs.declared.work_end.WorkEnd.TheVariants.{Stopped, Empty, Spent, TurnSpent, Crowded, Memory}

-- it isn't for want of work
pub halts_not_empty : (stops : ℕ → ℕ → Type 0) (worker : ℕ) (p : BoardPass) (end : WorkEnd) → IsHalt stops worker p end → end ≡ Empty → ⊥
halts_not_empty stops worker p end h is = subst (λ (x : WorkEnd). IsHalt stops worker p x) is h

-- and is the end of a worker, whatever pass it began with
pub halts_end : (stops : ℕ → ℕ → Type 0) (worker : ℕ) (old p : BoardPass) (end : WorkEnd) → IsHalt stops worker p end → IsEnd stops worker old p end
halts_end stops worker old p Stopped h = h
halts_end stops worker old p Empty h = absurd h
halts_end stops worker old p (Spent number) h = h
halts_end stops worker old p (TurnSpent count) h = h
halts_end stops worker old p (Crowded labels) h = h
halts_end stops worker old p Memory h = h

-- what holds however a call ends
pub on_ok : {T E P : Type 0} (r : Result T E) → P → OnOk r P
on_ok (Ok value) h = h
on_ok (Err e) h = tt

pub on_err : {T E P : Type 0} (r : Result T E) → P → OnErr r P
on_err (Ok value) h = tt
on_err (Err e) h = h
