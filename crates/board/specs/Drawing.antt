-- What a draw of a number answers.
use Rattle.std.specs.Prelude.{◌≡◌, ℕ, ◌≤◌, ◌<◌, None, OnOk, IfOk, IfErr, IfSome, Result}
use Rattle.board.specs.Passes.{BoardPass}
use Rattle.shared_budget.specs.Calls.{after_draw}
use Rattle.shared_budget.specs.declared.draw_spent.DrawSpent.{DrawSpent}

-- Where the pass wasn't exhausted it drew a number, which is answered where it is below the budget; else the pass is exhausted, and
-- keeps the number. Where it was exhausted, it drew none, and answers the number that it keeps.
pub record IsDrawn (old new : BoardPass) (answer : Result ℕ DrawSpent) : Type 0 where
  pub pass : new ≡ record old { drawer = after_draw old.drawer answer }
  pub going_on : OnOk answer (old.drawer.kept ≡ None)
  pub below : IfOk answer (λ number. number < old.drawer.budget)
  pub reached : IfErr answer (λ spent. old.drawer.budget ≤ spent.number)
  pub keeps : IfErr answer (λ spent. IfSome old.drawer.kept (λ number. spent.number ≡ number))
