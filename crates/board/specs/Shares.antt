-- What a pass learns of the best plan: by a look at the incumbent's word, and by an offer.
use Rattle.std.specs.Prelude.{◌≡◌, ℕ, ◌≤◌, max}
use Rattle.board.specs.Passes.{BoardPass, gain, with_share}
use Rattle.pass_weight.specs.declared.whole_weight.TheConstants.{WHOLE_WEIGHT}
use Rattle.incumbent.specs.Better.{better}
use Rattle.incumbent.specs.Offered.{old_of, IsAnswer}
use Rattle.incumbent.specs.declared.offered.Offered.{Offered}
use Rattle.plan_check.specs.Publication.{Publication}

-- A word that a pass finds: no less than it has seen and than its own plan gains, and just that gain where there is no other pass.
pub record IsFound (pass : BoardPass) (word : ℕ) : Type 0 where
  pub seen : pass.seen ≤ word
  pub own_plan : gain pass.plan ≤ word
  pub alone : pass.weight ≡ WHOLE_WEIGHT → word ≡ gain pass.plan

-- The pass has looked at the word, and found this.
pub record Seeing (old new : BoardPass) (word : ℕ) : Type 0 where
  pub found : IsFound old word
  pub pass : new ≡ with_share old old.plan word

-- The pass has offered a plan: `answer` tells the word just before, and whether the plan gains more. The pass keeps the plan of
-- greater gain, and has seen the greater of the two numbers.
pub record Offering (old new : BoardPass) (plan : Publication) (answer : Offered) : Type 0 where
  pub found : IsFound old (old_of answer)
  pub raised : IsAnswer (gain plan) answer
  pub pass : new ≡ with_share old (better gain old.plan plan) (max (old_of answer) (gain plan))
