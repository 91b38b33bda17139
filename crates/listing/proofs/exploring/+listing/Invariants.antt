use Rattle.std.proofs.Common.{◌≡◌, ◌+◌, ◌-◌, ◌*◌, length}
use Rattle.listing.proofs.Tried.{HasTried}
use Rattle.listing.proofs.exploring.+listing.Given as goal

-- how many strips aren't in the plan, and one step more before a directed strip is chosen
abbrev pub decreases-explore : goal.decreases-explore
decreases-explore l = 2 * (length l.instance.now.strips - length l.plan.now.items) + 1

abbrev pub decreases-go_on_with : goal.decreases-go_on_with
decreases-go_on_with l = 2 * (length l.instance.now.strips - length l.plan.now.items)

-- the plan is as it was, and every directed strip below x was tried after it
abbrev pub invariant-explore-loop-x : goal.invariant-explore-loop-x
invariant-explore-loop-x l = (l.plan.items ≡ l.fn.plan.items) × HasTried l.instance l.fn.plan.items l.fn.best.gain l.x l.best
