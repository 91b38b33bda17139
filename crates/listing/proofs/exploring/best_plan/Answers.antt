use Rattle.std.proofs.Common.{refl}
use Rattle.listing.proofs.Listed.{IsBest-nil, Optimal-best}
use Rattle.listing.proofs.Tried.{greatest_of_all}
use Rattle.listing.proofs.exploring.best_plan.Goals as goal

pub explore-requires-clause-best : goal.explore-requires-clause-best
explore-requires-clause-best c = IsBest-nil c.args.instance.now _ c.new.ensures.items refl

pub returns-clause-optimal : goal.returns-clause-optimal
returns-clause-optimal c =
    Optimal-best c.args.instance.now c.explore.new.best c.in_ok-explore.ensures.best
    (greatest_of_all c.args.instance.now c.new-plan.result.items c.explore.new.best.gain c.new-plan.ensures.items c.in_ok-explore.ensures.greatest)
