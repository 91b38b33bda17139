use Rattle.std.proofs.Common.{◌≡◌, take}
use Rattle.strip_model.specs.Plan.{order_of}
use Rattle.strip_model.specs.Starts.{IsInTime, HasEarliestStarts}
use Rattle.plan_check.proofs.earliest_starts.earliest.Given as goal

-- the order so far is in time, and the plan has its earliest starts
abbrev pub invariant-loop-x : goal.invariant-loop-x
invariant-loop-x l = record {
  order : order_of l.plan.items ≡ take l.x-index l.order;
  in_time : IsInTime l.instance (order_of l.plan.items);
  starts : HasEarliestStarts l.instance l.plan.items;
}
