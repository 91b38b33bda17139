use Rattle.std.proofs.Common.{sym, subst, rules}
use Rattle.std.specs.List.{All}
use Rattle.pool.proofs.Crews.{all_at}
use Rattle.pool.specs.Lanes.{IsOrderOf}
use Rattle.pool.specs.Workers.{WorkerName}
use Rattle.pool.proofs.crew.all_obey.Goals as goal

pub for_each_mut-requires-clause-accepts : goal.for_each_mut-requires-clause-accepts
for_each_mut-requires-clause-accepts g c κs within i worker small at =
    let Is : WorkerName → Type 0 = λ w. IsOrderOf w.board c.args.order.now in
    (search rules, all_at Is c.as_mut_slice.result.now i worker.now small at (subst (All Is) (sym c.as_mut_slice.ensures.value) c.requires))
