use Rattle.std.proofs.Common.{◌≡◌, ◌<◌, ◌∙◌, length, ap, sym, subst, List, rules, arith}
use Rattle.std.specs.List.{All}
use Rattle.pool.proofs.Crews.{put_back, same_each, board_at, order_at, order_for_all}
use Rattle.pool.specs.Lanes.{IsOrderOf}
use Rattle.pool.specs.Workers.{WorkerName}
use Rattle.pool.proofs.crew.set_to_work.Goals as goal

pub obey-requires : goal.obey-requires
obey-requires g c =
    let b = c.args.board.now in
    let workers = c.hand_to_first.new.workers.items in
    let w = c.index_mut.result.now in
    let n = ap length c.hand_to_first.ensures in
    let some = c.requires.some in
    let within : 0 < length workers = omega arith in
    order_at b w.board c.args.order.now (board_at b workers c.args.workers.now.items 0 w c.requires.workers c.hand_to_first.ensures within c.index_mut.ensures.value) c.requires.order

pub returns-then-alone : goal.returns-then-alone
returns-then-alone g c =
    put_back c.hand_to_first.new.workers.items 0 c.index_mut.result.now c.obey.new.self c.index_mut.ensures.value c.obey.ensures ∙ c.hand_to_first.ensures

pub all_obey-requires : goal.all_obey-requires
all_obey-requires g c =
    let orders : All (λ v. IsOrderOf v.board c.args.order.now) c.hand_out.new.workers.items =
    order_for_all c.args.board.now c.hand_out.new.workers.items c.args.order.now
    (subst (λ (l : List WorkerName). All (λ v. v.board ≡ c.args.board.now) l) (sym c.hand_out.ensures) c.requires.workers) c.requires.order in
    (search rules, (search rules, orders))

pub returns : goal.returns
returns g c = same_each c.hand_out.new.workers.items c.all_obey.new.workers.items c.all_obey.ensures.len c.all_obey.ensures.same ∙ c.hand_out.ensures
