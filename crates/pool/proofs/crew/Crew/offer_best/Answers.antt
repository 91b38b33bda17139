use Rattle.std.proofs.Common.{◌≡◌, ◌<◌, ◌∙◌, List, length, sum_by, ap, arith}
use Rattle.std.specs.Prelude.{vec_len}
use Rattle.label.specs.Labels.{IsLabelOf}
use Rattle.pool.proofs.Crews.{put_back, all_at, all_put_back, forward_label, some_there}
use Rattle.pool.specs.Workers.{WorkerName}
use Rattle.pool.proofs.crew.Crew.offer_best.Goals as goal

pub publish-requires : goal.publish-requires
publish-requires g c =
    let b = c.args.self.now.board in
    let here = c.self.inside.board.now in
    let workers = c.self.inside.workers in
    let w = c.index_mut.result.now in
    let label = c.index-forward-place.result in
    let some : 0 < length workers.items = (let a = some_there (vec_len workers) c.if-is_empty.ensures in omega (arith, workers.ok.0)) in
    let own : w.board ≡ b = all_at (λ (v : WorkerName). v.board ≡ here) workers.items 0 w some c.index_mut.ensures.value c.self.invariant ∙ (λ i. (c.self.view_is i).board) in
    forward_label b w.board label own c.requires.end
    (all_at (IsLabelOf b.forward.side) c.args.forward.now c.in-Some.place label c.in-Some.ensures c.index-forward-place.is c.requires.labels)

pub invariant_of-self : goal.invariant_of-self
invariant_of-self g c =
    all_put_back (λ (v : WorkerName). v.board ≡ c.self.inside.board.now) c.self.inside.workers.items 0 c.index_mut.result.now c.publish.new.self c.index_mut.ensures.value
    c.publish.ensures c.self.invariant

pub returns : goal.returns
returns g c =
    let view : List WorkerName → WorkerName = λ l. record { board = c.self.inside.board.now; weight = sum_by (λ w. w.weight) l } in
    ap view (put_back c.self.inside.workers.items 0 c.index_mut.result.now c.publish.new.self c.index_mut.ensures.value c.publish.ensures) ∙ c.self.view_is
