use Rattle.std.proofs.Common.{◌≡◌, ◌+◌, ◌∙◌, ℕ, Some, sum_by, ap, sym, arith}
use Rattle.std.proofs.lemmas.List.Elements.{All-pop}
use Rattle.std.proofs.lemmas.List.Sums.{sum_by_push}
use Rattle.board.specs.Passes.{board_of}
use Rattle.pool.proofs.Dealing.{joined_grows, joined_weight}
use Rattle.pool.proofs.Growing.{grows_trans}
use Rattle.pool.specs.Workers.{WorkerName}
use Rattle.pool.proofs.running.gather.Goals as goal

pub join-requires-clause-other : goal.join-requires-clause-other
join-requires-clause-other g c =
    let Is : WorkerName → Type 0 = λ w. w.board ≡ c.args.board.now in
    c.into_pass.ensures.board ∙ (All-pop Is c.loop.left.items c.pop.new.self.items (Some c.in-Some.worker) c.in-Some.ensures.items c.loop.invariant.1).1

pub loop-preserved : goal.loop-preserved
loop-preserved g c =
    let inv = c.loop.invariant in
    let left = c.pop.new.self.items in
    let worker = c.in-Some.worker in
    let Is : WorkerName → Type 0 = λ w. w.board ≡ c.args.board.now in
    let weight : WorkerName → ℕ = λ w. w.weight in
    let each = All-pop Is c.loop.left.items left (Some worker) c.in-Some.ensures.items inv.1 in
    let other : board_of c.into_pass.result ≡ c.args.board.now = c.into_pass.ensures.board ∙ each.1 in
    let same : board_of c.into_pass.result ≡ board_of c.loop.pass = other ∙ sym (inv.0.board ∙ c.requires.board) in
    let taken : sum_by weight c.loop.left.items ≡ sum_by weight left + worker.weight = ap (sum_by weight) c.in-Some.ensures.items ∙ sum_by_push weight left worker in
    let weighs : c.into_pass.result.weight ≡ worker.weight = c.into_pass.ensures.weight in (
      grows_trans c.args.pass.now c.loop.pass c.join.new.into inv.0 (joined_grows c.loop.pass c.into_pass.result c.join.new.into c.join.ensures same),
      each.0,
      (let a = inv.2 in let b = joined_weight c.loop.pass c.into_pass.result c.join.new.into c.join.ensures in omega arith),
      (let a = c.in-Some.ensures.len in let b = inv.3 in omega arith),
    )
