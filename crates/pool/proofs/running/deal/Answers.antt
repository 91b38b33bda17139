use Rattle.std.proofs.Common.{◌≡◌, ◌∙◌, ℕ, List, sum_by, ap, sym, subst, arith}
use Rattle.std.proofs.lemmas.List.Elements.{All-push}
use Rattle.std.proofs.lemmas.List.Sums.{sum_by_push}
use Rattle.std.specs.List.{All}
use Rattle.pool.proofs.Growing.{grows_trans}
use Rattle.pool.specs.Workers.{WorkerName}
use Rattle.pool.proofs.running.deal.Goals as goal
use Rattle.pool.proofs.running.deal.Goals.{in-Some, in-None}

pub loop-worker-preserved : goal.loop-worker-preserved
loop-worker-preserved g c =
    let inv = c.loop-worker.invariant in
    let dealt = c.loop-worker.dealt.items in
    elim c.match-split_one.branch [
      | in-Some w ↦
          let worker : WorkerName = w.new.result in
          let Is : WorkerName → Type 0 = λ v. v.board ≡ c.args.board.now in
          let weight : WorkerName → ℕ = λ v. v.weight in
          let weighs : worker.weight ≡ w.in-Some.new.weight = ap weight w.new.ensures in
          let weights = ap (sum_by weight) w.push_reserved.ensures.items ∙ sum_by_push weight dealt worker in
          rw w.dealt-is (
            grows_trans c.args.pass.now c.loop-worker.pass c.split_one.new.pass inv.0 w.in-Some.ensures.grows,
            subst (λ (l : List WorkerName). All Is l) (sym w.push_reserved.ensures.items)
                (All-push Is dealt worker inv.1 (ap (λ (v : WorkerName). v.board) w.new.ensures)),
            (let a = inv.2 in let b = w.in-Some.ensures.new.1 in omega arith),
            (let a = w.push_reserved.ensures.len in let b = inv.3 in omega arith),
            w.push_reserved.ensures.capacity ∙ inv.4,
          )
      | in-None w ↦ rw w.dealt-is (
        grows_trans c.args.pass.now c.loop-worker.pass c.split_one.new.pass inv.0 w.in-None.ensures.grows,
        inv.1,
        (let a = inv.2 in let b = w.in-None.ensures.none in omega arith),
        (let a = inv.3 in omega arith),
        inv.4,
      )
    ]
