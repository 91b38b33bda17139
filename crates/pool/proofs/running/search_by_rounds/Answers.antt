use Rattle.std.proofs.Common.{◌≡◌, ◌+◌, ◌∙◌, ℕ, sum_by, ap, subst}
use Rattle.std.specs.List.{All}
use Rattle.board.specs.Passes.{BoardName}
use Rattle.pool.proofs.Growing.{grows_trans}
use Rattle.pool.proofs.running.search_by_rounds.Goals as goal

pub deal-workers-requires-clause-board : goal.deal-workers-requires-clause-board
deal-workers-requires-clause-board g c = c.planted.ensures.grows.board ∙ c.requires.board

pub gather-requires-clause-board : goal.gather-requires-clause-board
gather-requires-clause-board g c = c.deal-workers.ensures.grows.board ∙ c.planted.ensures.grows.board ∙ c.requires.board

pub gather-requires-clause-workers : goal.gather-requires-clause-workers
gather-requires-clause-workers g c =
    let same : c.make_rounds.new.crew.board ≡ c.args.board.now = (λ i. (c.make_rounds.ensures i).board) ∙ (λ i. (c.new-crew.ensures i).board) in
    subst (λ (b : BoardName). All (λ w. w.board ≡ b) c.into_workers.result.items) same c.into_workers.ensures.board

pub returns-clause-grows : goal.returns-clause-grows
returns-clause-grows g c =
    grows_trans c.args.pass.now c.deal-workers.new.pass c.gather.new.pass
    (grows_trans c.args.pass.now c.planted.new.pass c.deal-workers.new.pass c.planted.ensures.grows c.deal-workers.ensures.grows) c.gather.ensures.grows

-- no worker changes the weight of its pass
pub returns-clause-weight : goal.returns-clause-weight
returns-clause-weight g c =
    let rest : sum_by (λ w. w.weight) c.into_workers.result.items ≡ sum_by (λ w. w.weight) c.deal-workers.result.items =
    c.into_workers.ensures.weight ∙ (λ i. (c.make_rounds.ensures i).weight) ∙ (λ i. (c.new-crew.ensures i).weight) in
    c.gather.ensures.weight ∙ ap (λ (n : ℕ). c.deal-workers.new.pass.weight + n) rest ∙ c.deal-workers.ensures.weights ∙ c.planted.ensures.weight
