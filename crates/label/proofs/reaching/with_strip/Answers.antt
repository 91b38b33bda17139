use Rattle.std.proofs.Common.{ℕ, ◌&&◌, ◌||◌, ◌==◌, nat_lt, Bool, ◌∙◌, ap, arith}
use Rattle.label.proofs.Deadlines.{both_directions}
use Rattle.label.specs.Tables.{deadline_at}
use Rattle.strip_model.specs.Directed.{has}
use Rattle.label.proofs.reaching.with_strip.Goals as goal

pub returns : goal.returns
returns c = λ y.
    let in_time : ℕ → Bool = λ x. nat_lt c.args.start (deadline_at c.args.side.now.instance c.args.last x) in
    let second = c.of-2.result in
    c.with_directed.ensures y
    ∙ ap (λ (b : Bool). b || ((y == second) && in_time second)) (c.with_directed-set.ensures y)
    ∙ both_directions in_time (has y c.args.set) c.args.strip y c.of.result second (omega (arith, c.of.ensures.value)) c.of-2.ensures.value
