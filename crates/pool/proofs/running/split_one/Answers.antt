use Rattle.std.proofs.Common.{◌≡◌, ◌∙◌, ap, arith}
use Rattle.board.specs.Passes.{gain}
use Rattle.pool.proofs.Dealing.{kept_grows}
use Rattle.strip_model.proofs.Gains.{gain_in-nil}
use Rattle.strip_model.specs.Plan.{gain_of}
use Rattle.pool.proofs.running.split_one.Goals as goal

-- the empty plan gains nothing
pub split-requires-clause-seen : goal.split-requires-clause-seen
split-requires-clause-seen c =
    let nothing : gain c.in-Ok.first ≡ 0 =
    ap gain c.in-Ok.ensures.published ∙ ap (λ plan. gain_of c.instance.result.now plan) c.new.ensures.items ∙ gain_in-nil c.instance.result.now in
    omega (arith, nothing)

pub returns-in-Ok-split-clause-grows : goal.returns-in-Ok-split-clause-grows
returns-in-Ok-split-clause-grows c = kept_grows c.args.pass.now c.split.new.pass c.in-Ok-split.ensures.old
