use Rattle.std.proofs.Common.{◌∙◌, ap, length}
use Rattle.label.proofs.Growing.{requests-facing, length-facing}
use Rattle.strip_model.specs.Orbit.{Orbit}
use Rattle.label.proofs.side.Side.new.Goals as goal

pub returns-clause-requests : goal.returns-clause-requests
returns-clause-requests c =
    ap (λ (J : Orbit). J.requests) c.in_ok-facing.ensures.value ∙ requests-facing c.args.instance.now c.args.end

pub returns-clause-strips : goal.returns-clause-strips
returns-clause-strips c =
    ap (λ (J : Orbit). length J.strips) c.in_ok-facing.ensures.value ∙ length-facing c.args.instance.now c.args.end
