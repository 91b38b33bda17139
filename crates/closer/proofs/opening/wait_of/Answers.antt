use Rattle.std.proofs.Common.{subst, arith}
use Rattle.closer.proofs.FirstWaits.{last_start-le}
use Rattle.label.specs.Labels.{IsFace}
use Rattle.label_core.specs.CoreState.{path_of}
use Rattle.strip_model.specs.Side.{Face, face_of}
use Rattle.closer.proofs.opening.wait_of.Goals as goal

pub overflow_add-brief : goal.overflow_add-brief
overflow_add-brief c =
    omega (
      arith,
      last_start-le (face_of c.args.core.now.instance c.args.core.now.cut c.args.id.end) (path_of c.args.core.now.state c.args.id) c.brief.result.start
          c.brief.result.last (subst (λ (S : Face). IsFace S) c.side.ensures c.end.ensures.sound) c.brief.ensures.path c.brief.ensures.brief.at,
    )
