use Rattle.std.proofs.Common.{List, sym, subst}
use Rattle.strip_model.proofs.TwinRules.{refused-twins_in}
use Rattle.strip_model.specs.IsInstance.{KeepsTwins}
use Rattle.strip_model.specs.declared.strip.Strip.{Strip}
use Rattle.strip_model.proofs.instance.Instance.twin_map.Goals as goal

pub unreachable-requires : goal.unreachable-requires
unreachable-requires c =
    let keeps = subst (λ (ss : List Strip). KeepsTwins ss) (sym c.strips.ensures.value) c.strips.ensures.sound.twins in
    c.in_default.not-Memory (refused-twins_in c.strips.result.now c.in-Err.refusal keeps c.in-Err.ensures.refused)
