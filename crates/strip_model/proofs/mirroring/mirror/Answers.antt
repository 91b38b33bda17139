-- The parts that are made are those of the mirror.
use Rattle.std.proofs.Common.{sym, ◌∙◌, subst}
use Rattle.strip_model.proofs.Mirrored.{IsInstance-mirror_of, mirror_made}
use Rattle.strip_model.specs.IsInstance.{IsInstance}
use Rattle.strip_model.specs.Orbit.{Orbit}
use Rattle.strip_model.proofs.mirroring.mirror.Goals as goal

pub from_parts-requires : goal.from_parts-requires
from_parts-requires c =
    let made = mirror_made c.args.inst.now _ _ _ _ _ _ (c.in_ok-requests.ensures.items ∙ c.requests.ensures.value)
    c.in_ok-strips.ensures c.horizon.ensures.value c.strips.ensures.value c.in_ok-table.ensures.value c.table.ensures.value in
    subst (λ (K : Orbit). IsInstance K) (sym made) (IsInstance-mirror_of c.args.inst.now c.requests.ensures.sound)

pub returns-clause-value : goal.returns-clause-value
returns-clause-value c =
    c.in_ok-mirrored.ensures
    ∙ mirror_made c.args.inst.now _ _ _ _ _ _ (c.in_ok-requests.ensures.items ∙ c.requests.ensures.value)
    c.in_ok-strips.ensures c.horizon.ensures.value c.strips.ensures.value c.in_ok-table.ensures.value c.table.ensures.value
