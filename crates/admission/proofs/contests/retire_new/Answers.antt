use Rattle.std.proofs.lemmas.Result.{on_ok_weaker}
use Rattle.admission.proofs.Contending.{CanRetire-by, HasContended-retired}
use Rattle.admission.proofs.Fading.{Dies-retire}
use Rattle.admission.proofs.contests.retire_new.Goals as goal

pub retire-requires : goal.retire-requires
retire-requires c =
    CanRetire-by c.args.core.now c.args.id c.requires.dominator.0 c.args.by c.requires.reached c.requires.live c.requires.dominator.1 c.requires.dominator.2

pub returns-clause-contended : goal.returns-clause-contended
returns-clause-contended c =
    on_ok_weaker c.retire.result
    (λ step members h.
    HasContended-retired c.args.core.now c.retire.new.self c.args.id (record { end = c.args.id.end; bucket = c.args.id.bucket; index = c.args.by }) members
    c.requires.reached
    (CanRetire-by c.args.core.now c.args.id c.requires.dominator.0 c.args.by c.requires.reached c.requires.live c.requires.dominator.1 c.requires.dominator.2)
    step h)
    c.retire.ensures.stepped

pub returns-clause-dead : goal.returns-clause-dead
returns-clause-dead c =
    on_ok_weaker c.retire.result
    (λ step.
    (Dies-retire c.args.core.now c.retire.new.self c.args.id (record { end = c.args.id.end; bucket = c.args.id.bucket; index = c.args.by })
    (CanRetire-by c.args.core.now c.args.id c.requires.dominator.0 c.args.by c.requires.reached c.requires.live c.requires.dominator.1 c.requires.dominator.2)
    step).dead)
    c.retire.ensures.stepped
