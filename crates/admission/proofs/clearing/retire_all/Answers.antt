use Rattle.admission.proofs.Marked.{Clears-none, CanRetire-named, Clears-retired}
use Rattle.admission.specs.Contests.{last_at}
use Rattle.admission.proofs.Interrupted.{Thins-clears}
use Rattle.admission.proofs.clearing.retire_all.Goals as goal

pub loop-id-init : goal.loop-id-init
loop-id-init c = Clears-none c.args.core.now c.args.by.end (last_at c.args.core.now c.args.by) c.args.ids.now

pub retire-requires : goal.retire-requires
retire-requires c =
    CanRetire-named c.args.core.now c.loop-id.core c.args.by c.args.ids.now c.loop-id.id-index c.requires c.loop-id-test.true c.loop-id.invariant

pub loop-id-preserved : goal.loop-id-preserved
loop-id-preserved c =
    Clears-retired c.args.core.now c.loop-id.core c.args.by c.args.ids.now c.loop-id.id-index c.requires c.loop-id-test.true c.loop-id.invariant
    c.retire.new.self c.in_ok-retire.ensures.stepped

pub returns-in_err-retire-clause-thins : goal.returns-in_err-retire-clause-thins
returns-in_err-retire-clause-thins c =
    Thins-clears c.args.core.now c.loop-id.core c.retire.new.self c.args.by.end (last_at c.args.core.now c.args.by) c.args.ids.now c.loop-id.id-index
    c.loop-id.invariant c.in_err-retire.ensures.unchanged
