use Rattle.std.proofs.Common.{List, [], subst}
use Rattle.closer.proofs.FirstWaits.{AddsWaits-trans, IsTodo-kept, HasAntichains-gathers, IsSearching-first}
use Rattle.closer.specs.MoreWaits.{AddsWaits}
use Rattle.closer.specs.declared.wait.Wait.{Wait}
use Rattle.admission.proofs.CarefulSteps.{GoesQuietly-trans}
use Rattle.admission.specs.Antichains.{members_of}
use Rattle.strip_model.specs.declared.end.End.TheVariants.{Forward}
use Rattle.closer.proofs.opening.agenda_of.Goals as goal

pub returns-clause-quiet : goal.returns-clause-quiet
returns-clause-quiet c =
    GoesQuietly-trans c.args.core.now c.gather.new.core c.gather-2.new.core c.in_ok-forward.ensures.gathers.quiet c.in_ok-backward.ensures.gathers.quiet

pub returns-clause-searching : goal.returns-clause-searching
returns-clause-searching c =
    IsSearching-first c.gather-2.new.core
    (record { forward = c.in_ok-forward.forward; backward = c.in_ok-backward.backward; queue = c.wait_side-2.new.queue })
    c.in_ok-wait_side.ensures.reached
    (HasAntichains-gathers c.gather.new.core c.gather-2.new.core (members_of c.in_ok-forward.forward.items) c.in_ok-backward.ensures.gathers c.in_ok-forward.ensures.antichains)
    c.in_ok-backward.ensures.antichains
    (AddsWaits-trans c.gather-2.new.core [] c.wait_side.new.queue c.wait_side-2.new.queue
    (subst (λ (ws : List Wait). AddsWaits c.gather-2.new.core ws c.wait_side.new.queue) c.new-queue.ensures c.in_ok-wait_side.ensures.adds)
    c.in_ok-wait_side-2.ensures.adds)
    (λ path lives.
    IsTodo-kept c.gather-2.new.core Forward c.wait_side.new.queue c.wait_side-2.new.queue path c.in_ok-wait_side-2.ensures.adds.kept
    (c.in_ok-wait_side.ensures.waits path lives))
    c.in_ok-wait_side-2.ensures.waits
