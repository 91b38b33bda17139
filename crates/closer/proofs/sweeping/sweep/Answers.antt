use Rattle.std.proofs.Common.{refl}
use Rattle.closer.proofs.Swept.{GoesQuietly-swept, IsSearching-swept}
use Rattle.closer.proofs.sweeping.sweep.Goals as goal

pub returns-clause-quiet : goal.returns-clause-quiet
returns-clause-quiet c =
    GoesQuietly-swept c.args.core.now c.sweep_side.new.core c.sweep_side-2.new.core c.in_ok-sweep_side.ensures.swept
    c.in_ok-sweep_side-2.ensures.swept

pub returns-clause-searching : goal.returns-clause-searching
returns-clause-searching c =
    IsSearching-swept c.args.core.now c.sweep_side.new.core c.sweep_side-2.new.core c.in_ok-sweep_side.ensures.swept
    c.in_ok-sweep_side-2.ensures.swept c.args.agenda.now
    (record { forward = c.sweep_side.new.antichains; backward = c.sweep_side-2.new.antichains; queue = c.args.agenda.now.queue }) refl
    c.in_ok-sweep_side.ensures.antichains c.in_ok-sweep_side-2.ensures.antichains c.requires
