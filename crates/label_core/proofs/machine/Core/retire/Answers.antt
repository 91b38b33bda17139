use Rattle.std.proofs.Common.{refl}
use Rattle.label_list.specs.declared.state.State.TheVariants.{Retired}
use Rattle.label_core.proofs.Cores.{there_on, IsCore-note, stepped-note}
use Rattle.label_core.specs.CoreState.{Retires}
use Rattle.label_core.specs.Events.{RetireLabel}
use Rattle.label_core.proofs.machine.Core.retire.Goals as goal

pub set_state-requires : goal.set_state-requires
set_state-requires c =
    there_on c.self.inside.instance.now c.self.inside.sides c.self.inside.notes.items c.self.inside.plan.items c.args.self.now c.self.view_is c.args.id c.requires.live.there

pub invariant_of-self-2 : goal.invariant_of-self-2
invariant_of-self-2 c =
    IsCore-note c.self.inside.instance.now c.self.inside.sides c.self.inside.notes.items c.self.inside.plan.items c.args.self.now c.self.view_is
    c.self.inside.gain c.self.inside.labels c.self.invariant c.args.id (Retired c.args.by.index) (Retires c.args.id c.args.by) c.set_state.new.self c.push.new.self.items (RetireLabel c.args.id c.args.by) c.requires.live.there c.requires refl
    c.set_state.ensures c.in_ok-push.ensures.items

pub returns-clause-stepped : goal.returns-clause-stepped
returns-clause-stepped c =
    stepped-note c.self.inside.instance.now c.self.inside.sides c.self.inside.notes.items c.self.inside.plan.items c.args.self.now c.self.view_is c.args.id (Retired c.args.by.index) (Retires c.args.id c.args.by)
    c.set_state.new.self c.push.new.self.items c.set_state.ensures c.in_ok-push.ensures.items
