use Rattle.std.proofs.Common.{refl}
use Rattle.label_list.specs.declared.state.State.TheVariants.{Taken}
use Rattle.label_core.proofs.Cores.{there_on, IsCore-state, stepped-state}
use Rattle.label_core.proofs.machine.Core.take.Goals as goal

pub set_state-requires : goal.set_state-requires
set_state-requires c =
    there_on c.self.inside.instance.now c.self.inside.sides c.self.inside.notes.items c.self.inside.plan.items c.args.self.now c.self.view_is c.args.id c.requires.there

pub invariant_of-self : goal.invariant_of-self
invariant_of-self c =
    IsCore-state c.self.inside.instance.now c.self.inside.sides c.self.inside.notes.items c.self.inside.plan.items c.args.self.now c.self.view_is
    c.self.inside.gain c.self.inside.labels c.self.invariant c.args.id Taken c.set_state.new.self c.requires.there c.requires refl c.set_state.ensures

pub returns : goal.returns
returns c =
    stepped-state c.self.inside.instance.now c.self.inside.sides c.self.inside.notes.items c.self.inside.plan.items c.args.self.now c.self.view_is c.args.id Taken
    c.set_state.new.self c.set_state.ensures
