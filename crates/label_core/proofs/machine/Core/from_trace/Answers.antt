use Rattle.std.proofs.Common.{◌∙◌}
use Rattle.label_core.proofs.TraceRuns.{legal-given, machine_is, IsCore-given}
use Rattle.label_core.proofs.machine.Core.from_trace.Goals as goal

pub returns-in_err-plan-clause-legal : goal.returns-in_err-plan-clause-legal
returns-in_err-plan-clause-legal c =
    legal-given c.args.instance.now c.args.forward.now c.args.backward.now c.args.trace c.requires.forward c.requires.backward c.requires.trace
    c.plan.ensures.feasible

pub returns-in_err-settled_side-clause-legal : goal.returns-in_err-settled_side-clause-legal
returns-in_err-settled_side-clause-legal c =
    legal-given c.args.instance.now c.args.forward.now c.args.backward.now c.args.trace c.requires.forward c.requires.backward c.requires.trace
    c.plan.ensures.feasible

pub returns-in_err-settled_side-2-clause-legal : goal.returns-in_err-settled_side-2-clause-legal
returns-in_err-settled_side-2-clause-legal c =
    legal-given c.args.instance.now c.args.forward.now c.args.backward.now c.args.trace c.requires.forward c.requires.backward c.requires.trace
    c.plan.ensures.feasible

pub returns-clause-legal : goal.returns-clause-legal
returns-clause-legal c =
    legal-given c.args.instance.now c.args.forward.now c.args.backward.now c.args.trace c.requires.forward c.requires.backward c.requires.trace
    c.plan.ensures.feasible

pub from_parts-requires : goal.from_parts-requires
from_parts-requires c =
    IsCore-given c.args.instance.now c.args.forward.now c.args.backward.now c.args.trace c.requires.forward c.requires.backward c.requires.trace
    c.plan.ensures.feasible c.worth-gain.result c.in_ok-plan.plan.items c.new-notes.result.items c.settled_side.new.notes.items c.settled_side-2.new.notes.items
    c.in_ok-settled_side.field-0 c.in_ok-settled_side-2.field-0 c.worth-gain.ensures (c.in_ok-plan.ensures.items ∙ c.plan.ensures.value)
    c.new-notes.ensures.items c.in_ok-settled_side.ensures.labels c.in_ok-settled_side.ensures.notes c.in_ok-settled_side-2.ensures.labels
    c.in_ok-settled_side-2.ensures.notes
    c.labels-labels.result c.labels-labels.ensures

pub returns-clause-last : goal.returns-clause-last
returns-clause-last c =
    c.from_parts.ensures
    ∙ machine_is c.args.instance.now c.args.forward.now c.args.backward.now c.args.trace c.requires.forward c.requires.backward c.requires.trace
    c.plan.ensures.feasible c.worth-gain.result c.in_ok-plan.plan.items c.new-notes.result.items c.settled_side.new.notes.items c.settled_side-2.new.notes.items
    c.in_ok-settled_side.field-0 c.in_ok-settled_side-2.field-0 c.worth-gain.ensures (c.in_ok-plan.ensures.items ∙ c.plan.ensures.value)
    c.new-notes.ensures.items c.in_ok-settled_side.ensures.labels c.in_ok-settled_side.ensures.notes c.in_ok-settled_side-2.ensures.labels
    c.in_ok-settled_side-2.ensures.notes
