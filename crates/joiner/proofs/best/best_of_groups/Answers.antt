use Rattle.std.proofs.Common.{List, map}
use Rattle.joiner.proofs.Representing.{IsBest-walked, IsSound-ranked, IsBounding-ranking}
use Rattle.joiner.specs.Entries.{IsAmong}
use Rattle.joiner.specs.Represented.{IsFirst}
use Rattle.label.specs.declared.label.Label.{Label}
use Rattle.joiner.proofs.best.best_of_groups.Goals as goal

pub best_of_walk-requires-clause-grouped : goal.best_of_walk-requires-clause-grouped
best_of_walk-requires-clause-grouped c = rw c.instance-instance.ensures.value c.requires.grouped

pub best_of_walk-requires-clause-sound : goal.best_of_walk-requires-clause-sound
best_of_walk-requires-clause-sound c =
    let J = c.args.side.now.instance in
    let inst = c.instance-instance.ensures.sound.instance in
    let fs : List Label = map (λ l. l.now) c.args.forward.now in
    rw (c.deref.ensures.value, c.instance-instance.ensures.value)
    (IsSound-ranked J inst fs c.requires.represents.0 c.in_ok-order.order.items c.in_ok-order.ensures)

pub best_of_walk-requires-clause-bounding : goal.best_of_walk-requires-clause-bounding
best_of_walk-requires-clause-bounding c =
    let J = c.args.side.now.instance in
    let inst = c.instance-instance.ensures.sound.instance in
    let fs : List Label = map (λ l. l.now) c.args.forward.now in
    rw (c.deref.ensures.value, c.instance-instance.ensures.value)
    (IsBounding-ranking J inst fs c.requires.represents.0 c.args.groups.now c.in_ok-order.order.items c.requires.represents.1 c.in_ok-order.ensures)

pub returns : goal.returns
returns c =
    let J = c.args.side.now.instance in
    let inst = c.instance-instance.ensures.sound.instance in
    let fs : List Label = map (λ l. l.now) c.args.forward.now in
    let walked = c.best_of_walk.ensures in
    λ bs represents.
    IsBest-walked J inst fs bs c.args.floor (IsFirst c.in_ok-order.order.items) (IsAmong c.args.groups.now) c.best_of_walk.result
    c.in_ok-order.ensures.represents represents walked.above (rw (c.deref.ensures.value, c.instance-instance.ensures.value) at walked.covered)
    (rw (c.deref.ensures.value, c.instance-instance.ensures.value) at walked.found)
