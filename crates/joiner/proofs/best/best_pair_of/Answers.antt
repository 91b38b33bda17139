use Rattle.std.proofs.Common.{List, map}
use Rattle.std.proofs.lemmas.Result.{IfOk-weaker}
use Rattle.joiner.specs.Pairs.{IsBest}
use Rattle.joiner.specs.Parts.{IsBestInGroups}
use Rattle.label.specs.declared.label.Label.{Label}
use Rattle.joiner.proofs.best.best_pair_of.Goals as goal

pub groups_of_labels-requires-clause-each : goal.groups_of_labels-requires-clause-each
groups_of_labels-requires-clause-each c = rw c.instance.ensures.value c.requires.backward

pub best_of_groups-requires-clause-grouped : goal.best_of_groups-requires-clause-grouped
best_of_groups-requires-clause-grouped c = rw c.deref.ensures.value (rw c.instance.ensures.value at c.in_ok-groups.ensures.grouped)

pub best_of_groups-requires-clause-represents : goal.best_of_groups-requires-clause-represents
best_of_groups-requires-clause-represents c =
    (map (λ l. l.now) c.args.backward.now, rw c.deref.ensures.value (rw c.instance.ensures.value at c.in_ok-groups.ensures.represents))

pub returns : goal.returns
returns c =
    let J = c.args.side.now.instance in
    let fs : List Label = map (λ l. l.now) c.args.forward.now in
    let bs : List Label = map (λ l. l.now) c.args.backward.now in
    IfOk-weaker c.best_of_groups.result
    (IsBestInGroups J fs c.deref.result.now c.args.floor)
    (IsBest J fs bs c.args.floor)
    (λ best h. h bs (rw c.deref.ensures.value (rw c.instance.ensures.value at c.in_ok-groups.ensures.represents)))
    c.best_of_groups.ensures
