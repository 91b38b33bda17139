use Rattle.std.proofs.Common.{List, []}
use Rattle.joiner.proofs.FirstOver.{OnTrue-from, OnFalse-from}
use Rattle.joiner.proofs.LabelEnds.{IsLabelAt-side}
use Rattle.joiner.proofs.Represented.{IsTipAt-entry}
use Rattle.joiner.proofs.Representing.{HasOver-entry, HasNoneOver-entry, HasNoneOver-bound}
use Rattle.joiner.specs.Entries.{IsAmong}
use Rattle.joiner.specs.Pairs.{HasOver, HasNoneOver}
use Rattle.joiner.specs.Represented.{Represents}
use Rattle.joiner.specs.Walks.{MeetsOver, MeetsNoneOver}
use Rattle.label.specs.declared.label.Label.{Label}
use Rattle.strip_model.specs.declared.end.End.TheVariants.{Forward, Backward}
use Rattle.joiner.proofs.first.is_label_over.Goals as goal

pub entry_of-entry-requires : goal.entry_of-entry-requires
entry_of-entry-requires c =
    IsLabelAt-side c.args.side.now c.instance-instance.result.now c.args.label.now c.instance-instance.ensures.value c.requires.side c.requires.label

pub returns-then-bound-floor-clause-none : goal.returns-then-bound-floor-clause-none
returns-then-bound-floor-clause-none c bs represents =
    HasNoneOver-bound c.args.side.now.instance c.instance-instance.ensures.sound.instance [] bs c.args.floor c.args.label.now.path.items
    (rw c.bound.ensures.value at c.if-bound-floor.true)

pub returns-clause-over : goal.returns-clause-over
returns-clause-over c =
    let J = c.args.side.now.instance in
    let f = c.entry_of-entry.result in
    let gs = c.args.groups.now in
    let path = c.args.label.now.path.items in
    let tip = IsTipAt-entry J Forward c.args.place c.args.label.now f (rw c.instance-instance.ensures.value at c.entry_of-entry.ensures) in
    OnTrue-from c.is_over.result (MeetsOver J gs c.args.floor f)
    ((bs : List Label) → Represents J Backward bs (IsAmong gs) → HasOver J path bs c.args.floor)
    (rw c.instance-instance.ensures.value at c.is_over.ensures.over)
    (λ over bs represents. HasOver-entry J c.instance-instance.ensures.sound.instance [] bs gs c.args.floor path f represents tip over)

pub returns-clause-none : goal.returns-clause-none
returns-clause-none c =
    let J = c.args.side.now.instance in
    let f = c.entry_of-entry.result in
    let gs = c.args.groups.now in
    let path = c.args.label.now.path.items in
    let tip = IsTipAt-entry J Forward c.args.place c.args.label.now f (rw c.instance-instance.ensures.value at c.entry_of-entry.ensures) in
    OnFalse-from c.is_over.result (MeetsNoneOver J gs c.args.floor f)
    ((bs : List Label) → Represents J Backward bs (IsAmong gs) → HasNoneOver J path bs c.args.floor)
    (rw c.instance-instance.ensures.value at c.is_over.ensures.none)
    (λ none bs represents. HasNoneOver-entry J c.instance-instance.ensures.sound.instance [] bs gs c.args.floor path f represents tip none)
