use Rattle.std.proofs.Common.{ℕ, List, map, sym, subst}
use Rattle.std.proofs.lemmas.List.{length-map}
use Rattle.joiner.proofs.Represented.{AreEntries-sound, Represents-grouped}
use Rattle.joiner.specs.Represented.{AreEntries}
use Rattle.label.specs.declared.label.Label.{Label}
use Rattle.strip_model.specs.declared.end.End.TheVariants.{Backward}
use Rattle.joiner.proofs.grouping.groups_of_labels.Goals as goal

pub groups_of-requires : goal.groups_of-requires
groups_of-requires c =
    let J = c.args.instance.now in
    let labels : List Label = map (λ l. l.now) c.args.backward.now in
    let es = c.in_ok-entries.entries.items in
    let P : ℕ → Type 0 = λ n. AreEntries J Backward labels n es in
    rw c.deref.ensures.value
    (AreEntries-sound J Backward labels es (subst P (sym (length-map c.args.backward.now (λ l. l.now))) c.in_ok-entries.ensures))

pub returns-clause-represents : goal.returns-clause-represents
returns-clause-represents c =
    let J = c.args.instance.now in
    let labels : List Label = map (λ l. l.now) c.args.backward.now in
    let es = c.in_ok-entries.entries.items in
    let P : ℕ → Type 0 = λ n. AreEntries J Backward labels n es in
    Represents-grouped J labels es c.in_ok-groups.groups.items
    (subst P (sym (length-map c.args.backward.now (λ l. l.now))) c.in_ok-entries.ensures)
    c.in_ok-groups.ensures.grouped.size (rw c.deref.ensures.value at c.in_ok-groups.ensures.gathered)
