use Rattle.std.proofs.Common.{ℕ, ◌<◌, ◌≤◌, List, [], map, sym, refl, subst, arith}
use Rattle.std.proofs.lemmas.List.{length-map}
use Rattle.joiner.proofs.FirstOver.{AreNotOver-more, IsFirstOver-label, NoneAbove-all}
use Rattle.joiner.proofs.Looking.{IsSound-root}
use Rattle.joiner.proofs.Pushing.{label_behind, All-behind}
use Rattle.joiner.proofs.Representing.{HasOver-entry, HasNoneOver-entry}
use Rattle.joiner.specs.Entries.{root}
use Rattle.label.specs.Labels.{IsLabelOf}
use Rattle.label.specs.declared.label.Label.{Label}
use Rattle.joiner.proofs.first.first_over_of.Goals as goal

pub groups_of_labels-requires-clause-each : goal.groups_of_labels-requires-clause-each
groups_of_labels-requires-clause-each c = rw c.instance-instance.ensures.value c.requires.backward

pub is_over-requires-clause-sound : goal.is_over-requires-clause-sound
is_over-requires-clause-sound c = rw c.root.ensures (IsSound-root c.instance-instance.result.now)

pub returns-then-is_over : goal.returns-then-is_over
returns-then-is_over c =
    let J = c.args.side.now.instance in
    let bs : List Label = map (λ l. l.now) c.args.backward.now in
    record {
      there = omega arith;
      some = HasOver-entry J c.instance-instance.ensures.sound.instance [] bs c.in_ok-groups.groups.items c.args.floor [] root
          (rw c.instance-instance.ensures.value at c.in_ok-groups.ensures.represents) refl
          (rw (c.deref.ensures.value, c.instance-instance.ensures.value, c.root.ensures) at c.if-is_over.ensures.over);
      none_before = λ i l. absurd (omega (arith, l));
    }

pub loop-place-init : goal.loop-place-init
loop-place-init c =
    let J = c.args.side.now.instance in
    let bs : List Label = map (λ l. l.now) c.args.backward.now in
    record {
      root = HasNoneOver-entry J c.instance-instance.ensures.sound.instance [] bs c.in_ok-groups.groups.items c.args.floor [] root
          (rw c.instance-instance.ensures.value at c.in_ok-groups.ensures.represents) refl
          (rw (c.deref.ensures.value, c.instance-instance.ensures.value, c.root.ensures) at c.if-is_over.ensures.none);
      each = λ k label l at. absurd (omega (arith, l));
    }

pub is_label_over-requires-clause-label : goal.is_label_over-requires-clause-label
is_label_over-requires-clause-label c =
    All-behind (IsLabelOf c.args.side.now) (λ l. l.now) c.args.forward.now c.loop-place.place c.index-forward-place.result
    c.loop-place-test.true c.index-forward-place.is c.requires.forward

pub returns-then-is_label_over : goal.returns-then-is_label_over
returns-then-is_label_over c =
    let fs : List Label = map (λ l. l.now) c.args.forward.now in
    let bs : List Label = map (λ l. l.now) c.args.backward.now in
    let n = c.loop-place.place in
    let x = c.index-forward-place.result in
    let P : ℕ → Type 0 = λ m. n < m in
    IsFirstOver-label c.args.side.now.instance fs bs c.args.floor n x.now
    (label_behind (λ l. l.now) c.args.forward.now n x c.loop-place-test.true c.index-forward-place.is)
    (subst P (sym (length-map c.args.forward.now (λ l. l.now))) c.loop-place-test.true)
    ((rw c.deref-in-loop-place.ensures.value at c.if-is_label_over.ensures.over) bs (rw c.instance-instance.ensures.value at c.in_ok-groups.ensures.represents))
    c.loop-place.invariant

pub loop-place-preserved : goal.loop-place-preserved
loop-place-preserved c =
    let fs : List Label = map (λ l. l.now) c.args.forward.now in
    let bs : List Label = map (λ l. l.now) c.args.backward.now in
    let n = c.loop-place.place in
    let x = c.index-forward-place.result in
    AreNotOver-more c.args.side.now.instance fs bs c.args.floor n x.now
    (label_behind (λ l. l.now) c.args.forward.now n x c.loop-place-test.true c.index-forward-place.is)
    ((rw c.deref-in-loop-place.ensures.value at c.if-is_label_over.ensures.none) bs (rw c.instance-instance.ensures.value at c.in_ok-groups.ensures.represents))
    c.loop-place.invariant

pub returns : goal.returns
returns c =
    let fs : List Label = map (λ l. l.now) c.args.forward.now in
    let bs : List Label = map (λ l. l.now) c.args.backward.now in
    let P : ℕ → Type 0 = λ m. m ≤ c.loop-place.place in
    NoneAbove-all c.args.side.now.instance fs bs c.args.floor c.loop-place.place
    (subst P (sym (length-map c.args.forward.now (λ l. l.now))) c.loop-place-test.false) c.loop-place.invariant
