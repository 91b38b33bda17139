use Rattle.std.proofs.Common.{◌≡◌, ◌≤◌, ◌+◌, ℕ, suc, length, get_or, rules, refl, sym, ap, ◌∙◌, subst, arith, true≢false}
use Rattle.log_check.proofs.OpenSeats.{KeptBelow, kept_at_seat, has_at_seat, KeptBelow-more, all_kept, first_open_label, number_at, label_at_side}
use Rattle.log_check.specs.Extending.{IsFirstOpen}
use Rattle.log_check.specs.Reading.{Read, face_in}
use Rattle.log_check.proofs.extending.first_open.Goals as goal

pub loop-i-init : goal.loop-i-init
loop-i-init c = record {
  root = kept_at_seat c.listed-listed.result.now c.args.seated.now c.args.end 0 _ c.listed-listed.ensures refl
      (c.in_ok-has_first_labels.ensures.0 c.if-not-branch.false);
  labels = λ j k l. absurd (omega arith);
}

pub has_extensions-requires : goal.has_extensions-requires
has_extensions-requires c =
    label_at_side c.args.seated.now.instance c.args.seated.now.log c.args.end _ c.at-standing.result.now.labels.items c.at-standing.result.now.places.items
    c.loop-i.i c.label.result.now (face_in c.listed-listed.result.now c.args.end) c.at-standing.ensures c.label.ensures
    (ap (λ (r : Read). face_in r c.args.end) c.listed-listed.ensures)

pub returns-then-not-branch-2 : goal.returns-then-not-branch-2
returns-then-not-branch-2 c =
    let I = c.args.seated.now.instance in
    let log = c.args.seated.now.log in
    let e = c.args.end in
    let labels = c.at-standing.result.now.labels.items in
    let places = c.at-standing.result.now.places.items in
    let k = c.place.result in
    let label = (c.at-standing.ensures.each c.loop-i.i k c.label.result.now c.label.ensures c.place.ensures).0 in
    let found = first_open_label I log e labels places c.loop-i.i k c.label.result.now c.at-standing.ensures c.label.ensures c.place.ensures c.loop-i.invariant
    (λ keeps. true≢false (
    sym (c.in_ok-has_extensions.ensures.1 (has_at_seat c.listed-listed.result.now c.args.seated.now e (suc k) _ c.listed-listed.ensures label.0 keeps))
    ∙ c.if-not-branch-2.true
    )) in
    let next : suc k ≡ c.from.result + 1 = omega (arith, c.from.ensures) in
    subst (λ (p : ℕ). IsFirstOpen I log e p) next found

pub loop-i-preserved : goal.loop-i-preserved
loop-i-preserved c =
    let I = c.args.seated.now.instance in
    let log = c.args.seated.now.log in
    let e = c.args.end in
    let labels = c.at-standing.result.now.labels.items in
    let places = c.at-standing.result.now.places.items in
    let i = c.loop-i.i in
    let k = get_or places i 0 in
    let place = number_at I log e _ labels places i c.label.result.now c.at-standing.ensures c.label.ensures in
    let label = (c.at-standing.ensures.each i k c.label.result.now c.label.ensures place).0 in
    let keeps = kept_at_seat c.listed-listed.result.now c.args.seated.now e (suc k) _ c.listed-listed.ensures label.0
    (c.in_ok-has_extensions.ensures.0 c.if-not-branch-2.false) in
    let next : suc i ≡ i + 1 = omega arith in
    subst (λ (n : ℕ). KeptBelow I log e places n) next (KeptBelow-more I log e places i k place keeps c.loop-i.invariant)

pub returns : goal.returns
returns c =
    let labels = c.at-standing.result.now.labels.items in
    let end : length labels ≤ c.loop-i.i = search rules in
    all_kept c.args.seated.now.instance c.args.seated.now.log c.args.end labels c.at-standing.result.now.places.items c.loop-i.i c.at-standing.ensures end c.loop-i.invariant
