use Rattle.std.proofs.Common.{◌≡◌, ℕ, All, length, sym, subst, ap, ◌∙◌, arith}
use Rattle.joiner.specs.LabelJoins.{IsLabelAt}
use Rattle.label.specs.declared.limits.TheConstants.{MAX_LISTED}
use Rattle.log_check.proofs.JoinedSeats.{labels_at_end, few_labels, stand_as, none_above_kept, first_over_first, over_as}
use Rattle.log_check.specs.Faults.{IsFirstPlace}
use Rattle.log_check.specs.Faults.Rule.{NoneJoinForMore}
use Rattle.log_check.specs.Reading.{Read}
use Rattle.proof_log.specs.Labels.{paths_in}
use Rattle.strip_model.specs.Orbit.{Orbit}
use Rattle.strip_model.specs.declared.end.End.TheVariants.{Forward, Backward}
use Rattle.log_check.proofs.joining.first_join.Goals as goal

pub first_over-requires-clause-forward : goal.first_over-requires-clause-forward
first_over-requires-clause-forward c =
    let I = c.args.seated.now.instance in
    let same : c.instance.result.now ≡ I = c.instance.ensures ∙ ap (λ (r : Read). r.instance) (c.reading-reading.ensures ∙ c.listed.ensures) in
    subst (λ (J : Orbit). All (IsLabelAt J Forward) c.deref.result.now) (sym same)
    (labels_at_end I c.args.seated.now.log Forward _ c.at-forward.result.now.labels.items c.at-forward.result.now.places.items c.deref.result.now
    c.deref.ensures.value c.at-forward.ensures)

pub first_over-requires-clause-backward : goal.first_over-requires-clause-backward
first_over-requires-clause-backward c =
    let I = c.args.seated.now.instance in
    let same : c.instance.result.now ≡ I = c.instance.ensures ∙ ap (λ (r : Read). r.instance) (c.reading-reading.ensures ∙ c.listed.ensures) in
    subst (λ (J : Orbit). All (IsLabelAt J Backward) c.deref-2.result.now) (sym same)
    (labels_at_end I c.args.seated.now.log Backward _ c.at-backward.result.now.labels.items c.at-backward.result.now.places.items c.deref-2.result.now
    c.deref-2.ensures.value c.at-backward.ensures)

pub first_over-requires-clause-few_forward : goal.first_over-requires-clause-few_forward
first_over-requires-clause-few_forward c =
    let count = c.paths.ensures.count ∙ ap (λ (r : Read). length (paths_in r.log Forward)) (c.reading-reading.ensures ∙ c.listed.ensures) in
    few_labels c.args.seated.now.instance c.args.seated.now.log Forward _ MAX_LISTED c.at-forward.result.now.labels.items c.at-forward.result.now.places.items
    c.deref.result.now c.deref.ensures.value c.at-forward.ensures (omega (arith, c.paths.ensures.few, count))

pub first_over-requires-clause-few_backward : goal.first_over-requires-clause-few_backward
first_over-requires-clause-few_backward c =
    let count = c.paths-2.ensures.count ∙ ap (λ (r : Read). length (paths_in r.log Backward)) (c.reading-reading.ensures ∙ c.listed.ensures) in
    few_labels c.args.seated.now.instance c.args.seated.now.log Backward _ MAX_LISTED c.at-backward.result.now.labels.items c.at-backward.result.now.places.items
    c.deref-2.result.now c.deref-2.ensures.value c.at-backward.ensures (omega (arith, c.paths-2.ensures.few, count))

pub returns-in-None : goal.returns-in-None
returns-in-None c =
    let I = c.args.seated.now.instance in
    let log = c.args.seated.now.log in
    let f = c.at-forward.result.now in
    let b = c.at-backward.result.now in
    let same = c.reading-reading.ensures ∙ c.listed.ensures in
    let forward = stand_as I log Forward _ f.labels.items f.places.items c.deref.result.now c.deref.ensures.value c.at-forward.ensures in
    let backward = stand_as I log Backward _ b.labels.items b.places.items c.deref-2.result.now c.deref-2.ensures.value c.at-backward.ensures in
    let found = over_as c.instance.result.now I c.log.result.now log c.deref.result.now c.deref-2.result.now c.in_ok-first_over.field-0
    (c.instance.ensures ∙ ap (λ (r : Read). r.instance) same) (c.log.ensures ∙ ap (λ (r : Read). r.log) same) c.in_ok-first_over.ensures in
    let none = rw c.in-None.is at found in
    none_above_kept I log c.deref.result.now c.deref-2.result.now f.places.items b.places.items forward backward none

pub returns-in-Some : goal.returns-in-Some
returns-in-Some c =
    let I = c.args.seated.now.instance in
    let log = c.args.seated.now.log in
    let f = c.at-forward.result.now in
    let b = c.at-backward.result.now in
    let same = c.reading-reading.ensures ∙ c.listed.ensures in
    let forward = stand_as I log Forward _ f.labels.items f.places.items c.deref.result.now c.deref.ensures.value c.at-forward.ensures in
    let backward = stand_as I log Backward _ b.labels.items b.places.items c.deref-2.result.now c.deref-2.ensures.value c.at-backward.ensures in
    let found = over_as c.instance.result.now I c.log.result.now log c.deref.result.now c.deref-2.result.now c.in_ok-first_over.field-0
    (c.instance.ensures ∙ ap (λ (r : Read). r.instance) same) (c.log.ensures ∙ ap (λ (r : Read). r.log) same) c.in_ok-first_over.ensures in
    let first = rw c.in-Some.is at found in
    let place = first_over_first I log c.deref.result.now c.deref-2.result.now f.places.items b.places.items forward backward c.in-Some.over first in
    subst (λ (n : ℕ). IsFirstPlace I log NoneJoinForMore n) (sym c.seat_of.ensures) place
