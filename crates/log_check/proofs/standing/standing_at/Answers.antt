use Rattle.std.proofs.Common.{◌≡◌, ◌<◌, ◌+◌, ◌∙◌, ◌++◌, ◌∷◌, [], List, ap, suc, ℕ, length, rules, sym, subst, arith}
use Rattle.label.specs.Labels.{IsLabelWith}
use Rattle.label.specs.declared.label.Label.{Label}
use Rattle.log_check.proofs.StandingLabels.{StandBelow-marked, StandBelow-more}
use Rattle.log_check.specs.Faults.{IsStanding}
use Rattle.log_check.specs.Reading.{Read, face_in}
use Rattle.log_check.specs.Standing.{StandBelow}
use Rattle.proof_log.specs.Labels.{paths_in, path_at}
use Rattle.log_check.proofs.standing.standing_at.Goals as goal

pub loop-k-preserved-then-is_marked : goal.loop-k-preserved-then-is_marked
loop-k-preserved-then-is_marked c =
    StandBelow-marked c.args.marked.now.instance c.args.marked.now.log c.args.end c.loop-k.k c.loop-k.labels.items c.loop-k.places.items (search rules) c.loop-k.invariant

pub loop-k-preserved : goal.loop-k-preserved
loop-k-preserved c =
    let I = c.args.marked.now.instance in
    let log = c.args.marked.now.log in
    let e = c.args.end in
    let k = c.loop-k.k in
    let label = c.in_ok-restore.field-0 in
    let count = c.paths-k-end.ensures.count ∙ ap (λ (r : Read). length (paths_in r.log e)) (c.reading.ensures ∙ c.listed-listed.ensures) in
    let there : k < length (paths_in log e) = omega (arith, c.loop-k-test.true, count) in
    let unmarked : IsStanding log e (suc k) = (there, sym c.is_marked.ensures ∙ c.if-is_marked.false) in
    let W : Read → Type 0 = λ r. IsLabelWith (face_in r e) (path_at r.log e k) label in
    let is = subst W c.listed-listed.ensures c.in_ok-restore.ensures in
    let more = StandBelow-more I log e k c.loop-k.labels.items c.loop-k.places.items label unmarked is c.loop-k.invariant in
    let L : List Label → Type 0 = λ labels. StandBelow I log e (k + 1) labels (c.loop-k.places.items ++ k ∷ []) in
    let P : List ℕ → Type 0 = λ places. StandBelow I log e (k + 1) c.push.new.self.items places in
    subst P (sym c.in_ok-push-2.ensures.items) (subst L (sym c.in_ok-push.ensures.items) more)

pub returns : goal.returns
returns c =
    let I = c.args.marked.now.instance in
    let log = c.args.marked.now.log in
    let e = c.args.end in
    let count = c.paths-k-end.ensures.count ∙ ap (λ (r : Read). length (paths_in r.log e)) (c.reading.ensures ∙ c.listed-listed.ensures) in
    let all : c.loop-k.k ≡ length (paths_in log e) = omega (arith, c.loop-k.auto.k-end, c.loop-k-test.false, count) in
    subst (λ (n : ℕ). StandBelow I log e n c.loop-k.labels.items c.loop-k.places.items) all c.loop-k.invariant
