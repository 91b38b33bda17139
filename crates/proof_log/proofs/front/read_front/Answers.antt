use Rattle.std.proofs.Common.{ℕ, [], ◌∷◌, ◌++◌, codes, map, sym, subst, arith}
use Rattle.plan_check.specs.PlanText.{count_line, acquisition_line}
use Rattle.proof_log.proofs.Parts.{failed_by, line_refused, line_passed, nothing_passed, both_passed, refused_behind, strips_passed, labels_passed}
use Rattle.proof_log.specs.AnswerReading.{Passes, IsUnread}
use Rattle.proof_log.specs.AnswerRefusal.{AtStatus, AtGain, AtStrips, AtLabels, AtLog, plan_stage}
use Rattle.proof_log.specs.AnswerText.{word_line, number_line, gain_line}
use Rattle.proof_log.proofs.front.read_front.Goals as goal

pub returns-in_err-read_heading-clause-unread : goal.returns-in_err-read_heading-clause-unread
returns-in_err-read_heading-clause-unread c =
    let old = c.args.reader.now in
    let e = c.in_err-read_heading.ensures in
    line_refused AtStatus AtStatus [] old old c.read_heading.new.reader c.in_err-read_heading.field-0.0 c.from_residual.result
    (nothing_passed AtStatus old c.requires) e.fault e.line c.from_residual.ensures.1

pub returns-in_err-gain-clause-unread : goal.returns-in_err-gain-clause-unread
returns-in_err-gain-clause-unread c =
    let old = c.args.reader.now in
    let r1 = c.read_heading.new.reader in
    let h = c.in_ok-read_heading.ensures in
    let p1 = line_passed AtStatus AtStatus [] (word_line (codes "Optimal")) old old r1 (nothing_passed AtStatus old c.requires) h.read (sym h.fault) in
    let e = c.in_err-gain.ensures in
    line_refused AtStatus AtGain (word_line (codes "Optimal") ∷ []) old r1 c.read_gain.new.reader c.in_err-gain.field-0.0 c.from_residual-in_err-gain.result
    p1 e.fault e.line c.from_residual-in_err-gain.ensures.1

pub returns-in_err-strips-clause-unread : goal.returns-in_err-strips-clause-unread
returns-in_err-strips-clause-unread c =
    let old = c.args.reader.now in
    let r1 = c.read_heading.new.reader in
    let r2 = c.read_gain.new.reader in
    let h = c.in_ok-read_heading.ensures in
    let g = c.in_ok-gain.ensures in
    let gain = gain_line c.in_ok-gain.gain in
    let p1 = line_passed AtStatus AtStatus [] (word_line (codes "Optimal")) old old r1 (nothing_passed AtStatus old c.requires) h.read (sym h.fault) in
    let p2 = line_passed AtStatus AtGain (word_line (codes "Optimal") ∷ []) gain old r1 r2 p1 g.read (sym g.fault) in
    let e = c.in_err-strips.ensures in
    line_refused AtStatus AtStrips (word_line (codes "Optimal") ∷ gain ∷ []) old r2 c.read_number.new.reader c.in_err-strips.field-0.0 c.from_residual-in_err-strips.result
    p2 e.fault e.line c.from_residual-in_err-strips.ensures.1

pub read_acquisitions-requires : goal.read_acquisitions-requires
read_acquisitions-requires c =
    let old = c.args.reader.now in
    let r1 = c.read_heading.new.reader in
    let r2 = c.read_gain.new.reader in
    let r3 = c.read_number.new.reader in
    let h = c.in_ok-read_heading.ensures in
    let g = c.in_ok-gain.ensures in
    let s = c.in_ok-strips.ensures in
    let gain = gain_line c.in_ok-gain.gain in
    let p1 = line_passed AtStatus AtStatus [] (word_line (codes "Optimal")) old old r1 (nothing_passed AtStatus old c.requires) h.read (sym h.fault) in
    let p2 = line_passed AtStatus AtGain (word_line (codes "Optimal") ∷ []) gain old r1 r2 p1 g.read (sym g.fault) in
    (strips_passed (word_line (codes "Optimal") ∷ gain ∷ []) c.in_ok-strips.strips old r2 r3 p2 s.limit s.read (sym s.fault)).begun

pub returns-in_err-plan-clause-unread : goal.returns-in_err-plan-clause-unread
returns-in_err-plan-clause-unread c =
    let old = c.args.reader.now in
    let r1 = c.read_heading.new.reader in
    let r2 = c.read_gain.new.reader in
    let r3 = c.read_number.new.reader in
    let r4 = c.read_acquisitions.new.reader in
    let h = c.in_ok-read_heading.ensures in
    let g = c.in_ok-gain.ensures in
    let s = c.in_ok-strips.ensures in
    let gain = gain_line c.in_ok-gain.gain in
    let count = count_line c.in_ok-strips.strips in
    let p1 = line_passed AtStatus AtStatus [] (word_line (codes "Optimal")) old old r1 (nothing_passed AtStatus old c.requires) h.read (sym h.fault) in
    let p2 = line_passed AtStatus AtGain (word_line (codes "Optimal") ∷ []) gain old r1 r2 p1 g.read (sym g.fault) in
    let p3 = strips_passed (word_line (codes "Optimal") ∷ gain ∷ []) c.in_ok-strips.strips old r2 r3 p2 s.limit s.read (sym s.fault) in
    failed_by (λ unread. IsUnread AtStatus old r4 unread) c.in_err-plan.field-0.0 c.from_residual-in_err-plan.result c.from_residual-in_err-plan.ensures.1
    (refused_behind AtStatus (plan_stage c.in_ok-strips.strips) (word_line (codes "Optimal") ∷ gain ∷ count ∷ []) old r3 r4 c.in_err-plan.field-0.0 p3 c.in_err-plan.ensures.unread)

pub returns-in_err-labels-clause-unread : goal.returns-in_err-labels-clause-unread
returns-in_err-labels-clause-unread c =
    let old = c.args.reader.now in
    let r1 = c.read_heading.new.reader in
    let r2 = c.read_gain.new.reader in
    let r3 = c.read_number.new.reader in
    let r4 = c.read_acquisitions.new.reader in
    let r5 = c.read_number-2.new.reader in
    let h = c.in_ok-read_heading.ensures in
    let g = c.in_ok-gain.ensures in
    let s = c.in_ok-strips.ensures in
    let strips = c.in_ok-strips.strips in
    let plan = c.in_ok-plan.plan.items in
    let read = c.in_ok-plan.ensures.read in
    let gain = gain_line c.in_ok-gain.gain in
    let p1 = line_passed AtStatus AtStatus [] (word_line (codes "Optimal")) old old r1 (nothing_passed AtStatus old c.requires) h.read (sym h.fault) in
    let p2 = line_passed AtStatus AtGain (word_line (codes "Optimal") ∷ []) gain old r1 r2 p1 g.read (sym g.fault) in
    let p3 = strips_passed (word_line (codes "Optimal") ∷ gain ∷ []) strips old r2 r3 p2 s.limit s.read (sym s.fault) in
    let p4 = both_passed AtStatus (plan_stage strips) AtLabels (word_line (codes "Optimal") ∷ gain ∷ count_line strips ∷ []) (map acquisition_line plan) old r3 r4 p3 read.passes in
    let e = c.in_err-labels.ensures in
    line_refused AtStatus AtLabels (word_line (codes "Optimal") ∷ gain ∷ count_line strips ∷ map acquisition_line plan) old r4 r5 c.in_err-labels.field-0.0
    c.from_residual-in_err-labels.result p4 e.fault e.line c.from_residual-in_err-labels.ensures.1

pub returns-clause-read : goal.returns-clause-read
returns-clause-read c =
    let old = c.args.reader.now in
    let r1 = c.read_heading.new.reader in
    let r2 = c.read_gain.new.reader in
    let r3 = c.read_number.new.reader in
    let r4 = c.read_acquisitions.new.reader in
    let r5 = c.read_number-2.new.reader in
    let h = c.in_ok-read_heading.ensures in
    let g = c.in_ok-gain.ensures in
    let s = c.in_ok-strips.ensures in
    let l = c.in_ok-labels.ensures in
    let strips = c.in_ok-strips.strips in
    let labels = c.in_ok-labels.labels in
    let plan = c.in_ok-plan.plan.items in
    let read = c.in_ok-plan.ensures.read in
    let gain = gain_line c.in_ok-gain.gain in
    let p1 = line_passed AtStatus AtStatus [] (word_line (codes "Optimal")) old old r1 (nothing_passed AtStatus old c.requires) h.read (sym h.fault) in
    let p2 = line_passed AtStatus AtGain (word_line (codes "Optimal") ∷ []) gain old r1 r2 p1 g.read (sym g.fault) in
    let p3 = strips_passed (word_line (codes "Optimal") ∷ gain ∷ []) strips old r2 r3 p2 s.limit s.read (sym s.fault) in
    let p4 = both_passed AtStatus (plan_stage strips) AtLabels (word_line (codes "Optimal") ∷ gain ∷ count_line strips ∷ []) (map acquisition_line plan) old r3 r4 p3 read.passes in
    let p5 = labels_passed (word_line (codes "Optimal") ∷ gain ∷ count_line strips ∷ map acquisition_line plan) labels old r4 r5 p4 l.limit l.read (sym l.fault) in
    let L : ℕ → Type 0 = λ n. Passes AtStatus (AtLog labels)
    (word_line (codes "Optimal") ∷ gain ∷ count_line n ∷ (map acquisition_line plan ++ number_line (codes "labels") labels ∷ [])) old r5 in
    record {
      gain = g.limit;
      plan = record { few = omega (arith, read.all, s.limit); each = read.in_range };
      labels = l.limit;
      passes = subst L (sym read.all) p5;
    }
