use Rattle.std.proofs.Common.{refl, sym, true≢false}
use Rattle.label.proofs.Growing.{label_last, Exist-same, no_extension-late, no_extension-not_new, no_extension-past_cap, IsNext-label}
use Rattle.label.proofs.extending.next_start.Goals as goal

pub deadline-requires-clause-from : goal.deadline-requires-clause-from
deadline-requires-clause-from c = (label_last c.args.side.now c.args.label.now c.requires.label).0

pub returns-then-label-deadline : goal.returns-then-label-deadline
returns-then-label-deadline c =
    no_extension-late c.args.side.now c.args.label.now c.args.x c.deadline.result c.requires.label c.deadline.ensures.value c.if-label-deadline.true

pub admits-requires-clause-exist : goal.admits-requires-clause-exist
admits-requires-clause-exist c =
    Exist-same c.args.side.now.instance c.args.label.now.visited c.args.label.now.path.items c.requires.label.visited
    c.requires.label.path.in_time.exist

pub returns-then-not-admits : goal.returns-then-not-admits
returns-then-not-admits c =
    no_extension-not_new c.args.side.now c.args.label.now c.args.x c.requires.label (λ h. true≢false (sym (c.if-not-admits.ensures.1 h)))

pub start_after-start-requires-clause-from : goal.start_after-start-requires-clause-from
start_after-start-requires-clause-from c = (label_last c.args.side.now c.args.label.now c.requires.label).0

pub returns-then-not-is_within_cap : goal.returns-then-not-is_within_cap
returns-then-not-is_within_cap c =
    no_extension-past_cap c.args.side.now c.args.label.now c.args.x c.start_after-start.result c.requires.label c.start_after-start.ensures.value
    (λ h. true≢false (sym (c.if-not-is_within_cap.ensures.1 h)))

pub returns : goal.returns
returns c =
    IsNext-label c.args.side.now c.args.label.now c.args.x c.start_after-start.result c.deadline.ensures.sound c.requires.label c.requires.next
    (c.if-not-admits.ensures.0 refl) c.start_after-start.ensures.value c.start_after-start.ensures.in_time (c.if-not-is_within_cap.ensures.0 refl)
