use Rattle.std.proofs.Common.{true≢false, refl, sym, ◌∙◌, subst}
use Rattle.bucket.specs.declared.id.Id.{Id}
use Rattle.closer.proofs.SearchSteps.{IsSearching-dead, IsSearching-whole, IsSearching-joins}
use Rattle.label_core.specs.CoreState.{IsLiveAt}
use Rattle.closer.proofs.exploring.extend_next.Goals as goal

pub returns-then-not-is_live-clause-searching : goal.returns-then-not-is_live-clause-searching
returns-then-not-is_live-clause-searching c =
    IsSearching-dead c.args.core.now c.args.agenda.now c.args.wait c.if-wait-ne0.true
    (λ live. true≢false (sym (c.is_live.ensures.1 (subst (λ (id : Id). IsLiveAt c.args.core.now.state id) (sym c.id.ensures) live)) ∙ c.if-not-is_live.true))
    c.requires.next

pub returns-then-branch-clause-searching : goal.returns-then-branch-clause-searching
returns-then-branch-clause-searching c =
    IsSearching-whole c.args.budget c.args.core.now c.extend_whole.new.core c.extend_whole.new.agenda c.args.wait c.in_ok-extend_whole.ensures.run
    (c.in_ok-extend_whole.ensures.whole c.if-branch.true)

pub returns-clause-searching : goal.returns-clause-searching
returns-clause-searching c =
    IsSearching-joins c.extend_whole.new.core c.extend_whole.new.agenda
    (record { forward = c.extend_whole.new.agenda.forward; backward = c.extend_whole.new.agenda.backward; queue = c.push.new.self })
    c.args.wait refl refl c.in_ok-push.ensures (c.in_ok-extend_whole.ensures.open c.if-branch.false).0.next
