use Rattle.std.proofs.Common.{ℕ, ◌<◌, ◌%◌, List, length, get_or, sym, ◌∙◌, ap, subst, arith}
use Rattle.closer.proofs.FirstWaits.{AddsWaits-joins, MembersWait-more, MembersWait-all, member_there}
use Rattle.label_core.specs.CoreState.{labels_in, path_of}
use Rattle.bucket.specs.declared.limits.TheConstants.{BUCKETS}
use Rattle.antichain.specs.declared.member.Member.{Member}
use Rattle.closer.proofs.opening.wait_antichain.Goals as goal

pub wait_of-requires-clause-there : goal.wait_of-requires-clause-there
wait_of-requires-clause-there c =
    subst (λ (b : ℕ). c.member-item.result.id < length (labels_in c.args.core.now.state c.args.end (c.args.x % b))) (sym c.from.ensures)
    (member_there c.args.core.now c.args.end c.args.x (length (labels_in c.args.core.now.state c.args.end (c.args.x % BUCKETS))) c.args.antichain.now.members
    c.loop-member.member-index c.member-item.result c.requires
    (subst (λ (members : List Member). c.loop-member.member-index < length members) c.members-member-items.ensures.value c.loop-member-test.true)
    (c.member-item.is ∙ ap (λ (members : List Member). get_or members c.loop-member.member-index c.member-item.result) c.members-member-items.ensures.value))

pub loop-member-preserved : goal.loop-member-preserved
loop-member-preserved c = record {
  adds =
      AddsWaits-joins c.args.core.now c.args.queue.now c.loop-member.queue c.push.new.self c.wait_of.result c.wait_of.ensures.names c.in_ok-push.ensures
      c.loop-member.invariant.adds;
  waits =
      MembersWait-more c.args.core.now c.args.end c.args.x c.loop-member.queue c.push.new.self c.args.antichain.now.members c.loop-member.member-index c.member-item.result
      c.wait_of.result (subst (λ (members : List Member). c.loop-member.member-index < length members) c.members-member-items.ensures.value c.loop-member-test.true)
      (c.member-item.is ∙ ap (λ (members : List Member). get_or members c.loop-member.member-index c.member-item.result) c.members-member-items.ensures.value)
      c.in_ok-push.ensures c.wait_of.ensures.end
      (c.wait_of.ensures.path
      ∙ ap (λ (b : ℕ). path_of c.args.core.now.state (record { end = c.args.end; bucket = c.args.x % b; index = c.member-item.result.id })) c.from.ensures)
      c.loop-member.invariant.waits;
}

pub returns-clause-waits : goal.returns-clause-waits
returns-clause-waits c =
    MembersWait-all c.args.core.now c.args.end c.args.x c.loop-member.queue c.args.antichain.now.members c.loop-member.member-index
    (omega (arith, c.loop-member-test.false, ap (λ (members : List Member). length members) c.members-member-items.ensures.value)) c.loop-member.invariant.waits
