use Rattle.std.proofs.Common.{◌≡◌, ◌+◌, List, length, sym, subst, arith}
use Rattle.admission.proofs.CarefulSteps.{IsReached-careful}
use Rattle.admission.proofs.Rows.{length-members, members-written}
use Rattle.admission.specs.Antichains.{members_of}
use Rattle.antichain.specs.declared.member.Member.{Member}
use Rattle.closer.proofs.FirstWaits.{IsAntichainAt-read}
use Rattle.closer.proofs.Swept.{SweepsAntichains, SweepsAntichains-more, SweepsSide-whole, antichains_still}
use Rattle.closer.proofs.sweeping.sweep_side.Goals as goal

pub prune-requires : goal.prune-requires
prune-requires c =
    let still : length (members_of c.loop-x.antichains.items) ≡ length (members_of c.args.antichains.now.items) =
    antichains_still c.args.core.now c.loop-x.core c.args.end c.loop-x.x (members_of c.args.antichains.now.items) (members_of c.loop-x.antichains.items)
    c.requires c.loop-x.invariant in
    IsAntichainAt-read c.loop-x.core c.args.end c.loop-x.antichains.items c.loop-x.x c.index_mut.result.now c.loop-x.invariant.has_antichains
    (omega (
      arith,
      c.loop-x-test.true,
      c.len-x-end.ensures,
      still,
      length-members c.loop-x.antichains.items,
      length-members c.args.antichains.now.items,
      c.args.antichains.now.ok.0,
    ))
    c.index_mut.ensures.value

pub loop-x-preserved : goal.loop-x-preserved
loop-x-preserved c =
    let still : length (members_of c.loop-x.antichains.items) ≡ length (members_of c.args.antichains.now.items) =
    antichains_still c.args.core.now c.loop-x.core c.args.end c.loop-x.x (members_of c.args.antichains.now.items) (members_of c.loop-x.antichains.items)
    c.requires c.loop-x.invariant in
    subst (λ (antichains : List (List Member)). SweepsAntichains c.args.core.now c.prune.new.core c.args.end (c.loop-x.x + 1) antichains)
    (sym (members-written c.loop-x.antichains.items c.loop-x.x c.prune.new.antichain))
    (SweepsAntichains-more c.args.core.now c.loop-x.core c.prune.new.core c.args.end c.loop-x.x (members_of c.loop-x.antichains.items)
    c.prune.new.antichain.members
    (omega (arith, c.loop-x-test.true, c.len-x-end.ensures, still, length-members c.args.antichains.now.items, c.args.antichains.now.ok.0)) c.loop-x.invariant
    c.in_ok-prune.ensures.quiet c.in_ok-prune.ensures.shrinks c.in_ok-prune.ensures.plan c.in_ok-prune.ensures.antichain c.in_ok-prune.ensures.bounds)

pub returns-clause-swept : goal.returns-clause-swept
returns-clause-swept c =
    let still : length (members_of c.loop-x.antichains.items) ≡ length (members_of c.args.antichains.now.items) =
    antichains_still c.args.core.now c.loop-x.core c.args.end c.loop-x.x (members_of c.args.antichains.now.items) (members_of c.loop-x.antichains.items)
    c.requires c.loop-x.invariant in
    SweepsSide-whole c.args.core.now c.loop-x.core c.args.end c.loop-x.x (members_of c.loop-x.antichains.items)
    (IsReached-careful 0 c.args.core.now c.loop-x.core c.labels.ensures.reached (c.loop-x.invariant.quiet 0))
    (omega (arith, c.loop-x-test.false, c.len-x-end.ensures, still, length-members c.args.antichains.now.items, c.args.antichains.now.ok.0))
    c.loop-x.invariant
