use Rattle.std.proofs.Common.{◌<◌, ◌≤◌}
use Rattle.antichain.proofs.Changes.{IsAntichainOf-parted, TakesOut-count}
use Rattle.antichain.proofs.Rising.{rising-kept}
use Rattle.antichain.specs.declared.member.Member.{Member}
use Rattle.antichain.proofs.antichain.Antichain.prune.Goals as goal

pub invariant_of-self : goal.invariant_of-self
invariant_of-self c =
    rising-kept (λ (m : Member). m.outline.bound ≤ c.args.gain) (λ (m : Member). c.args.gain < m.outline.bound) c.sift_bounded.ensures.out.parted c.self.invariant

pub returns-clause-out : goal.returns-clause-out
returns-clause-out c = rw (← c.self.view_is) c.sift_bounded.ensures.out

pub returns-clause-kept : goal.returns-clause-kept
returns-clause-kept c S path_at h =
    let before = rw (← c.self.view_is) at h in
    IsAntichainOf-parted (λ (m : Member). m.outline.bound ≤ c.args.gain) (λ (m : Member). c.args.gain < m.outline.bound) S path_at
    c.sift_bounded.ensures.out.parted before

pub returns-clause-count : goal.returns-clause-count
returns-clause-count c =
    rw (← c.self.view_is) (TakesOut-count (λ (m : Member). m.outline.bound ≤ c.args.gain) (λ (m : Member). c.args.gain < m.outline.bound)
    c.self.inside.members.items c.sift_bounded.new.members.items c.args.ids.now.items c.sift_bounded.new.ids.items c.sift_bounded.ensures.out)
