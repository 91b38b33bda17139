use Rattle.antichain.proofs.Changes.{IsAntichainOf-parted, TakesOut-count}
use Rattle.antichain.proofs.Judgements.{beaten-tells}
use Rattle.antichain.proofs.Rising.{rising-kept}
use Rattle.antichain.specs.Judging.{Beaten, Unbeaten}
use Rattle.antichain.proofs.antichain.Antichain.take_beaten.Goals as goal

pub invariant_of-self : goal.invariant_of-self
invariant_of-self c =
    rising-kept (Beaten c.args.side.now c.args.outline.now) (Unbeaten c.args.side.now c.args.outline.now) c.sift_beaten.ensures.out.parted c.self.invariant

pub returns-clause-out : goal.returns-clause-out
returns-clause-out c path_at path sound is of =
    let all = rw (← c.self.view_is) at sound in
    rw (← c.self.view_is) (beaten-tells c.args.side.now c.args.outline.now path_at path c.self.inside.members.items c.sift_beaten.new.members.items
    c.args.ids.now.items c.sift_beaten.new.ids.items all is of c.sift_beaten.ensures.out)

pub returns-clause-kept : goal.returns-clause-kept
returns-clause-kept c S path_at h =
    let before = rw (← c.self.view_is) at h in
    IsAntichainOf-parted (Beaten c.args.side.now c.args.outline.now) (Unbeaten c.args.side.now c.args.outline.now) S path_at c.sift_beaten.ensures.out.parted before

pub returns-clause-count : goal.returns-clause-count
returns-clause-count c =
    rw (← c.self.view_is) (TakesOut-count (Beaten c.args.side.now c.args.outline.now) (Unbeaten c.args.side.now c.args.outline.now)
    c.self.inside.members.items c.sift_beaten.new.members.items c.args.ids.now.items c.sift_beaten.new.ids.items c.sift_beaten.ensures.out)
