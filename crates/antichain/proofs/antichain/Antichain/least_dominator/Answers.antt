use Rattle.std.proofs.Common.{◌≡◌, List, take, ap}
use Rattle.antichain.proofs.Searches.{least-tells}
use Rattle.antichain.specs.declared.member.Member.{Member}
use Rattle.antichain.proofs.antichain.Antichain.least_dominator.Goals as goal

pub returns : goal.returns
returns c path_at path sound is of =
    let members = c.self.inside.members.items in
    let n = c.up_to-front.result in
    let later = rw c.deref.ensures.value at c.up_to-front.ensures.rest in
    let front : take n c.deref-2.result.now ≡ take n members = ap (λ (ms : List Member). take n ms) c.deref-2.ensures.value in
    let all = rw (← c.self.view_is) at sound in
    rw (← c.self.view_is) (least-tells c.args.side.now c.args.outline.now members n later path_at path all is of
    (take n c.deref-2.result.now) front c.least.result c.least.ensures)
