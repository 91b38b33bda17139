use Rattle.antichain.proofs.Changes.{IsRising-removed, IsAntichainOf-removed, Leaves-removed, Leaves-nothing}
use Rattle.antichain.specs.Antichains.{HasIdAt}
use Rattle.antichain.proofs.antichain.Antichain.remove.Goals as goal

pub invariant_of-self : goal.invariant_of-self
invariant_of-self c =
    let ms = c.self.inside.members.items in
    let at : HasIdAt ms c.args.id c.in-Some.place = rw c.deref-3.ensures.value at c.in-Some.ensures in
    IsRising-removed ms c.remove.new.self.items c.args.id c.in-Some.place at c.remove.ensures.by_index.2 c.remove.result c.remove.ensures.value c.self.invariant

pub returns-in-Some-clause-out : goal.returns-in-Some-clause-out
returns-in-Some-clause-out c distinct starts =
    let ms = c.self.inside.members.items in
    let at : HasIdAt ms c.args.id c.in-Some.place = rw c.deref-3.ensures.value at c.in-Some.ensures in
    let once = rw (← c.self.view_is) at distinct in
    rw (← c.self.view_is) (Leaves-removed ms c.remove.new.self.items c.args.id c.in-Some.place at c.remove.ensures.by_index.2 c.remove.result c.remove.ensures.value once)

pub returns-in-Some-clause-kept : goal.returns-in-Some-clause-kept
returns-in-Some-clause-kept c S path_at h =
    let ms = c.self.inside.members.items in
    let at : HasIdAt ms c.args.id c.in-Some.place = rw c.deref-3.ensures.value at c.in-Some.ensures in
    let before = rw (← c.self.view_is) at h in
    IsAntichainOf-removed ms c.remove.new.self.items c.args.id c.in-Some.place at c.remove.ensures.by_index.2 c.remove.result c.remove.ensures.value S path_at before

pub returns-in-None-clause-out : goal.returns-in-None-clause-out
returns-in-None-clause-out c distinct starts =
    let ms = c.self.inside.members.items in
    let nowhere = rw c.deref-3.ensures.value at c.in-None.ensures in
    let front = rw c.deref.ensures.value at c.before-from.ensures.front in
    let back = rw c.deref-2.ensures.value at c.up_to-to.ensures.rest in
    let all = rw (← c.self.view_is) at starts in
    rw (← c.self.view_is) (Leaves-nothing ms c.args.id c.args.start c.before-from.result c.up_to-to.result nowhere front back all)
