use Rattle.std.proofs.Common.{List, sym, subst}
use Rattle.antichain.proofs.Changes.{IsInserted-at, IsAntichainOf-inserted}
use Rattle.antichain.proofs.Rising.{rising-inserted}
use Rattle.antichain.specs.Antichains.{IsRising}
use Rattle.antichain.specs.declared.member.Member.{Member}
use Rattle.antichain.proofs.antichain.Antichain.insert.Goals as goal

pub returns-clause-kept : goal.returns-clause-kept
returns-clause-kept c S path_at h member new apart =
    let m = c.args.member in
    let members = c.self.inside.members.items in
    let i = c.up_to-place.result in
    let inside = rw c.deref.ensures.value at c.up_to-place.ensures.within in
    let front = rw c.deref.ensures.value at c.up_to-place.ensures.front in
    let rest = rw c.deref.ensures.value at c.up_to-place.ensures.rest in
    let rising : IsRising c.put_at.new.members.items =
    subst (λ (ms : List Member). IsRising ms) (sym c.put_at.ensures.items) (rising-inserted members i m inside front rest c.self.invariant) in
    let before = rw (← c.self.view_is) at h in
    let absent = rw (← c.self.view_is) at new in
    let alone = rw (← c.self.view_is) at apart in
    IsAntichainOf-inserted m members c.put_at.new.members.items (IsInserted-at m members c.put_at.new.members.items i c.put_at.ensures.items)
    S path_at rising before member absent alone
