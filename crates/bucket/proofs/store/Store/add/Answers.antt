use Rattle.std.proofs.Common.{◌∙◌, length, sym, ap, arith}
use Rattle.std.specs.Vec.{vec_capacity}
use Rattle.bucket.proofs.Stores.{Keeps-add, bin_of-add, entries-le}
use Rattle.bucket.proofs.store.Store.add.Goals as goal

pub overflow_sub-labels : goal.overflow_sub-labels
overflow_sub-labels c =
    let few = (entries-le c.self.inside.number c.self.inside.list c.self.inside.entries.items (vec_capacity c.self.inside.entries)
    c.self.invariant).0 in
    omega (arith, c.self.inside.entries.ok.0, c.len-labels.ensures.value, c.len.ensures)

pub put-requires : goal.put-requires
put-requires c =
    let few = (entries-le c.self.inside.number c.self.inside.list c.self.inside.entries.items (vec_capacity c.self.inside.entries)
    c.self.invariant).0 in
    omega (arith, c.self.inside.entries.ok.0, c.len-labels.ensures.value, c.len.ensures, c.in_ok-reserve.ensures.ok, c.reserve.ensures.len)

pub invariant_of-self-2 : goal.invariant_of-self-2
invariant_of-self-2 c =
    let can = rw (← c.self.view_is) at c.requires.new in
    let few = rw (← c.self.view_is) at c.requires.few in
    let fewer = (entries-le c.self.inside.number c.self.inside.list c.self.inside.entries.items (vec_capacity c.self.inside.entries)
    c.self.invariant).0 in
    rw (c.put.ensures.items, c.reserve.ensures.items, c.in_ok-id.ensures.1)
    (Keeps-add c.self.inside.number c.self.inside.list c.self.inside.entries.items (vec_capacity c.self.inside.entries)
    (vec_capacity c.put.new.items) c.in_ok-id.id c.args.label.now.path.items c.self.invariant c.in_ok-id.ensures.0 can few
    (omega (arith, c.self.inside.entries.ok.0, c.len-labels.ensures.value, c.len.ensures, c.in_ok-reserve.ensures.ok, c.reserve.ensures.len, c.put.ensures.room)))

pub returns : goal.returns
returns c =
    rw (c.put.ensures.items, c.reserve.ensures.items, c.in_ok-id.ensures.1, ← c.self.view_is) (
      c.in_ok-id.ensures.0 ∙ sym (ap length c.self.invariant.replays),
      bin_of-add c.self.inside.number c.self.inside.list c.self.inside.entries.items c.in_ok-id.id c.args.label.now.path.items
          c.in_ok-id.ensures.0 c.self.invariant.named,
    )
