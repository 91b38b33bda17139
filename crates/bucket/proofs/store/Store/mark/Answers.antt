use Rattle.std.proofs.Common.{arith, ◌<◌, length}
use Rattle.std.specs.Vec.{vec_capacity}
use Rattle.bucket.proofs.Stores.{Keeps-mark, bin_of-mark, room-mark}
use Rattle.bucket.proofs.store.Store.mark.Goals as goal

pub set_state-requires : goal.set_state-requires
set_state-requires c =
    let legal = rw (← c.self.view_is) at c.requires.legal in
    (room-mark c.self.inside.number c.self.inside.list c.self.inside.entries.items (vec_capacity c.self.inside.entries) c.args.id c.args.state
    c.args.entry c.self.invariant c.requires.mark legal).0

pub put-requires : goal.put-requires
put-requires c =
    let legal = rw (← c.self.view_is) at c.requires.legal in
    let room : length c.self.inside.entries.items < vec_capacity c.self.inside.entries
    = (room-mark c.self.inside.number c.self.inside.list c.self.inside.entries.items (vec_capacity c.self.inside.entries) c.args.id c.args.state
    c.args.entry c.self.invariant c.requires.mark legal).1 in
    omega (arith, c.self.inside.entries.ok.0)

pub invariant_of-self : goal.invariant_of-self
invariant_of-self c =
    let legal = rw (← c.self.view_is) at c.requires.legal in
    rw (c.put.ensures.items, c.set_state.ensures)
    (Keeps-mark c.self.inside.number c.self.inside.list c.self.inside.entries.items (vec_capacity c.self.inside.entries)
    (vec_capacity c.put.new.items) c.args.id c.args.state c.args.entry c.self.invariant c.put.ensures.room c.requires.mark legal)

pub returns : goal.returns
returns c =
    rw (c.put.ensures.items, c.set_state.ensures, ← c.self.view_is)
    (bin_of-mark c.self.inside.number c.self.inside.list c.self.inside.entries.items c.args.id c.args.state c.args.entry c.requires.mark)
