use Rattle.std.proofs.Common.{◌≤◌, ◌∙◌, length, refl, arith}
use Rattle.bucket.specs.Buckets.{held_in, retirements}
use Rattle.bucket.proofs.Adding.{AreRetirable-added, Inserting-live, IsFront-live, beats, held_after, side_added, side_after}
use Rattle.bucket.proofs.Rising.{rising-few}
use Rattle.bucket.proofs.inserting.add_live.Goals as goal

pub retire_all-requires : goal.retire_all-requires
retire_all-requires c =
    let b = beats c.args.store.now.side c.side.result.now (held_in c.args.store.now) c.args.label.now.path.items c.args.front.now.members
    c.reserve.new.self.members c.take_beaten.new.self.members c.reserve-2.new.self.items c.take_beaten.new.ids.items
    c.sort_unstable.new.self.items c.args.outline.now
    (c.side.ensures.value ∙ side_added c.args.store.now c.add.new.self c.args.label.now.path.items c.in_ok-id.id c.in_ok-id.ensures.0 c.in_ok-id.ensures.1)
    c.reserve.ensures.members (c.reserve-2.ensures.items ∙ c.clear.ensures.items) c.requires.front c.requires.side.path c.requires.outline
    c.take_beaten.ensures.out c.take_beaten.ensures.kept c.sort_unstable.ensures.permutation c.sort_unstable.ensures.sorted in
    rw c.deref.ensures.value
    (AreRetirable-added c.args.store.now c.add.new.self c.args.label.now.path.items c.in_ok-id.id c.in_ok-id.ensures.0 c.in_ok-id.ensures.1
    c.sort_unstable.new.self.items b.those)

pub overflow_cast-result : goal.overflow_cast-result
overflow_cast-result c =
    let b = beats c.args.store.now.side c.side.result.now (held_in c.args.store.now) c.args.label.now.path.items c.args.front.now.members
    c.reserve.new.self.members c.take_beaten.new.self.members c.reserve-2.new.self.items c.take_beaten.new.ids.items
    c.sort_unstable.new.self.items c.args.outline.now
    (c.side.ensures.value ∙ side_added c.args.store.now c.add.new.self c.args.label.now.path.items c.in_ok-id.id c.in_ok-id.ensures.0 c.in_ok-id.ensures.1)
    c.reserve.ensures.members (c.reserve-2.ensures.items ∙ c.clear.ensures.items) c.requires.front c.requires.side.path c.requires.outline
    c.take_beaten.ensures.out c.take_beaten.ensures.kept c.sort_unstable.ensures.permutation c.sort_unstable.ensures.sorted in
    let few : length c.sort_unstable.new.self.items ≤ length (held_in c.args.store.now)
    = rising-few c.sort_unstable.new.self.items (length (held_in c.args.store.now)) b.those.rising b.those.below in
    omega (arith, c.len-2.ensures, c.sort_unstable.new.self.ok.0, c.requires.few)

pub returns-clause-inserting : goal.returns-clause-inserting
returns-clause-inserting c =
    let b = beats c.args.store.now.side c.side.result.now (held_in c.args.store.now) c.args.label.now.path.items c.args.front.now.members
    c.reserve.new.self.members c.take_beaten.new.self.members c.reserve-2.new.self.items c.take_beaten.new.ids.items
    c.sort_unstable.new.self.items c.args.outline.now
    (c.side.ensures.value ∙ side_added c.args.store.now c.add.new.self c.args.label.now.path.items c.in_ok-id.id c.in_ok-id.ensures.0 c.in_ok-id.ensures.1)
    c.reserve.ensures.members (c.reserve-2.ensures.items ∙ c.clear.ensures.items) c.requires.front c.requires.side.path c.requires.outline
    c.take_beaten.ensures.out c.take_beaten.ensures.kept c.sort_unstable.ensures.permutation c.sort_unstable.ensures.sorted in
    Inserting-live c.args.store.now c.add.new.self c.args.label.now.path.items c.in_ok-id.id c.in_ok-id.ensures.0 c.in_ok-id.ensures.1
    c.retire_all.new.store c.len-2.result c.sort_unstable.new.self.items (rw c.deref.ensures.value at c.retire_all.ensures) c.requires.none_above
    b.those (c.len-2.ensures ∙ c.sort_unstable.new.self.ok.0)

pub returns-clause-front : goal.returns-clause-front
returns-clause-front c =
    let b = beats c.args.store.now.side c.side.result.now (held_in c.args.store.now) c.args.label.now.path.items c.args.front.now.members
    c.reserve.new.self.members c.take_beaten.new.self.members c.reserve-2.new.self.items c.take_beaten.new.ids.items
    c.sort_unstable.new.self.items c.args.outline.now
    (c.side.ensures.value ∙ side_added c.args.store.now c.add.new.self c.args.label.now.path.items c.in_ok-id.id c.in_ok-id.ensures.0 c.in_ok-id.ensures.1)
    c.reserve.ensures.members (c.reserve-2.ensures.items ∙ c.clear.ensures.items) c.requires.front c.requires.side.path c.requires.outline
    c.take_beaten.ensures.out c.take_beaten.ensures.kept c.sort_unstable.ensures.permutation c.sort_unstable.ensures.sorted in
    let grows = rw c.deref.ensures.value at c.retire_all.ensures in
    rw (
      side_after c.args.store.now c.add.new.self c.args.label.now.path.items c.in_ok-id.id c.in_ok-id.ensures.0 c.in_ok-id.ensures.1
          c.retire_all.new.store (retirements c.in_ok-id.id c.sort_unstable.new.self.items) grows,
      held_after c.args.store.now c.add.new.self c.args.label.now.path.items c.in_ok-id.id c.in_ok-id.ensures.0 c.in_ok-id.ensures.1
          c.retire_all.new.store (retirements c.in_ok-id.id c.sort_unstable.new.self.items) grows,
    )
    (IsFront-live c.args.store.now.side (held_in c.args.store.now) c.args.label.now.path.items c.in_ok-id.id c.sort_unstable.new.self.items
    c.in_ok-id.ensures.0 c.requires.none_above b.those c.args.front.now.members c.take_beaten.new.self.members c.requires.front b.exact b.antichain
    (record { id = c.in_ok-id.id; outline = c.args.outline.now }) c.insert.new.self.members refl c.requires.side.path c.requires.outline
    c.insert.ensures.inserted c.insert.ensures.kept)
