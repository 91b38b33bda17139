use Rattle.bucket.specs.Buckets.{held_in}
use Rattle.bucket.specs.Histories.Step.{Retires}
use Rattle.std.proofs.Common.{[], ◌∷◌}
use Rattle.label_list.specs.Labels.{last_of}
use Rattle.bucket.proofs.Adding.{CanRetire-added, Inserting-dominated, IsFront-dominated, dominator-found, held_after, none-found, side_after}
use Rattle.bucket.proofs.inserting.insert_at.Goals as goal

pub retire-requires : goal.retire-requires
retire-requires c =
    let d = dominator-found c.args.store.now.side c.side.result.now (held_in c.args.store.now) c.args.label.now.path.items c.args.front.now.members
    c.in-Some-least_dominator.by c.args.outline.now c.side.ensures.value c.requires.front c.requires.side.path c.requires.outline
    c.in-Some-least_dominator.ensures in
    CanRetire-added c.args.store.now c.add.new.self c.args.label.now.path.items c.in_ok-id-in-Some-least_dominator.id
    c.in_ok-id-in-Some-least_dominator.ensures.0 c.in_ok-id-in-Some-least_dominator.ensures.1 c.in-Some-least_dominator.by d.above

pub add_live-requires-clause-none_above : goal.add_live-requires-clause-none_above
add_live-requires-clause-none_above c =
    none-found c.args.store.now.side c.side.result.now (held_in c.args.store.now) c.args.label.now.path.items c.args.front.now.members
    c.args.outline.now c.side.ensures.value c.requires.front c.requires.side.path c.requires.outline c.in-None.ensures

pub returns-in_ok-id-in-Some-least_dominator-clause-inserting :
    goal.returns-in_ok-id-in-Some-least_dominator-clause-inserting
returns-in_ok-id-in-Some-least_dominator-clause-inserting c =
    let d = dominator-found c.args.store.now.side c.side.result.now (held_in c.args.store.now) c.args.label.now.path.items c.args.front.now.members
    c.in-Some-least_dominator.by c.args.outline.now c.side.ensures.value c.requires.front c.requires.side.path c.requires.outline
    c.in-Some-least_dominator.ensures in
    Inserting-dominated c.args.store.now c.add.new.self c.args.label.now.path.items c.in_ok-id-in-Some-least_dominator.id
    c.in_ok-id-in-Some-least_dominator.ensures.0 c.in_ok-id-in-Some-least_dominator.ensures.1 c.retire.new.self c.in-Some-least_dominator.by
    c.retire.ensures d

pub returns-in_ok-id-in-Some-least_dominator-clause-front : goal.returns-in_ok-id-in-Some-least_dominator-clause-front
returns-in_ok-id-in-Some-least_dominator-clause-front c =
    let next = c.in_ok-id-in-Some-least_dominator.ensures.0 in
    let added = c.in_ok-id-in-Some-least_dominator.ensures.1 in
    rw (
      side_after c.args.store.now c.add.new.self c.args.label.now.path.items c.in_ok-id-in-Some-least_dominator.id next added c.retire.new.self
          (Retires c.in_ok-id-in-Some-least_dominator.id c.in-Some-least_dominator.by ∷ []) c.retire.ensures,
      held_after c.args.store.now c.add.new.self c.args.label.now.path.items c.in_ok-id-in-Some-least_dominator.id next added c.retire.new.self
          (Retires c.in_ok-id-in-Some-least_dominator.id c.in-Some-least_dominator.by ∷ []) c.retire.ensures,
    )
    (IsFront-dominated c.args.store.now.side (held_in c.args.store.now) c.args.label.now.path.items c.in_ok-id-in-Some-least_dominator.id
    c.in-Some-least_dominator.by (last_of c.args.label.now.path.items) c.args.front.now.members next c.requires.front)
