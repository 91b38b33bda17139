use Rattle.std.proofs.Common.{◌<◌, set, length, refl, sym, ◌∙◌, ap, arith}
use Rattle.antichain.proofs.Judgements.{granted, denied}
use Rattle.antichain.proofs.Sifts.{Sifting-begin, Sifting-few, Sifting-gone, Sifting-kept}
use Rattle.antichain.specs.Judging.{Beaten, Unbeaten}
use Rattle.antichain.specs.declared.member.Member.{Member}
use Rattle.antichain.proofs.sifting.sift_beaten.Goals as goal
use Rattle.antichain.proofs.sifting.sift_beaten.Goals.{then-outline_dominates, else-outline_dominates}

pub loop-k-init : goal.loop-k-init
loop-k-init c = record {
  sifting = Sifting-begin (Beaten c.args.side.now c.args.outline.now) (Unbeaten c.args.side.now c.args.outline.now) c.args.members.now.items
      c.args.ids.now.items c.args.from c.requires.from c.requires.front;
  room = refl;
  ids_room = omega arith;
}

pub put-requires : goal.put-requires
put-requires c =
    let there : c.loop-k.k < length c.args.members.now.items = omega (arith, c.args.members.now.ok.0) in
    let few = Sifting-few (Beaten c.args.side.now c.args.outline.now) (Unbeaten c.args.side.now c.args.outline.now) c.args.members.now.items
    c.loop-k.members.items c.args.ids.now.items c.loop-k.ids.items c.loop-k.k c.loop-k.kept c.loop-k.invariant.sifting there in
    omega (arith, c.requires.room, c.loop-k.invariant.ids_room)

pub loop-k-preserved : goal.loop-k-preserved
loop-k-preserved c =
    let there : c.loop-k.k < length c.args.members.now.items = omega (arith, c.args.members.now.ok.0) in
    elim c.if-outline_dominates.branch [
      | then-outline_dominates w ↦ rw (w.members-is, w.ids-is, w.kept-is) (record {
        sifting = Sifting-gone (Beaten c.args.side.now c.args.outline.now) (Unbeaten c.args.side.now c.args.outline.now) c.args.members.now.items
            c.loop-k.members.items c.args.ids.now.items c.loop-k.ids.items c.loop-k.k c.loop-k.kept c.loop-k.invariant.sifting there
            c.index.result.now w.index-then-outline_dominates.result.now w.put.new.ids.items c.index.ensures w.index-then-outline_dominates.ensures
            (granted c.args.side.now c.args.outline.now c.index.result.now.outline w.if-outline_dominates.ensures) w.put.ensures.items;
        room = c.loop-k.invariant.room;
        ids_room = omega (arith, c.loop-k.invariant.ids_room, w.put.ensures.room);
      })
      | else-outline_dominates w ↦ rw (w.members-is, w.ids-is, w.kept-is) (record {
        sifting = Sifting-kept (Beaten c.args.side.now c.args.outline.now) (Unbeaten c.args.side.now c.args.outline.now) c.args.members.now.items
            c.loop-k.members.items c.args.ids.now.items c.loop-k.ids.items c.loop-k.k c.loop-k.kept c.loop-k.invariant.sifting there
            c.index.result.now w.move_down.new.members.items c.index.ensures
            (denied c.args.side.now c.args.outline.now c.index.result.now.outline w.if-outline_dominates.ensures)
            (w.move_down.ensures.items c.index.result.now ∙ ap (λ (m : Member). set c.loop-k.members.items c.loop-k.kept m) (sym c.index.ensures));
        room = w.move_down.ensures.room ∙ c.loop-k.invariant.room;
        ids_room = c.loop-k.invariant.ids_room;
      })
    ]
