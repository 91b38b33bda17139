use Rattle.std.proofs.Common.{◌<◌, ◌≤◌, set, length, refl, sym, ◌∙◌, ap, arith}
use Rattle.antichain.proofs.Sifts.{Sifting-begin, Sifting-few, Sifting-gone, Sifting-kept, Sifting-end}
use Rattle.antichain.specs.declared.member.Member.{Member}
use Rattle.antichain.proofs.sifting.sift_bounded.Goals as goal
use Rattle.antichain.proofs.sifting.sift_bounded.Goals.{then-index-gain, else-index-gain}

pub loop-k-init : goal.loop-k-init
loop-k-init c = record {
  sifting = Sifting-begin (λ (m : Member). m.outline.bound ≤ c.args.gain) (λ (m : Member). c.args.gain < m.outline.bound) c.args.members.now.items
      c.args.ids.now.items 0 (omega arith) (λ k d l. absurd (omega (arith, l)));
  room = refl;
  ids_room = omega arith;
}

pub put-requires : goal.put-requires
put-requires c =
    let there : c.loop-k.k < length c.args.members.now.items = omega (arith, c.args.members.now.ok.0) in
    let few = Sifting-few (λ (m : Member). m.outline.bound ≤ c.args.gain) (λ (m : Member). c.args.gain < m.outline.bound) c.args.members.now.items
    c.loop-k.members.items c.args.ids.now.items c.loop-k.ids.items c.loop-k.k c.loop-k.kept c.loop-k.invariant.sifting there in
    omega (arith, c.requires.room, c.loop-k.invariant.ids_room)

pub loop-k-preserved : goal.loop-k-preserved
loop-k-preserved c =
    let there : c.loop-k.k < length c.args.members.now.items = omega (arith, c.args.members.now.ok.0) in
    elim c.if-index-gain.branch [
      | then-index-gain w ↦ rw (w.members-is, w.ids-is, w.kept-is) (record {
        sifting = Sifting-gone (λ (m : Member). m.outline.bound ≤ c.args.gain) (λ (m : Member). c.args.gain < m.outline.bound) c.args.members.now.items
            c.loop-k.members.items c.args.ids.now.items c.loop-k.ids.items c.loop-k.k c.loop-k.kept c.loop-k.invariant.sifting there
            c.index.result.now w.index-then-index-gain.result.now w.put.new.ids.items c.index.ensures w.index-then-index-gain.ensures
            w.if-index-gain.true w.put.ensures.items;
        room = c.loop-k.invariant.room;
        ids_room = omega (arith, c.loop-k.invariant.ids_room, w.put.ensures.room);
      })
      | else-index-gain w ↦ rw (w.members-is, w.ids-is, w.kept-is) (record {
        sifting = Sifting-kept (λ (m : Member). m.outline.bound ≤ c.args.gain) (λ (m : Member). c.args.gain < m.outline.bound) c.args.members.now.items
            c.loop-k.members.items c.args.ids.now.items c.loop-k.ids.items c.loop-k.k c.loop-k.kept c.loop-k.invariant.sifting there
            c.index.result.now w.move_down.new.members.items c.index.ensures
            w.if-index-gain.false
            (w.move_down.ensures.items c.index.result.now ∙ ap (λ (m : Member). set c.loop-k.members.items c.loop-k.kept m) (sym c.index.ensures));
        room = w.move_down.ensures.room ∙ c.loop-k.invariant.room;
        ids_room = c.loop-k.invariant.ids_room;
      })
    ]

pub returns-clause-out : goal.returns-clause-out
returns-clause-out c =
    let all : length c.args.members.now.items ≤ c.loop-k.k = omega (arith, c.args.members.now.ok.0) in
    Sifting-end (λ (m : Member). m.outline.bound ≤ c.args.gain) (λ (m : Member). c.args.gain < m.outline.bound) c.args.members.now.items c.loop-k.members.items c.truncate.new.self.items c.args.ids.now.items c.loop-k.ids.items
    c.loop-k.k c.loop-k.kept c.loop-k.invariant.sifting all c.truncate.ensures.items
