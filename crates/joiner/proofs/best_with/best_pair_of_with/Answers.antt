use Rattle.std.proofs.Common.{◌≡◌, ◌*◌, ◌≤◌, List, Ok, Some, map, take, length, slice_get, ap, subst, sym, ◌∙◌, arith}
use Rattle.std.proofs.lemmas.List.{length-map, length-take-le}
use Rattle.std.proofs.lemmas.Option.{slice_get_within}
use Rattle.std.specs.Fork.{slice_chunk}
use Rattle.joiner.proofs.Parts.{take-part, room_of_part}
use Rattle.joiner.specs.Pairs.{IsBest}
use Rattle.label.specs.declared.label.Label.{Label}
use Rattle.joiner.proofs.best_with.best_pair_of_with.Goals as goal
use Rattle.joiner.proofs.best_with.best_pair_of_with.Goals.{In_ok-part, After-better_of-best}

pub groups_of_labels-requires-clause-each : goal.groups_of_labels-requires-clause-each
groups_of_labels-requires-clause-each g c = rw c.instance.ensures.value c.requires.backward

-- the answer at hand stands in the list
part_there : (g : _) (c : In_ok-part g) → slice_get c.in_ok-bests.bests.items c.loop-k.k ≡ Some (Ok c.in_ok-part.part)
part_there g c = ap (λ bests. slice_get bests c.loop-k.k) (sym c.deref-in-loop-k.ensures.value) ∙ c.in_ok-part.ensures

-- the answer at hand is the best of its part
part_best : (g : _) (c : In_ok-part g)
    → IsBest c.args.side.now.instance (slice_chunk (map (λ l. l.now) c.args.forward.now) c.part_size-size.result c.loop-k.k) (map (λ l. l.now) c.args.backward.now)
    c.args.floor c.in_ok-part.part
part_best g c =
    c.in_ok-bests.ensures.each (map (λ l. l.now) c.args.backward.now)
    (rw (c.deref.ensures.value) (rw c.instance.ensures.value at c.in_ok-groups.ensures.represents)) c.loop-k.k c.in_ok-part.part
    (part_there g c)

pub better_of-best-requires-clause-room : goal.better_of-best-requires-clause-room
better_of-best-requires-clause-room g c =
    room_of_part c.args.side.now.instance (map (λ l. l.now) c.args.forward.now) (map (λ l. l.now) c.args.backward.now) c.args.floor c.part_size-size.result
    c.loop-k.k c.in_ok-part.part (let few = c.requires.few_forward in omega (arith, length-map c.args.forward.now (λ l. l.now))) (part_best g c)

pub loop-k-preserved : goal.loop-k-preserved
loop-k-preserved g c =
    let J = c.args.side.now.instance in
    let fs : List Label = map (λ l. l.now) c.args.forward.now in
    let bs : List Label = map (λ l. l.now) c.args.backward.now in
    let size = c.part_size-size.result in
    let k = c.loop-k.k in
    let before = (goal.at.loop-k-preserved g c).In_ok-part in
    let starts = c.in_ok-bests.ensures.inside k (slice_get_within c.in_ok-bests.bests.items k (Ok c.in_ok-part.part) (part_there g before)) in
    let inside : k * size ≤ length fs = omega (arith, length-map c.args.forward.now (λ l. l.now), starts) in
    subst (λ (ls : List Label). IsBest J ls bs c.args.floor c.better_of-best.result) (take-part fs size k inside)
    (c.better_of-best.ensures J (take (k * size) fs) (slice_chunk fs size k) bs (length-take-le (k * size) fs inside) c.loop-k.invariant (part_best g before))
