use Rattle.std.proofs.Common.{◌∙◌, sym}
use Rattle.board.proofs.Halves.{joined_is, joined_same}
use Rattle.board.proofs.Hands.{merges}
use Rattle.board.proofs.half.Half.join.Goals as goal

pub absorb-requires-clause-rule : goal.absorb-requires-clause-rule
absorb-requires-clause-rule c = merges _ _ _ _ c.into.invariant.some_weight

pub invariant_of-into : goal.invariant_of-into
invariant_of-into c =
    let into = c.into.inside in
    let other = c.other.inside in
    let side = (λ i. (c.other.view_is i).name.side) ∙ (λ i. (c.requires.other i).side) ∙ sym ((λ i. (c.into.view_is i).name.side) ∙ (λ i. (c.requires.name i).side)) in
    joined_is into.side.now other.side.now into.locks.items other.locks.items c.join_locks.new.into.items into.ids other.ids c.absorb.new.pass side c.join_locks.ensures c.absorb.ensures.rule
    c.into.invariant c.other.invariant c.absorb.ensures.queue.2

pub returns : goal.returns
returns c =
    let into = c.into.inside in
    let other = c.other.inside in
    let side = (λ i. (c.other.view_is i).name.side) ∙ (λ i. (c.requires.other i).side) ∙ sym ((λ i. (c.into.view_is i).name.side) ∙ (λ i. (c.requires.name i).side)) in
    joined_same into.side.now other.side.now into.locks.items other.locks.items c.join_locks.new.into.items into.ids other.ids c.absorb.new.pass side c.join_locks.ensures c.absorb.ensures.rule
    c.absorb.ensures.queue.0 c.args.into.now c.args.other c.into.view_is c.other.view_is
