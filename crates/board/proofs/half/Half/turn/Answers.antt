use Rattle.std.proofs.Common.{◌∙◌}
use Rattle.board.proofs.Turned.{found_idle, call_fits, turned_stays, turned_half}
use Rattle.board.proofs.half.Half.turn.Goals as goal

pub in_turn-requires-clause-idle : goal.in_turn-requires-clause-idle
in_turn-requires-clause-idle g c =
    (found_idle c.token.inside.side.now c.args.self.now.side c.token.inside.locks.items c.token.inside.ids c.from-k.result c.args.number c.index_mut.result.now c.token.invariant
    ((λ i. (c.token.view_is i).name.side) ∙ (λ i. (c.requires.name i).side)) c.from-k.ensures c.requires.number c.index_mut.ensures.value).turn

pub in_turn-requires-clause-fits : goal.in_turn-requires-clause-fits
in_turn-requires-clause-fits g c =
    call_fits c.token.inside.side.now c.args.self.now.side c.token.inside.locks.items c.token.inside.ids c.from-k.result c.args.number c.index_mut.result.now c.token.invariant
    ((λ i. (c.token.view_is i).name.side) ∙ (λ i. (c.requires.name i).side)) c.from-k.ensures c.requires.number c.index_mut.ensures.value
    (g.C.Call.fits c.args.call) c.requires.fits

pub invariant_of-token : goal.invariant_of-token
invariant_of-token g c =
    turned_stays c.token.inside.side.now c.args.self.now.side c.token.inside.locks.items c.token.inside.ids c.from-k.result c.args.number c.index_mut.result.now c.token.invariant
    ((λ i. (c.token.view_is i).name.side) ∙ (λ i. (c.requires.name i).side)) c.from-k.ensures c.requires.number c.index_mut.ensures.value
    (g.C.Call.answers c.args.call) c.in_turn.result c.in_turn.new.pass (c.in_turn.ensures.turn c.args.self.now.side c.args.number (found_idle c.token.inside.side.now c.args.self.now.side c.token.inside.locks.items c.token.inside.ids c.from-k.result c.args.number c.index_mut.result.now c.token.invariant
    ((λ i. (c.token.view_is i).name.side) ∙ (λ i. (c.requires.name i).side)) c.from-k.ensures c.requires.number c.index_mut.ensures.value).frame)

pub returns : goal.returns
returns g c =
    turned_half c.token.inside.side.now c.args.self.now.side c.token.inside.locks.items c.token.inside.ids c.from-k.result c.args.number c.index_mut.result.now c.token.invariant
    ((λ i. (c.token.view_is i).name.side) ∙ (λ i. (c.requires.name i).side)) c.from-k.ensures c.requires.number c.index_mut.ensures.value
    (g.C.Call.answers c.args.call) c.in_turn.result c.in_turn.new.pass (c.in_turn.ensures.turn c.args.self.now.side c.args.number (found_idle c.token.inside.side.now c.args.self.now.side c.token.inside.locks.items c.token.inside.ids c.from-k.result c.args.number c.index_mut.result.now c.token.invariant
    ((λ i. (c.token.view_is i).name.side) ∙ (λ i. (c.requires.name i).side)) c.from-k.ensures c.requires.number c.index_mut.ensures.value).frame)
    c.args.token.now c.token.view_is
