use Rattle.std.proofs.Common.{refl, sym, subst}
use Rattle.std.specs.Prelude.{IsSome}
use Rattle.turn_lock.proofs.Passes.{has_closed, unwrapped, HasClosed}
use Rattle.turn_lock.proofs.turn.Turn.close.Given
use Rattle.turn_lock.proofs.turn.Turn.close.Goals as goal

pub unwrap-value-requires : goal.unwrap-value-requires
unwrap-value-requires g c =
    let seat = c.pass.inside.seat in
    let h = has_closed g.T.Chronicle.history g.T.Chronicle.frame (g.T.Chronicle.frame c.self.inside.table.shared.key.value) seat.table_id seat.id seat.me.0 seat.me.1 c.pass.inside.turns
    c.pass.inside.weight c.args.pass _ _ c.take.result c.pass.invariant c.pass.view_is c.requires.idle c.requires.whole c.close_with-closed.ensures.values.2 c.take.ensures.value in
    subst IsSome (sym h.1) refl

-- what is known of the value that comes out
closed : (g : Given.Over) (c : goal.After-free g)
    → HasClosed g.T.Chronicle.history g.T.Chronicle.frame (g.T.Chronicle.frame c.self.inside.table.shared.key.value) c.args.pass c.unwrap-value.result
closed g c =
    let seat = c.pass.inside.seat in
    let f = g.T.Chronicle.frame c.self.inside.table.shared.key.value in
    let h = has_closed g.T.Chronicle.history g.T.Chronicle.frame f seat.table_id seat.id seat.me.0 seat.me.1 c.pass.inside.turns c.pass.inside.weight c.args.pass _ _ c.take.result
    c.pass.invariant c.pass.view_is c.requires.idle c.requires.whole c.close_with-closed.ensures.values.2 c.take.ensures.value in
    unwrapped g.T.Chronicle.history g.T.Chronicle.frame f c.args.pass c.take.result c.unwrap-value.result h c.unwrap-value.ensures

pub returns-clause-frame : goal.returns-clause-frame
returns-clause-frame g c = (closed g c).framed

pub returns-clause-begins : goal.returns-clause-begins
returns-clause-begins g c = (closed g c).begins

pub returns-clause-parties : goal.returns-clause-parties
returns-clause-parties g c = (closed g c).interleaved
