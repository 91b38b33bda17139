use Rattle.std.proofs.Common.{◌≤◌, ◌∙◌, sym, subst, arith}
use mathlib.Core.Option.{none}
use Rattle.atomic_table.specs.Table.{step}
use Rattle.turn_lock.proofs.Looking.{looks, looked_own, looked_other}
use Rattle.turn_lock.proofs.turn.await_turn.Goals as goal

pub load-serving-requires : goal.load-serving-requires
load-serving-requires g c =
    let w = c.requires.waits in
    let same = c.loop.invariant.1 in
    let words = c.requires.words in (
      c.loop.invariant.0 ∙ c.requires.table,
      omega arith,
      looks g.T.Chronicle.history g.T.Chronicle.frame (g.T.Chronicle.frame c.args.shared.now.key.value) c.args.shared.now.table_id.slots c.loop.seat.id c.loop.seat.me w.0 (step 0 0 0 0 none)
          ((λ i. (same i).0.stage) ∙ w.1) ((λ i. (same i).1) ∙ c.requires.no_slot) ((let pos = c.requires.weight in subst (λ m. 1 ≤ m.0.weight) (sym same) pos)),
    )

pub returns-then-serving-ticket-clause-taken : goal.returns-then-serving-ticket-clause-taken
returns-then-serving-ticket-clause-taken g c k waits =
    let w = c.requires.waits in
    looked_own g.T.Chronicle.history g.T.Chronicle.frame (step 0 0 0 0 none) c.args.seat.now.me c.loop.seat.me c.load-serving.new.seat.me c.load-serving.result c.args.ticket w.0 k
    c.loop.invariant.1 c.load-serving.ensures.2 w.1 w.2 c.if-serving-ticket.true waits

pub loop-preserved-then-looks-lt-LOOKS : goal.loop-preserved-then-looks-lt-LOOKS
loop-preserved-then-looks-lt-LOOKS g c =
    let w = c.requires.waits in (
      c.load-serving.ensures.0 ∙ c.loop.invariant.0,
      looked_other g.T.Chronicle.history g.T.Chronicle.frame (step 0 0 0 0 none) c.args.seat.now.me c.loop.seat.me c.load-serving.new.seat.me c.load-serving.result c.args.ticket w.0
          c.loop.invariant.1 c.load-serving.ensures.2 w.1 w.2 c.if-serving-ticket.false,
    )

pub loop-preserved : goal.loop-preserved
loop-preserved g c =
    let w = c.requires.waits in (
      c.load-serving.ensures.0 ∙ c.loop.invariant.0,
      looked_other g.T.Chronicle.history g.T.Chronicle.frame (step 0 0 0 0 none) c.args.seat.now.me c.loop.seat.me c.load-serving.new.seat.me c.load-serving.result c.args.ticket w.0
          c.loop.invariant.1 c.load-serving.ensures.2 w.1 w.2 c.if-serving-ticket.false,
    )
