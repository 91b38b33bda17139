use Rattle.std.proofs.Common.{◌∙◌, sym, arith}
use mathlib.Core.Option.{none}
use Rattle.atomic_table.specs.Table.{step}
use Rattle.turn_lock.specs.Inside.{pass_of}
use Rattle.turn_lock.proofs.Passes.{leaves, has_left, HasLeft}
use Rattle.turn_lock.proofs.turn.Turn.leave.Given
use Rattle.turn_lock.proofs.turn.Turn.leave.Goals as goal

pub fetch_add-served-requires : goal.fetch_add-served-requires
fetch_add-served-requires g c =
    let seat = c.pass.inside.seat in
    let shared = c.self.inside.table.shared in (
      c.exchange-away.ensures.0 ∙ (λ i. (c.pass.view_is i).lock) ∙ c.requires.lock ∙ sym c.self.view_is,
      (let words = c.self.invariant.0 in omega arith),
      leaves g.T.Chronicle.history g.T.Chronicle.frame seat.table_id seat.me.0 seat.me.1 c.pass.inside.turns c.pass.inside.weight c.pass.invariant c.args.held c.args.pass.now
          c.into_value.result c.exchange-away.new.seat.me c.pass.view_is c.requires.grown c.into_value.ensures c.exchange-away.ensures.3
          (g.T.Chronicle.frame shared.key.value) shared.table_id.slots c.exchange-away.new.seat.id (step 0 0 0 0 none) c.requires.frame,
    )

-- the pass afterwards
after : (g : Given.Over) (c : goal.Joined-peek-served g)
    → HasLeft g.T.Chronicle.history g.T.Chronicle.frame c.pass.inside.seat.table_id c.args.pass.now c.args.held c.pass.inside.turns c.pass.inside.weight c.fetch_add-served.new.seat.me
after g c =
    let seat = c.pass.inside.seat in
    has_left g.T.Chronicle.history g.T.Chronicle.frame seat.table_id seat.me.0 seat.me.1 c.pass.inside.turns c.pass.inside.weight c.pass.invariant c.args.held c.args.pass.now
    c.into_value.result c.exchange-away.new.seat.me c.pass.view_is c.requires.grown c.into_value.ensures c.exchange-away.ensures.3
    c.fetch_add-served.new.seat.me (step 0 0 0 0 none) c.fetch_add-served.result c.fetch_add-served.ensures.2

pub invariant_of-pass : goal.invariant_of-pass
invariant_of-pass g c = (after g c).inside

pub returns-clause-seen : goal.returns-clause-seen
returns-clause-seen g c = (after g c).seen

pub returns-clause-own : goal.returns-clause-own
returns-clause-own g c = (after g c).own

pub returns-clause-others : goal.returns-clause-others
returns-clause-others g c =
    let table = c.fetch_add-served.ensures.0 ∙ c.exchange-away.ensures.0 in
    (λ i. pass_of (table i) c.fetch_add-served.new.seat.me.0 c.pass.inside.turns) ∙ (after g c).others
