use Rattle.std.proofs.Common.{None, false, refl, ◌∙◌}
use Rattle.pool.proofs.Acted.{works_self, works_trans, works_loose, draws_few, inserts_few}
use Rattle.pool.proofs.Ending.{halts_not_empty, halts_end}
use Rattle.pool.proofs.Giving.{last_later, none_later}
use Rattle.pool.proofs.working.work.Goals as goal

pub loop-init : goal.loop-init
loop-init g c = works_self c.args.board.now None c.args.pass.now false

pub round-requires-clause-board : goal.round-requires-clause-board
round-requires-clause-board g c = c.loop.invariant.grows.board ∙ c.requires.board

pub loop-preserved : goal.loop-preserved
loop-preserved g c =
    works_trans c.args.board.now None c.args.pass.now c.loop.pass c.round.new.pass false c.loop.tally.spare c.round.new.tally.spare c.loop.invariant
    c.in-Ok-true.ensures.works

pub returns-in-Ok-false : goal.returns-in-Ok-false
returns-in-Ok-false g c =
    let p = c.args.pass.now in
    let q = c.loop.pass in
    let r = c.round.new.pass in
    let works = works_trans c.args.board.now None p q r false c.loop.tally.spare c.round.new.tally.spare c.loop.invariant c.in-Ok-false.ensures.works in
    record {
      grows = works.grows;
      lawful = works.lawful;
      weight = works.weight;
      draws = draws_few p r c.round.new.tally.spare works.pays;
      inserts = inserts_few p r c.round.new.tally.spare works.earns;
      leaves = record { last = None; given_last = tt; none_if_empty = λ is. refl; handles = works.handles };
      ending = none_later p q r c.loop.invariant.grows (c.in-Ok-false.ensures.empty c.in-Ok-false.field-0-test);
    }

pub returns-in-Err : goal.returns-in-Err
returns-in-Err g c =
    let p = c.args.pass.now in
    let q = c.loop.pass in
    let r = c.round.new.pass in
    let last = c.in-Err.ensures.refused in
    let works =
    works_trans c.args.board.now last.0 p q r false c.loop.tally.spare c.round.new.tally.spare
    (works_loose c.args.board.now last.0 p q false c.loop.tally.spare c.loop.invariant) last.2 in
    record {
      grows = works.grows;
      lawful = works.lawful;
      weight = works.weight;
      draws = draws_few p r c.round.new.tally.spare works.pays;
      inserts = inserts_few p r c.round.new.tally.spare works.earns;
      leaves = record {
        last = last.0;
        given_last = last_later p q r c.loop.invariant.grows last.0 last.1;
        none_if_empty = λ is. absurd (halts_not_empty (g.G.Gate.stops c.args.gate.now) c.args.worker r c.in-Err.end c.in-Err.ensures.ending is);
        handles = works.handles;
      };
      ending = halts_end (g.G.Gate.stops c.args.gate.now) c.args.worker p r c.in-Err.end c.in-Err.ensures.ending;
    }
