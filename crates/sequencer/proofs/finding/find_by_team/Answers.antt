use Rattle.std.proofs.Common.{subst}
use Rattle.sequencer.proofs.SharedSearched.{IsFoundFrom-searched}
use Rattle.sequencer.specs.Finding.{IsFoundFrom}
use Rattle.strip_model.specs.Orbit.{Orbit}
use Rattle.strip_model.specs.Side.{Face}
use Rattle.sequencer.proofs.finding.find_by_team.Goals as goal

pub within_text-requires-clause-found : goal.within_text-requires-clause-found
within_text-requires-clause-found g c =
    let t = c.args.task.now in
    let outcome = c.in_ok-outcome.outcome in
    let b = c.in_ok-board.board in
    let found : IsFoundFrom t.budget b.instance b.forward.side.cut outcome =
    IsFoundFrom-searched b c.in_ok-board.pass t.budget outcome c.in_ok-outcome.ensures in
    let of_instance : IsFoundFrom t.budget t.instance b.forward.side.cut outcome =
    subst (λ (J : Orbit). IsFoundFrom t.budget J b.forward.side.cut outcome) c.in_ok-board.ensures.instance found in
    subst (λ (S : Face). IsFoundFrom t.budget t.instance S.cut outcome) c.in_ok-board.ensures.forward of_instance
