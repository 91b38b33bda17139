use Rattle.sequencer.proofs.Faulty.{scores_faulty}
use Rattle.sequencer.proofs.scoring.faulty.Goals as goal

pub returns : goal.returns
returns c = λ J rest plan said first. scores_faulty J rest plan c.args.fault said first c.in_ok-text.text.items c.in_ok-text.ensures
