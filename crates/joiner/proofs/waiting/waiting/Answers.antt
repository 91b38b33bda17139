use Rattle.joiner.proofs.Needed.{waits_for-needed}
use Rattle.joiner.proofs.waiting.waiting.Goals as goal

pub returns-in-Forward : goal.returns-in-Forward
returns-in-Forward c path opens =
    waits_for-needed c.args.instance.now c.args.end c.args.lone c.needs_of.result path c.in-Forward.is c.needs_of.ensures opens
