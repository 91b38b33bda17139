use Rattle.std.proofs.Common.{◌∙◌}
use Rattle.strip_model.proofs.TwinWords.{is_need-needs}
use Rattle.label.proofs.needing.needs.Goals as goal

pub returns : goal.returns
returns c = λ z. c.twins_of.ensures z ∙ is_need-needs c.args.side.now.instance c.args.label.now.path.items c.args.label.now.lone c.requires.lone z
