use Rattle.std.proofs.Common.{sym, ◌∙◌}
use Rattle.std.proofs.lemmas.Result.{on_ok_weaker}
use Rattle.label_core.proofs.SameIds.{Forward≢Backward}
use Rattle.admission.proofs.AntichainSets.{HasAntichains-beside}
use Rattle.admission.specs.Antichains.{members_of}
use Rattle.strip_model.specs.declared.end.End.TheVariants.{Forward, Backward}
use Rattle.closer.proofs.growing.settle.Goals as goal

pub returns-in-Forward-clause-backward : goal.returns-in-Forward-clause-backward
returns-in-Forward-clause-backward c =
    on_ok_weaker c.settle_among.result
    (λ admits. HasAntichains-beside c.args.core.now c.settle_among.new.core c.args.label.end c.args.label.path.items Backward (members_of c.args.agenda.now.backward.items)
    admits (λ h. Forward≢Backward (sym c.in-Forward.is ∙ c.end.ensures ∙ h)) c.requires.backward)
    c.settle_among.ensures.admits

pub returns-in-Backward-clause-forward : goal.returns-in-Backward-clause-forward
returns-in-Backward-clause-forward c =
    on_ok_weaker c.settle_among-in-Backward.result
    (λ admits. HasAntichains-beside c.args.core.now c.settle_among-in-Backward.new.core c.args.label.end c.args.label.path.items Forward
    (members_of c.args.agenda.now.forward.items) admits (λ h. Forward≢Backward (sym h ∙ sym c.end.ensures ∙ c.in-Backward.is)) c.requires.forward)
    c.settle_among-in-Backward.ensures.admits
