use Rattle.std.proofs.Common.{◌<◌, arith, subst}
use Rattle.instance_text.proofs.OneValue.{equal_from_text}
use Rattle.sequencer.specs.Searching.{cut_for}
use Rattle.strip_model.specs.Orbit.{Orbit}
use Rattle.strip_model.specs.PathCount.{path_count_of}
use Rattle.sequencer.proofs.laws.budget_laws.Goals as goal

pub returns : goal.returns
returns c = λ workers budget cut input text J read enough left.
    let below : left.labels < path_count_of J (cut_for J cut) =
    subst (λ (I : Orbit). left.labels < path_count_of I (cut_for I cut)) (equal_from_text input left.instance J left.read read) left.unsettled.below in
    let spent = left.unsettled.spent in
    omega (arith, enough, below, spent)
