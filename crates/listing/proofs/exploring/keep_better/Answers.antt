use Rattle.std.proofs.Common.{refl, ◌∙◌, ap, List, ◌++◌}
use Rattle.listing.proofs.Listed.{IsBest-listed}
use Rattle.strip_model.specs.declared.acquisition.Acquisition.{Acquisition}
use Rattle.listing.proofs.exploring.keep_better.Goals as goal

pub returns-in_ok-extend_from_slice-clause-best : goal.returns-in_ok-extend_from_slice-clause-best
returns-in_ok-extend_from_slice-clause-best c =
    let same = c.in_ok-extend_from_slice.ensures.items ∙ ap (λ (front : List Acquisition). front ++ c.args.plan.now) c.clear.ensures.items in
    IsBest-listed c.args.instance.now c.args.plan.now _ c.requires.listed (c.if-not-keeps_twins_together.ensures.0 refl) same c.gain_of-gain.ensures.value
