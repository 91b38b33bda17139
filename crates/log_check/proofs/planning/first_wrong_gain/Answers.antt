use Rattle.std.proofs.Common.{List, sym, subst}
use Rattle.log_check.proofs.FirstPlaces.{feasible_kept}
use Rattle.strip_model.specs.Plan.{StripsExist, StripsDistinct, order_of}
use Rattle.strip_model.specs.declared.acquisition.Acquisition.{Acquisition}
use Rattle.log_check.proofs.planning.first_wrong_gain.Goals as goal

pub gain_of-requires-clause-exist : goal.gain_of-requires-clause-exist
gain_of-requires-clause-exist c =
    let E : List Acquisition → Type 0 = λ plan. StripsExist c.args.instance.now (order_of plan) in
    subst E (sym c.deref.ensures.value) (feasible_kept c.args.instance.now c.args.log.now c.requires).exist

pub gain_of-requires-clause-distinct : goal.gain_of-requires-clause-distinct
gain_of-requires-clause-distinct c =
    let D : List Acquisition → Type 0 = λ plan. StripsDistinct (order_of plan) in
    subst D (sym c.deref.ensures.value) (feasible_kept c.args.instance.now c.args.log.now c.requires).distinct
