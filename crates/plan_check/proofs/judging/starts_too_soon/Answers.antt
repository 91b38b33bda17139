use Rattle.std.proofs.Common.{◌<◌, ◌-◌, length, arith, subst, sym}
use Rattle.std.proofs.lemmas.List.{get_or_read}
use Rattle.plan_check.specs.Fault.{no_acquisition}
use Rattle.plan_check.proofs.Faults.{exists_below}
use Rattle.plan_check.proofs.judging.starts_too_soon.Goals as goal
use Rattle.strip_model.specs.declared.acquisition.Acquisition.{Acquisition}
use Rattle.strip_model.specs.Directed.{strip_of}

pub ready_after-requires-clause-from : goal.ready_after-requires-clause-from
ready_after-requires-clause-from c =
    let plan = c.args.plan.now in
    let k = c.args.k in
    let before = c.index-plan-k.result in
    let at = get_or_read plan (k - 1) before (omega arith) c.index-plan-k.is no_acquisition in
    let E : Acquisition → Type 0 = λ a. strip_of a.at < length c.args.instance.now.strips in
    subst E (sym at) (exists_below c.args.instance.now plan k (k - 1) (omega arith) c.requires.below (omega arith))
