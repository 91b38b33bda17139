use Rattle.std.proofs.Common.{List, subst}
use Rattle.std.proofs.lemmas.Result.{err_from_is_err_and}
use Rattle.manoeuvre.specs.Refusal.{IsCause}
use Rattle.manoeuvre.specs.declared.refusal.TableRefusal.TheVariants.{Memory}
use Rattle.strip_model.proofs.TableFor.{no_rule_broken}
use Rattle.strip_model.specs.Refusal.{durations_of}
use Rattle.strip_model.specs.declared.strip.Strip.{Strip}
use Rattle.strip_model.proofs.instance.Instance.new.Goals as goal

pub returns-in_err-instance-clause-refused : goal.returns-in_err-instance-clause-refused
returns-in_err-instance-clause-refused c =
    let p = err_from_is_err_and c.from_residual-in_err-instance.result c.from_residual-in_err-instance.ensures.1 in
    let unbroken = no_rule_broken c.in_ok-table.table c.args.entries.now c.deref.result.now c.in_ok-table.ensures.made c.in_ok-table.ensures.sound c.in_ok-table.ensures.shortcut in
    rw (p.1, p.2) (subst (λ (ss : List Strip). IsCause (durations_of ss) c.args.entries.now Memory) c.deref.ensures.value unbroken)
