use Rattle.std.proofs.Common.{sym, refl, true≢false}
use Rattle.plan_check.proofs.Faults.{faultless-Feasible, Feasible-to_end}
use Rattle.plan_check.proofs.judging.judge.Goals as goal

pub returns-in-Some-clause-feasible : goal.returns-in-Some-clause-feasible
returns-in-Some-clause-feasible c = (
  λ e. absurd (true≢false (sym e)),
  λ h. absurd (faultless-Feasible c.args.instance.now c.args.plan.now h c.in-Some.fault c.in-Some.ensures.first.stands),
)

pub gain_of-requires-clause-exist : goal.gain_of-requires-clause-exist
gain_of-requires-clause-exist c = (Feasible-to_end c.args.instance.now c.args.plan.now c.loop-k.k c.loop-k-test.false c.loop-k.invariant).exist

pub gain_of-requires-clause-distinct : goal.gain_of-requires-clause-distinct
gain_of-requires-clause-distinct c = (Feasible-to_end c.args.instance.now c.args.plan.now c.loop-k.k c.loop-k-test.false c.loop-k.invariant).distinct

pub returns-clause-feasible : goal.returns-clause-feasible
returns-clause-feasible c = (λ _. Feasible-to_end c.args.instance.now c.args.plan.now c.loop-k.k c.loop-k-test.false c.loop-k.invariant, λ _. refl)
