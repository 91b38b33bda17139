use Rattle.std.proofs.Common.{◌≡◌, ◌*◌, ◌≤◌, length, sym, ◌∙◌, ap, subst, rules, arith}
use Rattle.label_core.specs.Machine.{Machine, count_of}
use Rattle.admission.proofs.CarefulSteps.{GoesCarefully-trans, instance-careful}
use Rattle.strip_model.specs.Orbit.{Orbit}
use Rattle.closer.proofs.growing.extend_whole.Goals as goal

pub returns-then-not-branch-clause-run : goal.returns-then-not-branch-clause-run
returns-then-not-branch-clause-run c =
    GoesCarefully-trans c.args.budget c.args.core.now c.loop-y.core c.extend_by.new.core c.loop-y.invariant.run c.in_ok-extend_by.ensures.run

pub loop-y-preserved : goal.loop-y-preserved
loop-y-preserved c =
    let run = c.in_ok-extend_by.ensures.run in
    let same : c.extend_by.new.core.instance ≡ c.loop-y.core.instance =
    instance-careful c.args.budget c.loop-y.core run.0 c.extend_by.new.core run.1 in
    record {
      run = GoesCarefully-trans c.args.budget c.args.core.now c.loop-y.core c.extend_by.new.core c.loop-y.invariant.run run;
      strips = c.loop-y.invariant.strips ∙ ap (λ (I : Orbit). 2 * length I.strips) (sym same);
      extending = c.in_ok-extend_by.ensures.more (search rules);
      parent = c.in_ok-extend_by.ensures.parent;
      work = omega (arith, c.in_ok-extend_by.ensures.work, c.loop-y.invariant.work);
      still =
          λ full.
          let was : c.loop-y.core ≡ c.args.core.now = c.loop-y.invariant.still full in
          c.in_ok-extend_by.ensures.still (subst (λ (m : Machine). c.args.budget ≤ count_of m.state) (sym was) full) ∙ was;
    }
