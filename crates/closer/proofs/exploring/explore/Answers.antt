use Rattle.std.proofs.Common.{◌≡◌, ◌≤◌, refl, sym, ◌∙◌, subst}
use Rattle.closer.proofs.SearchSteps.{IsNext-leaves, IsSearching-same, all_extended}
use Rattle.label_core.specs.Machine.{Machine, count_of}
use Rattle.admission.proofs.CarefulSteps.{GoesCarefully-trans}
use Rattle.closer.proofs.exploring.explore.Goals as goal

pub extend_next-requires-clause-next : goal.extend_next-requires-clause-next
extend_next-requires-clause-next c =
    IsNext-leaves c.loop-wait.core c.loop-wait.agenda
    (record { forward = c.loop-wait.agenda.forward; backward = c.loop-wait.agenda.backward; queue = c.pop.new.self })
    c.in-Some.wait refl refl c.in-Some.ensures c.loop-wait.invariant.searching

pub returns-then-not-branch-clause-run : goal.returns-then-not-branch-clause-run
returns-then-not-branch-clause-run c =
    GoesCarefully-trans c.args.budget c.args.core.now c.loop-wait.core c.extend_next.new.core c.loop-wait.invariant.run c.in_ok-extend_next.ensures.run

pub loop-wait-preserved : goal.loop-wait-preserved
loop-wait-preserved c = record {
  run =
      GoesCarefully-trans c.args.budget c.args.core.now c.loop-wait.core c.extend_next.new.core c.loop-wait.invariant.run
      c.in_ok-extend_next.ensures.run;
  searching = c.in_ok-extend_next.ensures.searching;
  still =
      λ full.
      let was : c.loop-wait.core ≡ c.args.core.now = c.loop-wait.invariant.still full in
      c.in_ok-extend_next.ensures.still (subst (λ (m : Machine). c.args.budget ≤ count_of m.state) (sym was) full) ∙ was;
}

pub returns-clause-searching : goal.returns-clause-searching
returns-clause-searching c =
    IsSearching-same c.loop-wait.core c.loop-wait.agenda
    (record { forward = c.loop-wait.agenda.forward; backward = c.loop-wait.agenda.backward; queue = c.pop.new.self })
    refl refl (c.in_default.ensures.1 ∙ sym c.in_default.ensures.0) c.loop-wait.invariant.searching

pub returns-clause-whole : goal.returns-clause-whole
returns-clause-whole c = λ _. all_extended c.loop-wait.core c.loop-wait.agenda c.in_default.ensures.0 c.loop-wait.invariant.searching
