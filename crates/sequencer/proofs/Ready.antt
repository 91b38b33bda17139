-- A search that is ready to begin, and what it finds.
use Rattle.std.proofs.Common.{ℕ, List, Option, sym, subst}
use Rattle.closer.specs.declared.outcome.Outcome.{Outcome}
use Rattle.instance_text.specs.Text.{IsText}
use Rattle.sequencer.specs.Finding.{IsFound}
use Rattle.sequencer.specs.Opening.{IsSearchOn}
use Rattle.sequencer.specs.Searching.{cut_for}
use Rattle.sequencer.specs.Tasks.{IsReady, IsTaskFor}
use Rattle.sequencer.specs.declared.task.Task.{Task}
use Rattle.strip_model.specs.Orbit.{Orbit}

-- what was found at the cut of a side was found at the cut that was asked for
pub found_at : (workers : ℕ) (t : Task) (outcome : Outcome) → IsReady t → IsFound workers t.budget t.instance t.forward.cut outcome
    → IsFound workers t.budget t.instance (cut_for t.instance t.cut) outcome
found_at workers t outcome ready found =
    subst (λ (n : ℕ). IsFound workers t.budget t.instance n outcome) ready.cut_is found

-- a search on the instance that the input says
pub search_on : (J : Orbit) (workers budget : ℕ) (cut : Option ℕ) (input : List ℕ) (t : Task) → IsText input J → IsTaskFor J workers budget cut t
    → IsSearchOn workers budget cut input t
search_on J workers budget cut input t read h = record {
  ready = h.ready;
  read = subst (λ (I : Orbit). IsText input I) (sym h.instance) read;
  workers_are = h.workers_are;
  budget_is = h.budget_is;
  cut_is = h.cut_is;
}
