use Rattle.joiner.proofs.Walking.{CoveredFrom}
use Rattle.joiner.specs.Entries.{root, IsAmong, Covered}
use Rattle.joiner.specs.Offers.{IsAbove}
use Rattle.joiner.specs.Represented.{IsFirst}
use Rattle.joiner.specs.Walks.{IsFoundIn}
use Rattle.joiner.specs.declared.entry.Entry.{Entry}
use Rattle.joiner.proofs.walk.best_of_walk.Given as goal

abbrev pub invariant-loop-k : goal.invariant-loop-k
invariant-loop-k l = record {
  above : IsAbove l.floor l.best;
  root : (w : Entry) → IsAmong l.groups w → Covered l.instance l.floor l.best root w;
  covered : CoveredFrom l.instance l.floor l.groups l.order l.k l.best;
  found : IsFoundIn l.instance (IsFirst l.order) (IsAmong l.groups) l.best;
}
