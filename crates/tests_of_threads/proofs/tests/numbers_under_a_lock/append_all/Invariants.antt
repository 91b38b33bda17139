use Rattle.std.proofs.Common.{◌≡◌, ◌≤◌, None}
use Rattle.tests_of_threads.proofs.tests.numbers_under_a_lock.append_all.Given as goal

abbrev pub invariant-loop-k : goal.invariant-loop-k
invariant-loop-k g l = (l.pass.lock ≡ l.fn.pass.lock) × (l.pass.turn ≡ None) × (l.pass.weight ≡ l.fn.pass.weight) × (l.appended ≤ l.k)
