use Rattle.std.proofs.Common.{◌≡◌}
use Rattle.tests_of_threads.proofs.tests.drawn_numbers.draw_all.Given as goal

abbrev pub invariant-loop : goal.invariant-loop
invariant-loop l = (l.drawer.table ≡ l.fn.drawer.table) × (l.drawer.weight ≡ l.fn.drawer.weight)
