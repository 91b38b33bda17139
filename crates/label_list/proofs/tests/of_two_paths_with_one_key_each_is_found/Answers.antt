use Rattle.std.proofs.Common.{arith, ℕ, List, [], ◌∷◌}
use Rattle.label_list.specs.Keys.{IsIndexOf}
use Rattle.label_list.proofs.tests.of_two_paths_with_one_key_each_is_found.Goals as goal

abbrev one : List ℕ
one = 23789 ∷ 0 ∷ 31644 ∷ 23248 ∷ []

pub add-requires-2 : goal.add-requires-2
add-requires-2 g c =
    let of_one : IsIndexOf (one ∷ []) c.add.new.self = c.in_ok-add.ensures.added [] c.new-index.ensures in
    omega (arith, of_one.size)

pub find-requires-clause-index : goal.find-requires-clause-index
find-requires-clause-index g c = c.in_ok-add-2.ensures.added (one ∷ []) (c.in_ok-add.ensures.added [] c.new-index.ensures)

pub find-requires-2-clause-index : goal.find-requires-2-clause-index
find-requires-2-clause-index g c = c.in_ok-add-2.ensures.added (one ∷ []) (c.in_ok-add.ensures.added [] c.new-index.ensures)
