use Rattle.std.proofs.Common.{◌≡◌, drop}
use Rattle.label_list.specs.Keys.{key_from}
use Rattle.label_list.proofs.path_index.path_key.Given as goal

-- the key so far goes on with the rest of the path
abbrev pub invariant-loop-x : goal.invariant-loop-x
invariant-loop-x l = key_from l.key (drop l.x-index l.path) ≡ key_from 0 l.path
