-- How an index finds a path among the paths of labels.
use Rattle.std.specs.Prelude.{◌≡◌, ◌≢◌, ℕ, ◌+◌, ◌*◌, ◌%◌, ◌^◌, ◌<◌, ◌≤◌, List, [], ◌∷◌, length, get_or, nat_eq, Option, Some, None}
use Rattle.std.specs.HashMap as hash
use Rattle.label_list.specs.declared.path_index.PathIndex.{PathIndex}
use Rattle.label_list.specs.declared.path_index.TheConstants.{KEY_FACTOR}

-- the key of a path: its numbers as the digits of one, of which the lowest 64 bits count
abbrev pub key_from : ℕ → List ℕ → ℕ
key_from key [] = key
key_from key (x ∷ xs) = key_from (((key * KEY_FACTOR) % 2 ^ 64 + x) % 2 ^ 64) xs

unfoldable pub key_of : List ℕ → ℕ
key_of path = key_from 0 path

-- the path with this place
abbrev pub path_at : List (List ℕ) → ℕ → List ℕ
path_at paths k = get_or paths k []

-- from place j on, and before place n, no path has the key
abbrev pub NoneWith : List (List ℕ) → ℕ → ℕ → ℕ → Type 0
NoneWith paths j n key = (k : ℕ) → j ≤ k → k < n → key_of (path_at paths k) ≢ key

-- of the paths before place n, the place of the last that has the key, where there is one
abbrev pub IsLastWith : List (List ℕ) → ℕ → ℕ → Option ℕ → Type 0
IsLastWith paths n key None = NoneWith paths 0 n key
IsLastWith paths n key (Some k) = k < n × (key_of (path_at paths k) ≡ key) × NoneWith paths (k + 1) n key

-- For each key the index has the last path that has it, and for each path the last one before it that has the same.
pub record IsIndexOf (paths : List (List ℕ)) (index : PathIndex) : Type 0 where
  pub last : (key : ℕ) → IsLastWith paths (length paths) key (hash.get nat_eq index.last key)
  pub size : length index.before.items ≡ length paths
  pub before : (k : ℕ) → k < length paths → IsLastWith paths k (key_of (path_at paths k)) (get_or index.before.items k None)
