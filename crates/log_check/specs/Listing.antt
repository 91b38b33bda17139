-- The list of a side's paths, read once.
use Rattle.std.specs.Prelude.{◌≡◌, ℕ, ◌<◌, List, [], length, get_or}
use Rattle.label_list.specs.Labels.{Listed, path_of}
use Rattle.log_check.specs.Faults.{IsNewLabel}
use Rattle.log_check.specs.declared.listing.Listing.{Listing}
use Rattle.log_check.specs.declared.listing.Listing.TheVariants.{Right, WrongAt}
use Rattle.strip_model.specs.Side.{Face}

-- these are labels of the side, and their paths are the first so many of a list, in their order
pub record HasFirst (S : Face) (paths : List (List ℕ)) (count : ℕ) (labels : Listed) : Type 0 where
  pub face : labels.face ≡ S
  pub size : length labels.labels ≡ count
  pub each : (k : ℕ) → k < count → path_of labels.labels k ≡ get_or paths k []

-- their paths are those of the list, in their order
abbrev pub HasPaths : Face → List (List ℕ) → Listed → Type 0
HasPaths S paths labels = HasFirst S paths (length paths) labels

-- What was found: each path is a new label path, and these labels have them; or the first that isn't.
abbrev pub IsListing : Face → List (List ℕ) → Listing → Type 0
IsListing S paths (Right labels) = ((k : ℕ) → k < length paths → IsNewLabel S paths k) × HasPaths S paths labels
IsListing S paths (WrongAt k) = (k < length paths) × (IsNewLabel S paths k → ⊥) × ((j : ℕ) → j < k → IsNewLabel S paths j)
