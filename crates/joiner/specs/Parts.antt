-- Forward labels that are cut into parts of neighbours, and what a search of each part asks and answers.
use Rattle.std.specs.Prelude.{◌≡◌, ℕ, ◌+◌, ◌≤◌, List, length, All, slice_get, option_map, Option, Some, Result, Ok}
use Rattle.std.specs.Fork.{slice_chunk}
use Rattle.joiner.specs.Entries.{IsGrouped, IsAmong}
use Rattle.joiner.specs.LabelJoins.{IsForwardFace}
use Rattle.joiner.specs.Pairs.{IsBest}
use Rattle.joiner.specs.Represented.{Represents}
use Rattle.joiner.specs.declared.group.Group.{Group}
use Rattle.joiner.specs.declared.pair.Pair.{Pair}
use Rattle.label.specs.Labels.{IsLabelOf}
use Rattle.label.specs.declared.label.Label.{Label}
use Rattle.label.specs.declared.limits.TheConstants.{MAX_LISTED}
use Rattle.strip_model.specs.Orbit.{Orbit}
use Rattle.strip_model.specs.Side.{Face}
use Rattle.strip_model.specs.declared.end.End.TheVariants.{Backward}

-- the pair with its forward place counted from start; the root stays the root
abbrev pub moved : ℕ → Pair → Pair
moved start p = record { forward = option_map (λ k. start + k) p.forward; backward = p.backward; gain = p.gain }

-- forward labels of a side, and groups that stand for backward ones
pub record AreSearchable (S : Face) (forward : List Label) (groups : List Group) : Type 0 where
  pub side : IsForwardFace S
  pub labels : All (IsLabelOf S) forward
  pub few : length forward ≤ MAX_LISTED
  pub grouped : IsGrouped S.instance groups
  pub represents : (backward : List Label) × Represents S.instance Backward backward (IsAmong groups)

-- the best pair of forward labels with the backward ones, whichever the groups stand for
abbrev pub IsBestInGroups : Orbit → List Label → List Group → ℕ → Option Pair → Type 0
IsBestInGroups J forward groups floor best =
    (backward : List Label) → Represents J Backward backward (IsAmong groups) → IsBest J forward backward floor best

-- the answers that there are, each for a part of so many neighbours among the forward labels
abbrev pub AreBestOfParts : {E : Type 0} → Orbit → List Label → List Label → ℕ → ℕ → List (Result (Option Pair) E) → Type 0
AreBestOfParts J forward backward floor size answers =
    (n : ℕ) (answer : Option Pair) → slice_get answers n ≡ Some (Ok answer) → IsBest J (slice_chunk forward size n) backward floor answer
