-- What a walk goes by and finds.
use Rattle.std.specs.Prelude.{ℕ, ◌<◌, ◌≤◌, List, Option, None, Some, ⊤}
use Rattle.joiner.specs.Entries.{IsAmong, IsPairOf}
use Rattle.joiner.specs.Tips.{Meets, meet_gain}
use Rattle.joiner.specs.declared.entry.Entry.{Entry}
use Rattle.joiner.specs.declared.group.Group.{Group}
use Rattle.joiner.specs.declared.pair.Pair.{Pair}
use Rattle.joiner.specs.declared.ranked.Ranked.{Ranked}
use Rattle.strip_model.specs.Orbit.{Orbit}

-- no pair with this label gains more than the bound
abbrev pub IsBounding : Orbit → List Group → Ranked → Type 0
IsBounding J groups r = (w : Entry) → IsAmong groups w → Meets J r.entry.tip w.tip → meet_gain J r.entry.tip w.tip ≤ r.bound

-- what was found is a pair of one of the first and one of the second
abbrev pub IsFoundIn : Orbit → (Entry → Type 0) → (Entry → Type 0) → Option Pair → Type 0
IsFoundIn J first second None = ⊤
IsFoundIn J first second (Some p) = (f : Entry) × (w : Entry) × first f × second w × IsPairOf J f w p

-- the entry meets the root, or one in the groups, for more than the floor
pub record MeetsOver (J : Orbit) (groups : List Group) (floor : ℕ) (f : Entry) : Type 0 where
  pub with : Entry
  pub among : IsAmong groups with
  pub meets : Meets J f.tip with.tip
  pub over : floor < meet_gain J f.tip with.tip

-- it meets none for more than the floor
abbrev pub MeetsNoneOver : Orbit → List Group → ℕ → Entry → Type 0
MeetsNoneOver J groups floor f = (w : Entry) → IsAmong groups w → Meets J f.tip w.tip → meet_gain J f.tip w.tip ≤ floor
