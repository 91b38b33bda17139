-- What a walk keeps of labels, and what it has to look at.
use Rattle.std.specs.Prelude.{◌≡◌, ◌⊎◌, ℕ, ◌*◌, ◌≤◌, List, length, slice_get, All, IfSome, Option, None, Some}
use Rattle.std.specs.List.{Contains}
use Rattle.std.specs.List.Sorted.{IsNonDecreasingBy}
use Rattle.joiner.specs.Offers.{Covers}
use Rattle.joiner.specs.Pairs.{place_of}
use Rattle.joiner.specs.Tips.{IsWithin, strips_at, Meets, meet_gain}
use Rattle.joiner.specs.declared.entry.Entry.{Entry}
use Rattle.joiner.specs.declared.group.Group.{Group}
use Rattle.joiner.specs.declared.pair.Pair.{Pair}
use Rattle.joiner.specs.declared.tip.Tip.{Tip}
use Rattle.label.specs.Gaining.{set_value}
use Rattle.strip_model.specs.Orbit.{Orbit}
use Rattle.strip_model.specs.declared.limits.TheConstants.{MAX_TOTAL_GAIN}

abbrev pub root : Entry
root = record { tip = None; over = 0; place = None; value = 0 }

-- what each entry keeps
pub record IsSound (J : Orbit) (e : Entry) : Type 0 where
  pub within : IfSome e.tip (IsWithin J)
  pub over : IfSome e.tip (λ t. e.over ≡ t.over)
  pub value : e.value ≡ set_value J (strips_at e.tip)

-- the entry of a label with this last directed strip
abbrev pub IsOfLast : ℕ → Option Tip → Type 0
IsOfLast y None = ⊥
IsOfLast y (Some t) = t.last ≡ y

-- a group of the labels with last directed strip y
pub record IsGroup (J : Orbit) (y : ℕ) (g : Group) : Type 0 where
  pub sound : All (IsSound J) g.waiting.items
  pub last : All (λ w. IsOfLast y w.tip) g.waiting.items
  pub rising : IsNonDecreasingBy (λ w. w.over) g.waiting.items
  pub greatest : All (λ w. w.value ≤ g.greatest) g.waiting.items
  pub small : g.greatest ≤ MAX_TOTAL_GAIN

-- a group for each directed strip
pub record IsGrouped (J : Orbit) (groups : List Group) : Type 0 where
  pub size : length groups ≡ 2 * length J.strips
  pub each : (y : ℕ) (g : Group) → slice_get groups y ≡ Some g → IsGroup J y g

-- the entry of the root, or of a label in one of the groups
abbrev pub IsAmong : List Group → Entry → Type 0
IsAmong groups w = (w ≡ root) ⊎ ((y : ℕ) × (g : Group) × (slice_get groups y ≡ Some g) × Contains g.waiting.items w)

-- just this entry
abbrev pub IsOne : Entry → Entry → Type 0
IsOne e w = w ≡ e

-- where the two meet, the best so far is no worse than they are
abbrev pub Covered : Orbit → ℕ → Option Pair → Entry → Entry → Type 0
Covered J floor best f w = Meets J f.tip w.tip → Covers floor best (meet_gain J f.tip w.tip) (place_of f.place) (place_of w.place)

-- the pair of two that meet
pub record IsPairOf (J : Orbit) (f w : Entry) (p : Pair) : Type 0 where
  pub meets : Meets J f.tip w.tip
  pub is : p ≡ record { forward = f.place; backward = w.place; gain = meet_gain J f.tip w.tip }

-- the best later is the best before, or the pair of f and one of these
abbrev pub IsNewOf : Orbit → Entry → (Entry → Type 0) → Option Pair → Option Pair → Type 0
IsNewOf J f these before later =
    (later ≡ before) ⊎ ((w : Entry) × (p : Pair) × these w × (later ≡ Some p) × IsPairOf J f w p)
