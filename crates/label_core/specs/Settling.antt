-- How a core takes over a trace: all labels of a bucket are there from the first, and wait; then its entries are gone over.
use Rattle.std.specs.Prelude.{◌≡◌, ℕ, ◌<◌, ⊤, nat_le, List, [], ◌∷◌, ◌++◌, map, length, get_or, if◌then◌else◌}
use Rattle.bucket.specs.Buckets.{Bin, held_in}
use Rattle.bucket.specs.Stores.{entry_of}
use Rattle.bucket.specs.declared.entry.Entry.{Entry}
use Rattle.bucket.specs.declared.id.Id.{Id}
use Rattle.bucket.specs.declared.entry.Entry.TheVariants.{Insert, Take, Retire, Cut}
use Rattle.label_core.specs.CoreState.{Note, Retires, Cuts}
use Rattle.label_core.specs.Traces.{name_in}
use Rattle.label_list.specs.Labels.{Held, path_of, with_state}
use Rattle.label_list.specs.declared.state.State.{State}
use Rattle.label_list.specs.declared.state.State.TheVariants.{Waiting, Taken, Retired, Cut as IsCut}
use Rattle.strip_model.specs.Orbit.{Orbit}
use Rattle.strip_model.specs.Reach.{bound}
use Rattle.strip_model.specs.declared.end.End.{End}

-- the label, while nobody has taken it yet
abbrev pub waiting : Held → Held
waiting h = record { path = h.path; state = Waiting }

-- the labels of a bucket, and the marks so far
pub record Settling : Type 0 where
  pub labels : List Held
  pub notes : List Note

-- these labels and marks
abbrev pub at_hand : List Held → List Note → Settling
at_hand labels notes = record { labels = labels; notes = notes }

-- a label in another state
abbrev pub moved : Settling → ℕ → State → Settling
moved p k state = record { labels = with_state p.labels k state; notes = p.notes }

-- with a mark besides
abbrev pub marked : Settling → ℕ → State → Note → Settling
marked p k state note = record { labels = with_state p.labels k state; notes = p.notes ++ note ∷ [] }

-- after the cut of the label of this name, which is left out where the bound exceeds the gain
abbrev pub settle_cut : Orbit → ℕ → Settling → Id → Settling
settle_cut J gain p id = if nat_le (bound J (path_of p.labels id.index)) gain then marked p id.index IsCut (Cuts id) else p

-- after an entry of the bucket with this number, on the side whose instance is J: a label that was inserted is there already,
-- and a cut whose bound exceeds the gain is left out
abbrev pub settle : Orbit → End → ℕ → ℕ → Settling → Entry → Settling
settle J e number gain p (Insert k) = p
settle J e number gain p (Take k) = moved p k Taken
settle J e number gain p (Retire k by) = marked p k (Retired by) (Retires (name_in e number k) (name_in e number by))
settle J e number gain p (Cut k) = settle_cut J gain p (name_in e number k)

-- after more entries, one after another
abbrev pub settle_all : Orbit → End → ℕ → ℕ → Settling → List Entry → Settling
settle_all J e number gain p [] = p
settle_all J e number gain p (entry ∷ entries) = settle_all J e number gain (settle J e number gain p entry) entries

-- a bucket's labels as its history leaves them, and the marks after these
unfoldable pub settle_bucket : Orbit → End → ℕ → List Note → Bin → Settling
settle_bucket J e gain notes b =
    settle_all J e b.number gain (record { labels = map waiting (held_in b); notes = notes }) (map entry_of b.history)

-- the labels of buckets, and the marks so far
pub record SettledSide : Type 0 where
  pub buckets : List (List Held)
  pub notes : List Note

-- the first bucket, and then those after it
abbrev pub before : Settling → SettledSide → SettledSide
before p q = record { buckets = p.labels ∷ q.buckets; notes = q.notes }

-- the labels of a side's buckets as their histories leave them, and the marks after these, bucket after bucket
abbrev pub settle_side : Orbit → End → ℕ → List Note → List Bin → SettledSide
settle_side J e gain notes [] = record { buckets = []; notes = notes }
settle_side J e gain notes (b ∷ bins) =
    before (settle_bucket J e gain notes b) (settle_side J e gain (settle_bucket J e gain notes b).notes bins)

-- the label whose state the entry changes is one of the first n
abbrev pub IsNamed : ℕ → Entry → Type 0
IsNamed n (Insert k) = ⊤
IsNamed n (Take k) = k < n
IsNamed n (Retire k by) = k < n
IsNamed n (Cut k) = k < n

-- and so of each of these entries
abbrev pub AreNamed : ℕ → List Entry → Type 0
AreNamed n entries = (k : ℕ) (d : Entry) → k < length entries → IsNamed n (get_or entries k d)
