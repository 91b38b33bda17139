-- What each step tells its caller: of the step, the seat before, the number found and the seat after.
use Rattle.std.specs.Prelude.{◌≡◌, ◌≢◌, ◌≤◌, ◌%◌, ◌+◌, ◌-◌, ◌/◌, ◌^◌, ◌⊎◌, ◌++◌, ℕ, List, [], ◌∷◌, length, drop, Option, Some}
use mathlib.Core.List.{IsPrefix}
use Rattle.pass_weight.specs.declared.whole_weight.TheConstants.{WHOLE_WEIGHT}
use Rattle.atomic_table.specs.Table.{Me, Step}
use Rattle.turn_lock.specs.declared.view.View.{View}
use Rattle.turn_lock.specs.declared.view.Stage.TheVariants.{Idle, Waiting, Holding}
use Rattle.turn_lock.specs.Views.{placed}

module _ {E F : Type 0} where
  -- the view with this ticket
  abbrev pub waiting : View E F → ℕ → View E F
  waiting v k = record { seen = v.seen; told = v.told; own = v.own; joined = v.joined; stage = Waiting k; frame = v.frame; weight = v.weight }

  -- the view that holds the turn, with the history that it found
  abbrev pub holding : View E F → ℕ → List E → View E F
  holding v k found = record { seen = v.seen; told = v.told; own = v.own; joined = v.joined; stage = Holding k found; frame = v.frame; weight = v.weight }

  -- the view after a turn that found one history and left another
  abbrev pub after_turn : View E F → (found history : List E) → View E F
  after_turn v found history = record {
    seen = history;
    told = v.told;
    own = v.own ++ placed (length found) (drop (length found) history);
    joined = v.joined;
    stage = Idle;
    frame = v.frame;
    weight = v.weight;
  }

  -- a view after a split: it keeps the larger half of its weight
  abbrev pub kept_half : View E F → View E F
  kept_half v = record { seen = v.seen; told = v.told; own = v.own; joined = v.joined; stage = v.stage; frame = v.frame; weight = v.weight - v.weight / 2 }

  -- the view that was split off: it has seen what the old one has, has no place, and has the smaller half of the weight
  abbrev pub new_half : View E F → View E F
  new_half v = record { seen = v.seen; told = []; own = []; joined = []; stage = Idle; frame = v.frame; weight = v.weight / 2 }

  -- two views are made one, which was told of what the second had seen
  abbrev pub merged : View E F → View E F → View E F
  merged v w = record {
    seen = v.seen;
    told = w.seen;
    own = v.own;
    joined = v.joined ++ w.own ∷ w.joined;
    stage = v.stage;
    frame = v.frame;
    weight = v.weight + w.weight;
  }

  -- the view that has seen this, and was told of nothing
  abbrev pub settled : View E F → List E → View E F
  settled v seen = record { seen = seen; told = []; own = v.own; joined = v.joined; stage = v.stage; frame = v.frame; weight = v.weight }

module _ {S E F : Type 0} where
  -- a ticket was drawn
  abbrev pub Draws : Step S → Me S (View E F) → ℕ → Me S (View E F) → Type 0
  Draws st m r n = (k : ℕ) × (r ≡ k % 2 ^ 64) × (n ≡ (waiting m.0 k, m.1))

  -- the longer one of what was seen and what was told of was seen, and both begin it
  abbrev pub Compares : Step S → Me S (View E F) → ℕ → Me S (View E F) → Type 0
  Compares st m r n =
      (seen : List E) × (n ≡ (settled m.0 seen, m.1)) × IsPrefix m.0.seen seen × IsPrefix m.0.told seen
      × ((seen ≡ m.0.seen) ⊎ (seen ≡ m.0.told)) × (m.0.weight ≤ WHOLE_WEIGHT)

module _ {T E F : Type 0} (history : T → List E) (frame : T → F) where
  -- the value was taken: its history begins with what was seen, and its frame is the view's
  abbrev pub Takes : ℕ → Me (Option T) (View E F) → Me (Option T) (View E F) → Type 0
  Takes k m n = (value : T) × (n ≡ (holding m.0 k (history value), (0, Some value) ∷ [])) × IsPrefix m.0.seen (history value) × (m.0.frame ≡ Some (frame value))

  -- where the own ticket is served the value was taken, else nothing changed
  abbrev pub Looks : Step (Option T) → Me (Option T) (View E F) → ℕ → Me (Option T) (View E F) → Type 0
  Looks st m r n = (k : ℕ) → m.0.stage ≡ Waiting k → (r ≡ k % 2 ^ 64 → Takes k m n) × (r ≢ k % 2 ^ 64 → n ≡ m)

  -- the value was given back: its history is seen, and what was added to it is the view's own
  abbrev pub Serves : Step (Option T) → Me (Option T) (View E F) → ℕ → Me (Option T) (View E F) → Type 0
  Serves st m r n = (k : ℕ) (found : List E) (value : T) → m.0.stage ≡ Holding k found → m.1 ≡ (0, Some value) ∷ [] → n ≡ (after_turn m.0 found (history value), [])
