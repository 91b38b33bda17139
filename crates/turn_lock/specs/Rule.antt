-- The rule of the lock's table.
--
-- Word 0 is the number of tickets that were drawn, `next`, and word 1 the number of turns that were served, `serving`. Both are counted without end here,
-- and modulo 2^64 in the words. The *served history* is that of the value at home; while the value is out, it is the one that the holder of the turn found.
use Rattle.std.specs.Prelude.{◌≡◌, ◌≤◌, ◌+◌, ◌%◌, ◌^◌, ◌⊎◌, ℕ, List, [], ◌∷◌, length, sum_by, All, Option, Some, None, nat_lt}
use mathlib.Core.Option.{Option as Slot, some, none}
use mathlib.Core.List.{IsPrefix}
use Rattle.pass_weight.specs.declared.whole_weight.TheConstants.{WHOLE_WEIGHT}
use Rattle.atomic_table.specs.Table.{State}
use Rattle.turn_lock.specs.declared.view.View.{View}
use Rattle.turn_lock.specs.declared.view.Stage.TheVariants.{Idle}
use Rattle.turn_lock.specs.Views.{one_if, tickets, tickets_of, turns_held, IsInLine, IsHolder, StandsFrom, times_in, placed_parties}

module _ {E F : Type 0} where
  -- the view of the first pass: it has the whole weight
  abbrev pub first_view : F → View E F
  first_view f = record { seen = []; told = []; own = []; joined = []; stage = Idle; frame = Some f; weight = WHOLE_WEIGHT }

  -- the view that a pass leaves when it is joined into another
  abbrev pub left_over : View E F
  left_over = record { seen = []; told = []; own = []; joined = []; stage = Idle; frame = None; weight = 0 }

module _ {T E F : Type 0} (history : T → List E) (frame : T → F) (f : F) where
  -- the slot has a value with the served history and the lock's frame, and nobody holds the turn; or it is out, and one view holds the turn
  abbrev pub IsSlot : List E → List (Slot (Option T)) → List (View E F) → Type 0
  IsSlot served homes views =
      ((value : T) × (homes ≡ some (Some value) ∷ []) × (history value ≡ served) × (frame value ≡ f) × (sum_by (λ v. turns_held v.stage) views ≡ 0))
      ⊎ ((homes ≡ none ∷ []) × (sum_by (λ v. turns_held v.stage) views ≡ 1))

  pub record IsKept (next serving : ℕ) (served : List E) (s : State (Option T) (View E F)) : Type 0 where
    -- the words are the next ticket and the one that is served
    pub words : s.words ≡ next % 2 ^ 64 ∷ serving % 2 ^ 64 ∷ []
    -- the ticket that is served and the number of views with a ticket make the next ticket
    pub drawn : serving + sum_by (λ v. tickets v.stage) s.views ≡ next
    -- no two tickets are the same
    pub different : (n : ℕ) → sum_by (λ v. tickets_of n v.stage) s.views ≤ 1
    -- each ticket lies from the one that is served on, and before the next
    pub in_line : All (λ v. IsInLine serving next v.stage) s.views
    -- the slot is out exactly while a view holds the turn
    pub slot : IsSlot served s.homes s.views
    -- the holder has the ticket that is served, and keeps the history that it found
    pub holder : All (λ v. IsHolder serving served v.stage) s.views
    -- all carry the lock's frame
    pub frames : All (λ v. (v ≡ left_over) ⊎ (v.frame ≡ Some f)) s.views
    -- what was seen, and what was told of by a pass that was joined, begins the served history
    pub seen : All (λ v. IsPrefix v.seen served × IsPrefix v.told served) s.views
    -- the places of each party rise, and its entries stand there in the served history
    pub stand : All (λ v. All (StandsFrom 0 served) (placed_parties v)) s.views
    -- each place of the served history stands in exactly one party of one view, and no other place does
    pub places : (n : ℕ) → sum_by (times_in n) s.views ≡ one_if (nat_lt n (length served))
    -- the weights make the whole weight
    pub weights : sum_by (λ v. v.weight) s.views ≡ WHOLE_WEIGHT
    -- each weight is at least 1
    pub positive : All (λ v. (v ≡ left_over) ⊎ (1 ≤ v.weight)) s.views

  -- the rule
  abbrev pub Keeps : State (Option T) (View E F) → Type 0
  Keeps s = (next serving : ℕ) × (served : List E) × IsKept next serving served s
