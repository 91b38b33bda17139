-- The queues of ids.
use Rattle.std.specs.Prelude.{◌≡◌, ℕ, ◌+◌, ◌-◌, ◌/◌, List, [], ◌∷◌, ◌++◌, length, sum_by, Option, Some, None, Result, Ok, Err}
use Rattle.std.specs.List.{All}
use Rattle.board.specs.Passes.{HalfPass, BoardPass, half_of, with_half}
use Rattle.board.specs.declared.limits.TheConstants.{QUEUE_IDS}
use Rattle.pass_weight.specs.declared.whole_weight.TheConstants.{WHOLE_WEIGHT}
use Rattle.board.specs.declared.queue.Hand.{Hand}
use Rattle.board.specs.declared.refusal.Full.{Full}
use Rattle.bucket.specs.declared.id.Id.{Id}
use Rattle.crossbeam_queue.specs.Fifo.{Held}
use Rattle.strip_model.specs.declared.end.End.{End}

-- what a pass of a queue knows: its weight, how many ids it has pushed, and which ids it was given
abbrev pub hand : ℕ → ℕ → List Id → Hand
hand weight pushes ids = record { weight = weight; pushes = pushes; ids = ids }

-- the hand of the first pass, which has the whole weight
abbrev pub first_hand : Hand
first_hand = hand WHOLE_WEIGHT 0 []

-- what is left of a hand that was joined into another
abbrev pub spent_hand : Hand
spent_hand = hand 0 0 []

-- a hand after one more id was pushed, and after it was given one
abbrev pub with_push : Hand → Hand
with_push h = hand h.weight (h.pushes + 1) h.ids

abbrev pub with_id : Hand → Id → Hand
with_id h id = hand h.weight h.pushes (h.ids ++ id ∷ [])

-- a hand that gave half of its weight, rounded down, to a new one, which has pushed nothing and was given nothing
abbrev pub kept_hand : Hand → Hand
kept_hand h = hand (h.weight - h.weight / 2) h.pushes h.ids

abbrev pub new_hand : Hand → Hand
new_hand h = hand (h.weight / 2) 0 []

-- a hand into which another was joined
abbrev pub joined_hand : Hand → Hand → Hand
joined_hand h g = hand (h.weight + g.weight) (h.pushes + g.pushes) (h.ids ++ g.ids)

-- a hand that has no weight has pushed nothing, and was given nothing
abbrev pub IsQuiet : Hand → Type 0
IsQuiet h = h.weight ≡ 0 → (h.pushes ≡ 0) × (h.ids ≡ [])

-- The rule of a queue: what all passes have pushed is as many as they were given and as the queue holds; their weights are the
-- whole; and one that has no weight has pushed nothing and was given nothing.
pub record Balanced (items : List Id) (hands : List Hand) : Type 0 where
  pub weights : sum_by (λ h. h.weight) hands ≡ WHOLE_WEIGHT
  pub counts : sum_by (λ h. h.pushes) hands ≡ sum_by (λ h. length h.ids) hands + length items
  pub idle : All IsQuiet hands

-- what a pass knows of the ids that the queue holds at a moment: where there is no other pass, they are as many as it has pushed
-- more than it was given
abbrev pub IsKnown : Hand → List Id → Type 0
IsKnown h items = h.weight ≡ WHOLE_WEIGHT → h.pushes ≡ length h.ids + length items

-- the hand of a pass at an end
abbrev pub hand_of : HalfPass → Hand
hand_of h = hand h.weight h.pushes h.ids

-- What a push of an id answers: Ok, and the id was put at the back; or Full, with the id, where the queue held as many as it can
-- at a moment of the call, and then the pass is unchanged.
abbrev pub IsPushReply : HalfPass → HalfPass → Id → Result (Unit {0}) Full → Type 0
IsPushReply old new id (Ok _) = new ≡ record old { pushes = old.pushes + 1 }
IsPushReply old new id (Err full) = (full.id ≡ id) × (new ≡ old) × Held QUEUE_IDS (IsKnown (hand_of old))

-- What a call for the next id answers: the id at the front, which is added to the pass's ids; or None where the queue held none
-- at a moment of the call, and then the pass is unchanged.
abbrev pub IsNextReply : HalfPass → HalfPass → Option Id → Type 0
IsNextReply old new (Some id) = new ≡ record old { ids = old.ids ++ id ∷ [] }
IsNextReply old new None = (new ≡ old) × Held 0 (IsKnown (hand_of old))

-- what a call for the next id of an end does to a pass: its half at that end changes so, and the reply comes behind those that it had
pub record IsNext (e : End) (old new : BoardPass) (result : Option Id) : Type 0 where
  pub change : IsNextReply (half_of old e) (half_of new e) result
  pub others : new ≡ record (with_half old e (half_of new e)) { asked = old.asked ++ record { end = e; id = result } ∷ [] }
