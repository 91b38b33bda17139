-- Why a worker ended.
use Rattle.std.specs.Prelude.{◌≡◌, ⊤, ℕ, List, [], ◌∷◌, ◌++◌, length, None, Some}
use mathlib.Core.List.{IsPrefix}
use Rattle.board.specs.Passes.{BoardPass, half_of, lock_at}
use Rattle.board.specs.Queues.{IsKnown, hand_of}
use Rattle.board.specs.declared.reply.Reply.{Reply}
use Rattle.bucket.specs.declared.limits.TheConstants.{MAX_LABELS}
use Rattle.crossbeam_queue.specs.Fifo.{Held}
use Rattle.pool.specs.Seen.{labels_seen}
use Rattle.pool.specs.declared.work_end.WorkEnd.{WorkEnd}
use Rattle.pool.specs.declared.work_end.WorkEnd.TheVariants.{Stopped, Empty, Spent, TurnSpent, Crowded, Memory}
use Rattle.strip_model.specs.declared.end.End.{End}
use Rattle.strip_model.specs.declared.end.End.TheVariants.{Forward, Backward}
use Rattle.turn_lock.specs.declared.turn_spent.TheConstants.{MOST_TURNS}

-- the queue of an end was asked, and gave none: it held no id at a moment
pub record GivesNone (e : End) (old new : BoardPass) : Type 0 where
  pub asked : new.asked ≡ old.asked ++ record { end = e; id = None } ∷ []
  pub halves : (f : End) → half_of new f ≡ half_of old f
  pub held : Held 0 (IsKnown (hand_of (half_of new e)))

-- the last two replies that were added between these two passes: neither queue gave an id, first the forward one and then the other
abbrev pub IsEmptyRound : (old new : BoardPass) → Type 0
IsEmptyRound old new =
    (before : List Reply) × IsPrefix old.asked before
    × (new.asked ≡ before ++ record { end = Forward; id = None } ∷ record { end = Backward; id = None } ∷ [])

-- a queue of each end was asked last, and gave none: it held no id at a moment, when the pass was as it is but for these replies
pub record FindsNone (old new : BoardPass) : Type 0 where
  pub round : IsEmptyRound old new
  pub held : (e : End) → Held 0 (IsKnown (hand_of (half_of new e)))

-- Of a worker whose pass was the first of these and is the second. Stopped: the gate's test holds of this worker and some step.
-- Empty: its last two calls of `next` were one for each end, and gave none. Spent: the pass is exhausted, and keeps the number.
-- TurnSpent: it has made as many turns of a bucket as it can. Crowded: a bucket has as many labels as it can.
abbrev pub IsEnd : (stops : ℕ → ℕ → Type 0) (worker : ℕ) → (old new : BoardPass) → WorkEnd → Type 0
IsEnd stops worker old p Stopped = (step : ℕ) × stops worker step
IsEnd stops worker old p Empty = FindsNone old p
IsEnd stops worker old p (Spent number) = p.drawer.kept ≡ Some number
IsEnd stops worker old p (TurnSpent count) = (count ≡ MOST_TURNS) × (e : End) × (k : ℕ) × ((lock_at p e k).turns ≡ MOST_TURNS)
IsEnd stops worker old p (Crowded labels) = (labels ≡ MAX_LABELS) × (e : End) × (k : ℕ) × (length (labels_seen p e k) ≡ MAX_LABELS)
IsEnd stops worker old p Memory = ⊤

-- the same of an end that isn't for want of work
abbrev pub IsHalt : (stops : ℕ → ℕ → Type 0) (worker : ℕ) → BoardPass → WorkEnd → Type 0
IsHalt stops worker p Empty = ⊥
IsHalt stops worker p end = IsEnd stops worker p p end
