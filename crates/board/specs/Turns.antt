-- What one turn of a bucket does, and what the calls of the board that make one answer.
use Rattle.std.specs.Prelude.{◌≡◌, ◌⊎◌, ◌++◌, ℕ, ◌+◌, ◌<◌, ◌≤◌, List, [], length, Result, Ok, Err}
use mathlib.Core.List.{IsPrefix}
use Rattle.board.specs.Passes.{LockPass, BoardName, BoardPass, LockChanged, side_at, with_share}
use Rattle.board.specs.Shares.{IsFound}
use Rattle.board.specs.declared.refusal.BoardRefusal.{BoardRefusal}
use Rattle.board.specs.declared.refusal.BoardRefusal.TheVariants.{Present, Crowded, Turn, Memory}
use Rattle.board.specs.declared.refusal.TakeRefusal.{TakeRefusal}
use Rattle.board.specs.declared.refusal.TakeRefusal.TheVariants.{Turn as TakeTurn, Memory as TakeMemory}
use Rattle.bucket.specs.Buckets.{Bin, held_in, grown, IsInsertAnswer, IsTakeAnswer, IsCutAnswer}
use Rattle.bucket.specs.Histories.{Step, replay, IsHistory, bucket_of}
use Rattle.label_list.specs.Labels.{Held}
use Rattle.bucket.specs.declared.answers.CutAnswer.{CutAnswer}
use Rattle.bucket.specs.declared.answers.CutAnswer.TheVariants.{Gone as CutGone}
use Rattle.bucket.specs.declared.answers.Inserted.{Inserted}
use Rattle.bucket.specs.declared.answers.Inserted.TheVariants.{Dominated, Live}
use Rattle.bucket.specs.declared.answers.Taken.{Taken}
use Rattle.bucket.specs.declared.answers.Taken.TheVariants.{Gone}
use Rattle.bucket.specs.declared.id.Id.{Id}
use Rattle.bucket.specs.declared.limits.TheConstants.{BUCKETS}
use Rattle.bucket.specs.declared.refusal.BucketRefusal.TheVariants.{Present as IsThere, Crowded as IsFull, Memory as NoMemory}
use Rattle.label_list.specs.declared.state.State.TheVariants.{Waiting}
use Rattle.label.specs.Labels.{IsLabelOf}
use Rattle.label.specs.declared.label.Label.{Label}
use Rattle.std.specs.declared.alloc.AllocError.{AllocError}
use Rattle.strip_model.specs.Side.{Face}
use Rattle.strip_model.specs.declared.end.End.{End}
use Rattle.turn_lock.specs.declared.turn_spent.TheConstants.{MOST_TURNS}
use Rattle.turn_lock.specs.declared.turn_spent.TurnSpent.{TurnSpent}

-- ---- what the bucket answers

-- what taking any id answers: as the bucket does where the label is there; else it is gone, and waits
abbrev pub IsAnyTakeAnswer : ℕ → Result Taken AllocError → Face → List Held → List Step → Type 0
IsAnyTakeAnswer id result S hs steps =
    ((id < length hs) × IsTakeAnswer S hs id result steps)
    ⊎ ((length hs ≤ id) × (result ≡ Ok (Gone Waiting)) × (steps ≡ []))

-- what cutting any id at a value answers, in the same way
abbrev pub IsAnyCutAnswer : ℕ → ℕ → CutAnswer → Face → List Held → List Step → Type 0
IsAnyCutAnswer id value result S hs steps =
    ((id < length hs) × IsCutAnswer S hs id value result steps)
    ⊎ ((length hs ≤ id) × (result ≡ CutGone Waiting) × (steps ≡ []))

-- a label of this side, and of bucket k
abbrev pub IsHere : Face → ℕ → Label → Type 0
IsHere S k label = IsLabelOf S label × (bucket_of label.path.items ≡ k)

-- the bucket answers so, and grows by the entries alone
pub record IsAnswered (Answer : Face → List Held → List Step → Type 0) (old new : Bin) : Type 0 where
  pub steps : List Step
  pub answer : Answer old.side (held_in old) steps
  pub grows : new ≡ grown old steps

-- ---- what a turn does to the pass of its lock

-- the pass of a lock after a turn that found this history and made these entries
abbrev pub after_turn : LockPass → (before steps : List Step) → LockPass
after_turn p before steps = record p { seen = before ++ steps; own = p.own ++ steps; turns = p.turns + 1 }

-- One turn of bucket k of this side was made with the pass `old`, which had made fewer turns than it can. It found a history that
-- begins with all that the pass had seen; the bucket answered so, a relation of its side, of the labels to which that history
-- leads, and of the entries that it made; and the history that the turn left is legal.
pub record Answered (S : Face) (k : ℕ) (Answer : Face → List Held → List Step → Type 0) (old new : LockPass) : Type 0 where
  pub room : old.turns < MOST_TURNS
  pub before : List Step
  pub begins : IsPrefix old.seen before
  pub steps : List Step
  pub answer : Answer S (replay before) steps
  pub legal : IsHistory S k (before ++ steps)
  pub pass : new ≡ after_turn old before steps

-- the pass has made as many turns as it can, and nothing was done
pub record IsSpent (spent : TurnSpent) (old new : LockPass) : Type 0 where
  pub turns : old.turns ≡ MOST_TURNS
  pub count : spent.count ≡ MOST_TURNS
  pub pass : new ≡ old

-- what comes of a turn, which the pass may not get
abbrev pub IsTurn : {A : Type 0} → Face → ℕ → (A → Face → List Held → List Step → Type 0) → Result A TurnSpent → LockPass → LockPass → Type 0
IsTurn S k Answer (Ok answer) old new = Answered S k (Answer answer) old new
IsTurn S k Answer (Err spent) old new = IsSpent spent old new

-- ---- what the board answers

-- the id in its bucket of a label that was inserted
abbrev pub index_of : Inserted → ℕ
index_of (Dominated id by) = id
index_of (Live id retired) = id

-- what the insertion of a label with this path answers: as bucket k does, with the bucket in each id
abbrev pub IsInsertReply : Face → End → ℕ → List ℕ → Result (Id × Inserted) BoardRefusal → LockPass → LockPass → Type 0
IsInsertReply S e k path (Ok r) old new =
    (r.0 ≡ record { end = e; bucket = k; index = index_of r.1 })
    × Answered S k (λ S hs steps. IsInsertAnswer S hs path (Ok r.1) steps) old new
IsInsertReply S e k path (Err (Present id)) old new =
    (id ≡ record { end = e; bucket = k; index = id.index })
    × Answered S k (λ S hs steps. IsInsertAnswer S hs path (Err (IsThere id.index)) steps) old new
IsInsertReply S e k path (Err (Crowded labels)) old new =
    Answered S k (λ S hs steps. IsInsertAnswer S hs path (Err (IsFull labels)) steps) old new
IsInsertReply S e k path (Err Memory) old new =
    Answered S k (λ S hs steps. IsInsertAnswer S hs path (Err NoMemory) steps) old new
IsInsertReply S e k path (Err (Turn spent)) old new = IsSpent spent old new

-- what taking an id of bucket k answers
abbrev pub IsTakeReplyOf : Face → ℕ → ℕ → Result Taken TakeRefusal → LockPass → LockPass → Type 0
IsTakeReplyOf S k id (Ok taken) old new = Answered S k (IsAnyTakeAnswer id (Ok taken)) old new
IsTakeReplyOf S k id (Err TakeMemory) old new = Answered S k (λ S hs steps. (id < length hs) × (steps ≡ [])) old new
IsTakeReplyOf S k id (Err (TakeTurn spent)) old new = IsSpent spent old new

-- What taking an id answers. Where there is no such bucket, it is gone, and waits, and no turn is made.
abbrev pub IsTakeReply : BoardName → Id → Result Taken TakeRefusal → BoardPass → BoardPass → Type 0
IsTakeReply b id result old new =
    ((id.bucket < BUCKETS) × LockChanged old new id.end id.bucket (IsTakeReplyOf (side_at b id.end) id.bucket id.index result))
    ⊎ ((BUCKETS ≤ id.bucket) × (result ≡ Ok (Gone Waiting)) × (new ≡ old))

-- what cutting an id of bucket k at a value answers
abbrev pub IsCutReplyOf : Face → ℕ → ℕ → ℕ → Result CutAnswer TurnSpent → LockPass → LockPass → Type 0
IsCutReplyOf S k id value result old new = IsTurn S k (IsAnyCutAnswer id value) result old new

-- What cutting an id at a value answers, in the same way.
abbrev pub IsCutReply : BoardName → Id → ℕ → Result CutAnswer TurnSpent → BoardPass → BoardPass → Type 0
IsCutReply b id value result old new =
    ((id.bucket < BUCKETS) × LockChanged old new id.end id.bucket (IsCutReplyOf (side_at b id.end) id.bucket id.index value result))
    ⊎ ((BUCKETS ≤ id.bucket) × (result ≡ Ok (CutGone Waiting)) × (new ≡ old))

-- A cut of an id: first the pass looks at the incumbent's word, and then the label is cut at the value found there.
pub record Cutting (b : BoardName) (id : Id) (result : Result CutAnswer TurnSpent) (old new : BoardPass) : Type 0 where
  pub value : ℕ
  pub found : IsFound old value
  pub reply : IsCutReply b id value result (with_share old old.plan value) new
