-- What becomes of the ids that were given, and of the labels that were taken.
use Rattle.std.specs.Prelude.{◌≡◌, ◌⊎◌, ⊤, ℕ, List, [], ◌∷◌, ◌++◌, Option, None, Some}
use Rattle.std.specs.List.{All}
use mathlib.Core.List.{IsPrefix}
use Rattle.board.specs.Passes.{BoardName, BoardPass, half_of, lock_at}
use Rattle.board.specs.declared.reply.Reply.{Reply}
use Rattle.bucket.specs.Histories.{Step, Inserts, Takes, Retires, Cuts}
use Rattle.bucket.specs.declared.id.Id.{Id}
use Rattle.pool.specs.Seen.{IsSettled, IsDone}
use Rattle.pool.specs.declared.work_end.WorkEnd.{WorkEnd}
use Rattle.pool.specs.declared.work_end.WorkEnd.TheVariants.{Empty}
use Rattle.strip_model.specs.declared.end.End.{End}

-- this id is the one that is left out, if one is
abbrev pub IsLeftOut : Option Id → Id → Type 0
IsLeftOut None id = ⊥
IsLeftOut (Some last) id = id ≡ last

-- where the entry takes a label of bucket k, that label is done with
abbrev pub IsTakeDone : BoardName → BoardPass → Option Id → End → ℕ → Step → Type 0
IsTakeDone b p last e k (Inserts id path) = ⊤
IsTakeDone b p last e k (Takes id) =
    IsLeftOut last (record { end = e; bucket = k; index = id }) ⊎ IsDone b p (record { end = e; bucket = k; index = id })
IsTakeDone b p last e k (Retires id by) = ⊤
IsTakeDone b p last e k (Cuts id) = ⊤

-- Of what was added between these two passes: each id that was given is settled, and each label that was taken is done with, but
-- for one that may be left out.
pub record Handles (b : BoardName) (last : Option Id) (old new : BoardPass) : Type 0 where
  pub given : (e : End) (more : List Id) → (half_of new e).ids ≡ (half_of old e).ids ++ more
      → All (λ id. IsLeftOut last id ⊎ IsSettled old new id) more
  pub taken : (e : End) (k : ℕ) (more : List Step) → (lock_at new e k).own ≡ (lock_at old e k).own ++ more
      → All (IsTakeDone b new last e k) more

-- no id came with the reply
abbrev pub GaveNone : Reply → Type 0
GaveNone reply = reply.id ≡ None

-- This id came last, if there is one: of the replies that were added between these two passes it came with one, at this end, and
-- none came with those behind that; and of the ids that were given at that end it is the last.
abbrev pub IsLastGiven : (old new : BoardPass) → Option Id → Type 0
IsLastGiven old new None = ⊤
IsLastGiven old new (Some id) =
    (e : End) × (before after : List Reply) × IsPrefix old.asked before
    × (new.asked ≡ before ++ record { end = e; id = Some id } ∷ after) × All GaveNone after
    × (ids : List Id) × IsPrefix (half_of old e).ids ids × ((half_of new e).ids ≡ ids ++ id ∷ [])

-- What a worker leaves that ends so: all that it was given is settled, and all that it took is done with; but with an end other
-- than `Empty` the id that it was given last, of both queues, may be left out.
pub record Leaves (b : BoardName) (old new : BoardPass) (result : WorkEnd) : Type 0 where
  pub last : Option Id
  pub given_last : IsLastGiven old new last
  pub none_if_empty : result ≡ Empty → last ≡ None
  pub handles : Handles b last old new
