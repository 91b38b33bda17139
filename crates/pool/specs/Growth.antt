-- How a pass grows: what it had stands, and more is added.
use Rattle.std.specs.Prelude.{◌≡◌, ◌⊎◌, ℕ, ◌≤◌, Some, IfSome}
use mathlib.Core.List.{IsPrefix}
use Rattle.board.specs.Passes.{LockPass, HalfPass, BoardName, BoardPass, board_of, gain, lock_in, lock_at, side_at}
use Rattle.bucket.specs.Histories.{IsHistory}
use Rattle.shared_budget.specs.Drawn.{Drawn}
use Rattle.strip_model.specs.declared.end.End.{End}

-- The pass of a lock has seen no less of the history, and its parties have the entries that they had, in their order, and maybe
-- more.
pub record LockGrows (old new : LockPass) : Type 0 where
  pub seen : IsPrefix old.seen new.seen
  pub own : IsPrefix old.own new.own
  pub joined : IsPrefix old.joined new.joined

-- so bucket by bucket, and the half was given the ids that it had been given, and maybe more
pub record HalfGrows (old new : HalfPass) : Type 0 where
  pub locks : (k : ℕ) → LockGrows (lock_in old k) (lock_in new k)
  pub ids : IsPrefix old.ids new.ids

-- a drawer's parties have the numbers that they had, and maybe more; where it was exhausted it is so still, with its number
pub record DrawerGrows (old new : Drawn) : Type 0 where
  pub own : IsPrefix old.own new.own
  pub joined : IsPrefix old.joined new.joined
  pub budget : new.budget ≡ old.budget
  pub kept : IfSome old.kept (λ number. new.kept ≡ Some number)

-- A pass of one board: the histories that it had seen, its parties' entries, numbers and ids, and its replies stand, and more may
-- have been added; its best plan gains no less, and the greatest gain that it has seen is no less.
pub record Grows (old new : BoardPass) : Type 0 where
  pub board : board_of new ≡ board_of old
  pub forward : HalfGrows old.forward new.forward
  pub backward : HalfGrows old.backward new.backward
  pub plan : gain old.plan ≤ gain new.plan
  pub seen : old.seen ≤ new.seen
  pub drawer : DrawerGrows old.drawer new.drawer
  pub asked : IsPrefix old.asked new.asked

-- each history that the pass has seen is the one that it had seen before, or a legal one
abbrev pub IsLawful : BoardName → (old new : BoardPass) → Type 0
IsLawful b old new =
    (e : End) (k : ℕ) → ((lock_at new e k).seen ≡ (lock_at old e k).seen) ⊎ IsHistory (side_at b e) k (lock_at new e k).seen
