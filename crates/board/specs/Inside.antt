-- What lies in the halves of a board and of a pass.
use Rattle.std.specs.Prelude.{◌≡◌, ℕ, ◌+◌, ◌≤◌, List, [], ◌∷◌, ◌++◌, length, map, Some, None}
use Rattle.atomic_table.specs.Seated.{TableId}
use Rattle.board.specs.Passes.{LockPass, HalfPass, BoardPass}
use Rattle.board.specs.Sharing.{lock_kept, lock_split_off, AreLocksJoined, AreLocksClosed}
use Rattle.board.specs.declared.queue.Hand.{Hand}
use Rattle.board.specs.declared.reply.Reply.{Reply}
use Rattle.bucket.specs.Buckets.{Bin}
use Rattle.bucket.specs.declared.id.Id.{Id}
use Rattle.bucket.specs.declared.limits.TheConstants.{BUCKETS}
use Rattle.crossbeam_queue.specs.Passes.{Pass as IdPass, view}
use Rattle.shared_budget.specs.Drawn.{Drawn}
use Rattle.plan_check.specs.Publication.{Publication}
use Rattle.strip_model.specs.Side.{Face}

-- the names of the locks
abbrev pub names_in : List LockPass → List TableId
names_in ps = map (λ (p : LockPass). p.lock) ps

-- the pass is of bucket k of this side, it holds no turn, and it has this weight
pub record IsIdle (S : Face) (k weight : ℕ) (p : LockPass) : Type 0 where
  pub frame : p.frame ≡ Some (record { side = S; number = k })
  pub turn : p.turn ≡ None
  pub weighs : p.weight ≡ weight

-- so are all, from number k on
abbrev pub AreIdle : Face → ℕ → ℕ → List LockPass → Type 0
AreIdle S k weight [] = Unit {0}
AreIdle S k weight (p ∷ ps) = IsIdle S k weight p × AreIdle S (k + 1) weight ps

-- the half of a pass with these parts
abbrev pub half_pass_of : Face → List LockPass → IdPass Id Hand → HalfPass
half_pass_of S locks ids = record {
  name = record { side = S; locks = names_in locks; queue = ids.table_id };
  locks = locks;
  pushes = (view ids).pushes;
  ids = (view ids).ids;
  weight = (view ids).weight;
}

-- what every half of a pass keeps
pub record IsHalfPass (S : Face) (locks : List LockPass) (ids : IdPass Id Hand) : Type 0 where
  pub count : length locks ≡ BUCKETS
  pub idle : AreIdle S 0 (view ids).weight locks
  pub no_slot : ids.me.1 ≡ []
  pub some_weight : 1 ≤ (view ids).weight

-- the pass with these parts
abbrev pub pass_of : (forward backward : HalfPass) → TableId → Publication → (seen : ℕ) → Drawn → List Reply → (weight : ℕ) → BoardPass
pass_of forward backward peak plan seen drawer asked weight =
    record { forward = forward; backward = backward; peak = peak; plan = plan; seen = seen; drawer = drawer; asked = asked; weight = weight }

-- what every pass keeps: each of its parts has its weight
pub record IsPass (forward backward : HalfPass) (drawer : Drawn) (weight : ℕ) : Type 0 where
  pub forward_weighs : forward.weight ≡ weight
  pub backward_weighs : backward.weight ≡ weight
  pub drawer_weighs : drawer.weight ≡ weight

-- ---- in the middle of a loop over the locks

-- The passes done so far were split, and the new ones stand in `made`; the others are as they were.
pub record Splitting (olds news made : List LockPass) (n : ℕ) : Type 0 where
  pub done : List LockPass
  pub left : List LockPass
  pub olds_are : olds ≡ done ++ left
  pub news_are : news ≡ map lock_kept done ++ left
  pub made_are : made ≡ map lock_split_off done
  pub count : length done ≡ n

-- The passes done so far were joined; the others are as they were, and those to be joined into them are the rest.
pub record Joining (olds others news rest : List LockPass) (n : ℕ) : Type 0 where
  pub done : List LockPass
  pub done_others : List LockPass
  pub done_news : List LockPass
  pub left : List LockPass
  pub olds_are : olds ≡ done ++ left
  pub others_are : others ≡ done_others ++ rest
  pub news_are : news ≡ done_news ++ left
  pub joined : AreLocksJoined done done_others done_news
  pub count : length done ≡ n

-- The locks done so far were closed, and their buckets stand in `made`; the others and their passes are the rest.
pub record Closing (passes rest : List LockPass) (locks : List TableId) (made : List Bin) (n : ℕ) : Type 0 where
  pub done : List LockPass
  pub passes_are : passes ≡ done ++ rest
  pub locks_are : locks ≡ names_in rest
  pub closed : AreLocksClosed done made
  pub count : length done ≡ n
