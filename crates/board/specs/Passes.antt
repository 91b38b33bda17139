-- A board and a pass of it, as contracts see them: part by part.
use Rattle.std.specs.Prelude.{◌≡◌, ℕ, List, [], set, slice_index_or, None}
use Rattle.atomic_table.specs.Seated.{TableId}
use Rattle.board.specs.Shared.{Whose}
use Rattle.board.specs.declared.reply.Reply.{Reply}
use Rattle.bucket.specs.Histories.{Step}
use Rattle.bucket.specs.declared.id.Id.{Id}
use Rattle.shared_budget.specs.Drawn.{Drawn}
use Rattle.plan_check.specs.Publication.{Publication}
use Rattle.strip_model.specs.Orbit.{Orbit}
use Rattle.strip_model.specs.Plan.{gain_of}
use Rattle.strip_model.specs.Side.{Face}
use Rattle.strip_model.specs.declared.end.End.{End}
use Rattle.strip_model.specs.declared.end.End.TheVariants.{Forward, Backward}
use Rattle.turn_lock.specs.Pass.{Pass}

-- ---- boards

-- What tells the half of a board at one end from others: its side, and the names of its locks, by the numbers of their buckets,
-- and of its queue.
pub record HalfName : Type 0 where
  pub side : Face
  pub locks : List TableId
  pub queue : TableId

-- A board: the instance, its halves, and the names of the incumbent's word and of the word of drawn numbers.
pub record BoardName : Type 0 where
  pub instance : Orbit
  pub forward : HalfName
  pub backward : HalfName
  pub peak : TableId
  pub draws : TableId

-- the half of a board at an end
abbrev pub half_at : BoardName → End → HalfName
half_at b Forward = b.forward
half_at b Backward = b.backward

-- the side of a board at an end
abbrev pub side_at : BoardName → End → Face
side_at b e = (half_at b e).side

-- ---- passes

-- a pass of the lock of one bucket
abbrev pub LockPass : Type 0
LockPass = Pass Step Whose

-- what is read past the end of a list of them
abbrev pub no_lock_pass : LockPass
no_lock_pass = record {
  lock = record { words = 0; slots = 0; views_name = 0; atom = 0; block = 0; offset = 0; slot_names = [] };
  seen = [];
  own = [];
  joined = [];
  turns = 0;
  weight = 0;
  turn = None;
  frame = None;
}

-- The half of a pass at one end: the half of the board that it came from, its passes of the locks, by the numbers of their
-- buckets, and of the queue: how many ids it has pushed, and which ids it was given. Ids that a joined pass pushed or was
-- given count as its own.
pub record HalfPass : Type 0 where
  pub name : HalfName
  pub locks : List LockPass
  pub pushes : ℕ
  pub ids : List Id
  pub weight : ℕ

-- A pass: its halves; the incumbent's word, of the plans that its parties have offered the one of greatest gain, and the
-- greatest gain that it has seen; what it drew; all replies of `next` with it, for both ends, in order; and its part of the whole
-- weight, which each of its parts has.
pub record BoardPass : Type 0 where
  pub forward : HalfPass
  pub backward : HalfPass
  pub peak : TableId
  pub plan : Publication
  pub seen : ℕ
  pub drawer : Drawn
  pub asked : List Reply
  pub weight : ℕ

-- the gain of a plan, in twentieths
abbrev pub gain : Publication → ℕ
gain p = gain_of p.instance p.plan

-- the board that a pass came from
abbrev pub board_of : BoardPass → BoardName
board_of p = record {
  instance = p.plan.instance;
  forward = p.forward.name;
  backward = p.backward.name;
  peak = p.peak;
  draws = p.drawer.table;
}

-- the half of a pass at an end
abbrev pub half_of : BoardPass → End → HalfPass
half_of p Forward = p.forward
half_of p Backward = p.backward

-- the pass with another half at an end
abbrev pub with_half : BoardPass → End → HalfPass → BoardPass
with_half p Forward h = record p { forward = h }
with_half p Backward h = record p { backward = h }

-- the pass of the lock of bucket k, in a half
abbrev pub lock_in : HalfPass → ℕ → LockPass
lock_in h k = slice_index_or h.locks k no_lock_pass

-- the half with another pass of that lock
abbrev pub with_lock : HalfPass → ℕ → LockPass → HalfPass
with_lock h k l = record h { locks = set h.locks k l }

-- the pass of the lock of bucket k at an end
abbrev pub lock_at : BoardPass → End → ℕ → LockPass
lock_at p e k = lock_in (half_of p e) k

-- the pass with another pass of that lock
abbrev pub with_lock_at : BoardPass → End → ℕ → LockPass → BoardPass
with_lock_at p e k l = with_half p e (with_lock (half_of p e) k l)

-- the pass with another plan, and another gain that it has seen
abbrev pub with_share : BoardPass → Publication → ℕ → BoardPass
with_share p plan seen = record p { plan = plan; seen = seen }

-- ---- what a call changes

-- of a half nothing but the pass of the lock of bucket k changed, in this way
pub record LockChangedIn (old new : HalfPass) (k : ℕ) (Change : LockPass → LockPass → Type 0) : Type 0 where
  pub change : Change (lock_in old k) (lock_in new k)
  pub others : new ≡ with_lock old k (lock_in new k)

-- of a pass nothing but its half at this end changed, in this way
pub record HalfChanged (old new : BoardPass) (e : End) (Change : HalfPass → HalfPass → Type 0) : Type 0 where
  pub change : Change (half_of old e) (half_of new e)
  pub others : new ≡ with_half old e (half_of new e)

-- of a pass nothing but that of the lock of bucket k at this end changed, in this way
pub record LockChanged (old new : BoardPass) (e : End) (k : ℕ) (Change : LockPass → LockPass → Type 0) : Type 0 where
  pub change : Change (lock_at old e k) (lock_at new e k)
  pub others : new ≡ with_lock_at old e k (lock_at new e k)
