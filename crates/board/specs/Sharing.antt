-- How a pass is split, how two are joined, and what is known at the end: part by part.
use Rattle.std.specs.Prelude.{◌≡◌, ℕ, ◌+◌, ◌-◌, ◌/◌, ◌≤◌, ◌⊎◌, max, List, [], ◌∷◌, ◌++◌, map, Some}
use mathlib.Core.List.{IsPrefix}
use Rattle.atomic_table.specs.Seated.{TableId}
use Rattle.board.specs.Passes.{LockPass, HalfName, HalfPass, BoardName, BoardPass, gain}
use Rattle.board.specs.Shared.{whose}
use Rattle.pass_weight.specs.declared.whole_weight.TheConstants.{WHOLE_WEIGHT}
use Rattle.bucket.specs.Buckets.{Bin, IsBucket}
use Rattle.bucket.specs.Traces.{IsTraceOf}
use Rattle.bucket.specs.declared.trace.Trace.{Trace}
use Rattle.shared_budget.specs.Calls.{first_drawer, after_split, split_off, together}
use Rattle.shared_budget.specs.Drawn.{parties}
use Rattle.shared_budget.specs.Numbers.{AreAllBelow, IsEnd}
use Rattle.incumbent.specs.Better.{better}
use Rattle.incumbent.specs.Rule.{IsWordBeside}
use Rattle.incumbent.specs.declared.knowledge.Knowledge.{Knowledge}
use Rattle.plan_check.specs.Publication.{Publication}
use Rattle.strip_model.specs.Orbit.{Orbit}
use Rattle.strip_model.specs.Side.{Face, face_of}
use Rattle.strip_model.specs.declared.end.End.TheVariants.{Forward, Backward}
use Rattle.turn_lock.specs.Interleaving.{IsInterleaving}
use Rattle.turn_lock.specs.Pass.{first_pass, parties as lock_parties}

-- ---- opening

-- these are the forward and the backward side of the instance, with one cut
abbrev pub AreSidesOf : Orbit → Face → Face → Type 0
AreSidesOf J F B = (F ≡ face_of J F.cut Forward) × (B ≡ face_of J F.cut Backward)

-- the first passes of the locks of a side's buckets, from number k on
abbrev pub first_locks : Face → ℕ → List TableId → List LockPass
first_locks S k [] = []
first_locks S k (lock ∷ locks) = first_pass lock (record { side = S; number = k }) ∷ first_locks S (k + 1) locks

-- the first pass of a half: it has seen and done nothing, and has the whole weight
abbrev pub first_half : HalfName → HalfPass
first_half name = record { name = name; locks = first_locks name.side 0 name.locks; pushes = 0; ids = []; weight = WHOLE_WEIGHT }

-- the first pass of a board with this first plan and budget: the plan counts as offered, and its gain as seen
abbrev pub first_board_pass : BoardName → Publication → (budget : ℕ) → BoardPass
first_board_pass b plan budget = record {
  forward = first_half b.forward;
  backward = first_half b.backward;
  peak = b.peak;
  plan = plan;
  seen = gain plan;
  drawer = first_drawer b.draws budget;
  asked = [];
  weight = WHOLE_WEIGHT;
}

-- ---- splitting

-- a pass of a lock that gave half of its weight, rounded down, to a new one, which has seen as much and done nothing
abbrev pub lock_kept : LockPass → LockPass
lock_kept p = record p { weight = p.weight - p.weight / 2 }

abbrev pub lock_split_off : LockPass → LockPass
lock_split_off p = record p { own = []; joined = []; turns = 0; weight = p.weight / 2 }

-- the same of a half
abbrev pub half_kept : HalfPass → HalfPass
half_kept h = record h { locks = map lock_kept h.locks; weight = h.weight - h.weight / 2 }

abbrev pub half_split_off : HalfPass → HalfPass
half_split_off h = record h { locks = map lock_split_off h.locks; pushes = 0; ids = []; weight = h.weight / 2 }

-- the same of a whole pass; the new one keeps its own first plan, has had no reply, and is exhausted where the old one is
abbrev pub pass_kept : BoardPass → BoardPass
pass_kept p = record p {
  forward = half_kept p.forward;
  backward = half_kept p.backward;
  drawer = after_split p.drawer;
  weight = p.weight - p.weight / 2;
}

abbrev pub pass_split_off : BoardPass → Publication → BoardPass
pass_split_off p first = record p {
  forward = half_split_off p.forward;
  backward = half_split_off p.backward;
  plan = first;
  drawer = split_off p.drawer;
  asked = [];
  weight = p.weight / 2;
}

-- ---- joining

-- A pass of a lock into which another was joined: it has seen the longer of both lists, which both begin; it keeps its own entries
-- and its count of turns, and the other's parties as parties; the weights are added.
pub record IsLockJoined (old other new : LockPass) : Type 0 where
  pub seen : IsPrefix old.seen new.seen
  pub other_seen : IsPrefix other.seen new.seen
  pub longer : (new.seen ≡ old.seen) ⊎ (new.seen ≡ other.seen)
  pub others : new ≡ record old { seen = new.seen; joined = old.joined ++ lock_parties other; weight = old.weight + other.weight }

-- so bucket by bucket
abbrev pub AreLocksJoined : (olds others news : List LockPass) → Type 0
AreLocksJoined [] [] [] = Unit {0}
AreLocksJoined (p ∷ ps) (q ∷ qs) (r ∷ rs) = IsLockJoined p q r × AreLocksJoined ps qs rs
AreLocksJoined _ _ _ = ⊥

-- the same of a half: what both pushed and were given is added
pub record IsHalfJoined (old other new : HalfPass) : Type 0 where
  pub locks : AreLocksJoined old.locks other.locks new.locks
  pub others : new ≡ record old {
    locks = new.locks;
    pushes = old.pushes + other.pushes;
    ids = old.ids ++ other.ids;
    weight = old.weight + other.weight;
  }

-- The same of a whole pass. It keeps the plan of greater gain, has seen the greater gain, and keeps its own replies; it is exhausted
-- where one of both was.
pub record IsJoined (old other new : BoardPass) : Type 0 where
  pub forward : IsHalfJoined old.forward other.forward new.forward
  pub backward : IsHalfJoined old.backward other.backward new.backward
  pub others : new ≡ record old {
    forward = new.forward;
    backward = new.backward;
    plan = better gain old.plan other.plan;
    seen = max old.seen other.seen;
    drawer = together old.drawer other.drawer;
    weight = old.weight + other.weight;
  }

-- ---- closing

-- A bucket whose lock was closed with this pass: it is the one that the pass is of; its history is legal, begins with what the pass
-- had seen, and has the own entries of the pass's parties, each once and in the party's order, and no others.
pub record IsLockClosed (pass : LockPass) (b : Bin) : Type 0 where
  pub frame : pass.frame ≡ Some (whose b)
  pub sound : IsBucket b
  pub begins : IsPrefix pass.seen b.history
  pub parties : IsInterleaving b.history (lock_parties pass)

-- so bucket by bucket
abbrev pub AreLocksClosed : List LockPass → List Bin → Type 0
AreLocksClosed [] [] = Unit {0}
AreLocksClosed (p ∷ ps) (b ∷ bs) = IsLockClosed p b × AreLocksClosed ps bs
AreLocksClosed _ _ = ⊥

-- what the last pass knew of the incumbent's word
abbrev pub knowledge_of : BoardPass → Knowledge
knowledge_of p = record { seen = p.seen; offered = gain p.plan; weight = p.weight }

-- What a board leaves that was closed with this pass, which has the whole weight: the buckets of both sides, by the numbers of
-- their buckets; of the plans that its parties offered the best, which gains what the incumbent's word said, and no less than any
-- party saw; and the numbers that its parties drew are those below some number, each once.
pub record IsClosed (b : BoardName) (pass : BoardPass) (trace : Trace) : Type 0 where
  pub trace_of : IsTraceOf b.instance b.forward.side b.backward.side trace
  pub forward : AreLocksClosed pass.forward.locks trace.forward.items
  pub backward : AreLocksClosed pass.backward.locks trace.backward.items
  pub plan : trace.plan ≡ pass.plan
  pub none_saw_more : pass.seen ≤ gain trace.plan
  pub word : IsWordBeside (gain trace.plan) (knowledge_of pass)
  pub drawn : (next : ℕ) × AreAllBelow next (parties pass.drawer) × IsEnd next pass.drawer.budget pass.drawer.kept
