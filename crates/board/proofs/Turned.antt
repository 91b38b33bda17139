-- What a turn leaves of the pass of its lock, and of the half of the pass in which that one stands.
use Rattle.std.proofs.Common.{◌≡◌, ◌<◌, ◌+◌, ℕ, List, length, get_or, set, Option, Some, None, Result, Ok, Err, ap, sym, ◌∙◌, subst, arith}
use Rattle.std.proofs.lemmas.List.{length-set, get_or-set_same, get_or_default}
use Rattle.board.specs.Inside.{names_in, IsIdle, half_pass_of, IsHalfPass}
use Rattle.board.specs.Passes.{LockPass, HalfPass, no_lock_pass, LockChangedIn}
use Rattle.board.specs.Shared.{Whose}
use Rattle.board.specs.Turns.{IsTurn}
use Rattle.board.specs.declared.queue.Hand.{Hand}
use Rattle.board.proofs.LockLists.{names-set, idle-at, idle-set}
use Rattle.bucket.specs.Histories.{Step, bucket_of}
use Rattle.label_list.specs.Labels.{Held}
use Rattle.bucket.specs.declared.id.Id.{Id}
use Rattle.bucket.specs.declared.limits.TheConstants.{BUCKETS}
use Rattle.crossbeam_queue.specs.Passes.{Pass as IdPass, view}
use Rattle.strip_model.specs.Side.{Face}
use Rattle.turn_lock.specs.declared.turn_spent.TurnSpent.{TurnSpent}

-- the same lock, frame and weight, and no more of a turn
pub record IsSameLock (p q : LockPass) : Type 0 where
  pub lock : q.lock ≡ p.lock
  pub frame : q.frame ≡ p.frame
  pub turn : q.turn ≡ p.turn
  pub weight : q.weight ≡ p.weight

pub turn_keeps : {A : Type 0} (S : Face) (k : ℕ) (Answer : A → Face → List Held → List Step → Type 0) (r : Result A TurnSpent) (p q : LockPass)
    → IsTurn S k Answer r p q → IsSameLock p q
turn_keeps S k Answer (Ok a) p q t = record {
  lock = ap (λ (l : LockPass). l.lock) t.pass;
  frame = ap (λ (l : LockPass). l.frame) t.pass;
  turn = ap (λ (l : LockPass). l.turn) t.pass;
  weight = ap (λ (l : LockPass). l.weight) t.pass;
}
turn_keeps S k Answer (Err e) p q t = record {
  lock = ap (λ (l : LockPass). l.lock) t.pass;
  frame = ap (λ (l : LockPass). l.frame) t.pass;
  turn = ap (λ (l : LockPass). l.turn) t.pass;
  weight = ap (λ (l : LockPass). l.weight) t.pass;
}

module _ (S : Face) (ps : List LockPass) (ids : IdPass Id Hand) (k : ℕ) (h : IsHalfPass S ps ids) (small : k < BUCKETS) where
  -- the pass of that lock is idle
  pub lock_idle : IsIdle S (0 + k) (view ids).weight (get_or ps k no_lock_pass)
  lock_idle = let c = h.count in idle-at S (view ids).weight 0 ps k h.idle (omega arith)

  module _ (q : LockPass) (same : IsSameLock (get_or ps k no_lock_pass) q) where
    read_back : get_or (set ps k q) k no_lock_pass ≡ q
    read_back = let c = h.count in get_or-set_same ps k q no_lock_pass (omega arith)

    pub half_changed : (Change : LockPass → LockPass → Type 0) → Change (get_or ps k no_lock_pass) q
        → LockChangedIn (half_pass_of S ps ids) (half_pass_of S (set ps k q) ids) k Change
    half_changed Change change =
        let c = h.count in
        let names : names_in (set ps k q) ≡ names_in ps = names-set ps k q (omega arith) same.lock in
        let locks : set ps k q ≡ set ps k (get_or (set ps k q) k no_lock_pass) = ap (λ (p : LockPass). set ps k p) (sym read_back) in
        record {
          change = subst (λ (p : LockPass). Change (get_or ps k no_lock_pass) p) (sym read_back) change;
          others = λ i. record {
            name = record { side = S; locks = names i; queue = ids.table_id };
            locks = locks i;
            pushes = (view ids).pushes;
            ids = (view ids).ids;
            weight = (view ids).weight;
          };
        }

    pub half_stays : IsHalfPass S (set ps k q) ids
    half_stays =
        let old = lock_idle in
        record {
          count = length-set ps k q ∙ h.count;
          idle = idle-set S (view ids).weight 0 ps k q h.idle
              (record { frame = same.frame ∙ old.frame; turn = same.turn ∙ old.turn; weighs = same.weight ∙ old.weighs });
          no_slot = h.no_slot;
          some_weight = h.some_weight;
        }

-- the side and the number that a frame names
abbrev whose_of : Option Whose → Whose → Whose
whose_of None d = d
whose_of (Some w) d = w

-- A call makes a turn of bucket n with the pass that it finds at place k of a half.
module _ (S T : Face) (ps : List LockPass) (ids : IdPass Id Hand) (k n : ℕ) (found : LockPass) (h : IsHalfPass S ps ids) (side : S ≡ T) (is : k ≡ n)
    (small : n < BUCKETS) (read : found ≡ get_or ps k found) where
  within : k < length ps
  within = let c = h.count in omega arith

  low : k < BUCKETS
  low = omega arith

  found_is : found ≡ get_or ps k no_lock_pass
  found_is = read ∙ get_or_default ps k found no_lock_pass within

  pub found_idle : IsIdle T n (view ids).weight found
  found_idle =
      subst (λ (p : LockPass). IsIdle T n (view ids).weight p) (sym found_is)
      (subst (λ (F : Face). IsIdle F n (view ids).weight (get_or ps k no_lock_pass)) side
      (subst (λ (m : ℕ). IsIdle S m (view ids).weight (get_or ps k no_lock_pass)) (let e : 0 + k ≡ n = omega arith in e) (lock_idle S ps ids k h low)))

  -- what holds of this side and bucket holds of the side and the bucket that the frame names
  pub call_fits : (Fits : Face → ℕ → Type 0) → Fits T n → (F : Face) (m : ℕ) → found.frame ≡ Some (record { side = F; number = m }) → Fits F m
  call_fits Fits fits F m frame =
      let w : Whose = record { side = T; number = n } in
      let same : w ≡ record { side = F; number = m } = ap (λ (o : Option Whose). whose_of o w) (sym found_idle.frame ∙ frame) in
      subst (λ (v : Whose). Fits v.side v.number) same fits

  module _ {A : Type 0} (Answer : A → Face → List Held → List Step → Type 0) (r : Result A TurnSpent) (q : LockPass) (turn : IsTurn T n Answer r found q) where
    same_lock : IsSameLock (get_or ps k no_lock_pass) q
    same_lock = subst (λ (p : LockPass). IsSameLock p q) found_is (turn_keeps T n Answer r found q turn)

    pub turned_stays : IsHalfPass S (set ps k q) ids
    turned_stays = half_stays S ps ids k h low q same_lock

    pub turned_half : (old : HalfPass) → half_pass_of S ps ids ≡ old → LockChangedIn old (half_pass_of S (set ps k q) ids) n (IsTurn T n Answer r)
    turned_half old view =
        subst (λ (m : ℕ). LockChangedIn old (half_pass_of S (set ps k q) ids) m (IsTurn T n Answer r)) is
        (subst (λ (o : HalfPass). LockChangedIn o (half_pass_of S (set ps k q) ids) k (IsTurn T n Answer r)) view
        (half_changed S ps ids k h low q same_lock (IsTurn T n Answer r) (subst (λ (p : LockPass). IsTurn T n Answer r p q) found_is turn)))
