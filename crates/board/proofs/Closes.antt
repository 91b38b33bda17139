-- Lists of locks that are closed one by one.
use Rattle.std.proofs.Common.{◌≡◌, ◌+◌, ℕ, zero, suc, List, [], ◌∷◌, ◌++◌, length, get_or, Option, Some, None, refl, ap, sym, ◌∙◌, subst, arith}
use Rattle.std.specs.Prelude.{slice_get}
use Rattle.std.proofs.lemmas.List.{length-append, append-nil}
use Rattle.atomic_table.specs.Seated.{TableId}
use Rattle.board.specs.Inside.{names_in, IsIdle, AreIdle, Closing}
use Rattle.board.specs.Passes.{LockPass, no_lock_pass}
use Rattle.board.specs.Shared.{Whose, whose}
use Rattle.board.specs.Sharing.{AreLocksClosed, IsLockClosed}
use Rattle.board.proofs.LockLists.{idle-at}
use Rattle.board.proofs.Seams.{get_seam, move_seam}
use Rattle.bucket.specs.Buckets.{Bin}
use Rattle.bucket.specs.Traces.{IsBucketAt, AreBucketsOf}
use Rattle.bucket.specs.declared.limits.TheConstants.{BUCKETS}
use Rattle.strip_model.specs.Side.{Face}

pub closed-snoc : (ps : List LockPass) (bs : List Bin) (p : LockPass) (b : Bin) → AreLocksClosed ps bs → IsLockClosed p b
    → AreLocksClosed (ps ++ p ∷ []) (bs ++ b ∷ [])
closed-snoc [] [] p b all one = (one, tt)
closed-snoc [] (c ∷ bs) p b all one = absurd all
closed-snoc (q ∷ ps) [] p b all one = absurd all
closed-snoc (q ∷ ps) (c ∷ bs) p b all one = (all.0, closed-snoc ps bs p b all.1 one)

pub closed-length : (ps : List LockPass) (bs : List Bin) → AreLocksClosed ps bs → length bs ≡ length ps
closed-length [] [] all = refl
closed-length [] (b ∷ bs) all = absurd all
closed-length (p ∷ ps) [] all = absurd all
closed-length (p ∷ ps) (b ∷ bs) all = ap suc (closed-length ps bs all.1)

pub closing-first : (passes : List LockPass) (locks : List TableId) → locks ≡ names_in passes → Closing passes passes locks [] 0
closing-first passes locks e = record { done = []; passes_are = refl; locks_are = e; closed = tt; count = refl }

abbrev tail_of : List TableId → List TableId
tail_of [] = []
tail_of (t ∷ ts) = ts

-- one more
pub closing-next : (passes rest : List LockPass) (lock : TableId) (locks : List TableId) (made : List Bin) (n : ℕ) (p : LockPass) (b : Bin)
    → Closing passes (p ∷ rest) (lock ∷ locks) made n → IsLockClosed p b → Closing passes rest locks (made ++ b ∷ []) (n + 1)
closing-next passes rest lock locks made n p b c one = record {
  done = c.done ++ p ∷ [];
  passes_are = c.passes_are ∙ move_seam c.done p rest;
  locks_are = ap tail_of c.locks_are;
  closed = closed-snoc c.done made p b c.closed one;
  count = (let k = c.count in omega (arith, length-append c.done (p ∷ [])));
}

-- the same, where the rest is what two iterators still give
pub closing-step : (passes items rest : List LockPass) (lock : TableId) (ls locks : List TableId) (made : List Bin) (n : ℕ) (p : LockPass) (b : Bin)
    → Closing passes items ls made n → items ≡ p ∷ rest → ls ≡ lock ∷ locks → IsLockClosed p b → Closing passes rest locks (made ++ b ∷ []) (n + 1)
closing-step passes items rest lock ls locks made n p b c is is' one =
    closing-next passes rest lock locks made n p b
    (subst (λ (l : List LockPass). Closing passes l (lock ∷ locks) made n) is (subst (λ (l : List TableId). Closing passes items l made n) is' c)) one

-- the next pass is idle
pub closing-idle : (S : Face) (weight : ℕ) (passes items rest : List LockPass) (ls : List TableId) (made : List Bin) (n : ℕ) (p : LockPass)
    → AreIdle S 0 weight passes → Closing passes items ls made n → items ≡ p ∷ rest → IsIdle S (0 + n) weight p
closing-idle S weight passes items rest ls made n p idle c is =
    let all : passes ≡ c.done ++ p ∷ rest = c.passes_are ∙ ap (λ (l : List LockPass). c.done ++ l) is in
    let size = length-append c.done (p ∷ rest) in
    let whole = ap length all in
    let count = c.count in
    subst (λ (q : LockPass). IsIdle S (0 + n) weight q) (ap (λ (l : List LockPass). get_or l n no_lock_pass) all ∙ get_seam c.done p rest n no_lock_pass c.count)
    (idle-at S weight 0 passes n idle (omega arith))

-- the side and the number that a frame names
abbrev whose_of : Option Whose → Whose → Whose
whose_of None d = d
whose_of (Some w) d = w

bucket_at : (S : Face) (weight i : ℕ) (p : LockPass) (b : Bin) → IsIdle S i weight p → IsLockClosed p b → IsBucketAt S i b
bucket_at S weight i p b idle closed =
    let same : whose b ≡ record { side = S; number = i } =
    ap (λ (o : Option Whose). whose_of o (whose b)) (sym closed.frame ∙ idle.frame) in
    record { side = ap (λ (w : Whose). w.side) same; number = ap (λ (w : Whose). w.number) same; sound = closed.sound }

abbrev bin_of : Option Bin → Bin → Bin
bin_of None d = d
bin_of (Some b) d = b

none_there : (b : Bin) → None ≡ Some b → ⊥
none_there b e = cc

closed-at : (S : Face) (weight i : ℕ) (ps : List LockPass) (bs : List Bin) → AreIdle S i weight ps → AreLocksClosed ps bs
    → (k : ℕ) (b : Bin) → slice_get bs k ≡ Some b → IsBucketAt S (i + k) b
closed-at S weight i [] [] idle closed k b at = absurd (none_there b at)
closed-at S weight i [] (c ∷ bs) idle closed k b at = absurd closed
closed-at S weight i (p ∷ ps) [] idle closed k b at = absurd closed
closed-at S weight i (p ∷ ps) (c ∷ bs) idle closed zero b at =
    let same : c ≡ b = ap (λ (o : Option Bin). bin_of o c) at in
    subst (λ (n : ℕ). IsBucketAt S n b) (omega arith) (subst (λ (d : Bin). IsBucketAt S i d) same (bucket_at S weight i p c idle.0 closed.0))
closed-at S weight i (p ∷ ps) (c ∷ bs) idle closed (suc k) b at =
    subst (λ (n : ℕ). IsBucketAt S n b) (omega arith) (closed-at S weight (i + 1) ps bs idle.1 closed.1 k b at)

-- all of them are the buckets of their side
pub buckets-of : (S : Face) (weight : ℕ) (ps : List LockPass) (bs : List Bin) → length ps ≡ BUCKETS → AreIdle S 0 weight ps → AreLocksClosed ps bs
    → AreBucketsOf S bs
buckets-of S weight ps bs count idle closed = record {
  count = closed-length ps bs closed ∙ count;
  each = λ k b at. subst (λ (n : ℕ). IsBucketAt S n b) (let e : 0 + k ≡ k = omega arith in e) (closed-at S weight 0 ps bs idle closed k b at);
}

-- nothing is left when all are done
pub closing-all : (passes rest : List LockPass) (locks : List TableId) (made : List Bin) (n : ℕ) → Closing passes rest locks made n → length passes ≡ n
    → AreLocksClosed passes made
closing-all passes [] locks made n c h =
    let all : passes ≡ c.done = c.passes_are ∙ append-nil c.done in
    subst (λ (ps : List LockPass). AreLocksClosed ps made) (sym all) c.closed
closing-all passes (p ∷ rest) locks made n c h =
    let size = length-append c.done (p ∷ rest) in
    let whole = ap length c.passes_are in
    let count = c.count in
    absurd (omega arith)
