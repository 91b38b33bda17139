-- Lists of passes of locks: their names, and that they are idle; one of them changed.
use Rattle.std.proofs.Common.{◌≡◌, ◌<◌, ◌+◌, ◌-◌, ◌/◌, ℕ, zero, suc, List, [], ◌∷◌, ◌++◌, length, get_or, set, map, refl, ap, subst, arith}
use Rattle.atomic_table.specs.Seated.{TableId}
use Rattle.board.specs.Inside.{names_in, IsIdle, AreIdle}
use Rattle.board.specs.Passes.{LockPass, no_lock_pass}
use Rattle.board.specs.Sharing.{first_locks, lock_kept, lock_split_off}
use Rattle.pass_weight.specs.declared.whole_weight.TheConstants.{WHOLE_WEIGHT}
use Rattle.strip_model.specs.Side.{Face}
use Rattle.turn_lock.specs.Pass.{first_pass}

pub length-names : (ps : List LockPass) → length (names_in ps) ≡ length ps
length-names [] = refl
length-names (p ∷ ps) = ap suc (length-names ps)

pub names-at : (ps : List LockPass) (k : ℕ) (d : TableId) (e : LockPass) → k < length ps → get_or (names_in ps) k d ≡ (get_or ps k e).lock
names-at [] k d e h = absurd (omega arith)
names-at (p ∷ ps) zero d e h = refl
names-at (p ∷ ps) (suc k) d e h = names-at ps k d e (omega arith)

pub names-set : (ps : List LockPass) (k : ℕ) (p : LockPass) → k < length ps → p.lock ≡ (get_or ps k no_lock_pass).lock → names_in (set ps k p) ≡ names_in ps
names-set [] k p h e = absurd (omega arith)
names-set (q ∷ ps) zero p h e = ap (λ (t : TableId). t ∷ names_in ps) e
names-set (q ∷ ps) (suc k) p h e = ap (λ (l : List TableId). q.lock ∷ l) (names-set ps k p (omega arith) e)

module _ (S : Face) (weight : ℕ) where
  -- the same fact, at equal numbers
  idle_at : (i j : ℕ) (p : LockPass) → i ≡ j → IsIdle S i weight p → IsIdle S j weight p
  idle_at i j p e h = subst (λ (n : ℕ). IsIdle S n weight p) e h

  pub idle-at : (i : ℕ) (ps : List LockPass) (k : ℕ) → AreIdle S i weight ps → k < length ps → IsIdle S (i + k) weight (get_or ps k no_lock_pass)
  idle-at i [] k all h = absurd (omega arith)
  idle-at i (p ∷ ps) zero all h = idle_at i (i + 0) p (omega arith) all.0
  idle-at i (p ∷ ps) (suc k) all h = idle_at (i + 1 + k) (i + suc k) (get_or ps k no_lock_pass) (omega arith) (idle-at (i + 1) ps k all.1 (omega arith))

  pub idle-set : (i : ℕ) (ps : List LockPass) (k : ℕ) (p : LockPass) → AreIdle S i weight ps → IsIdle S (i + k) weight p → AreIdle S i weight (set ps k p)
  idle-set i [] k p all h = tt
  idle-set i (q ∷ ps) zero p all h = (idle_at (i + 0) i p (omega arith) h, all.1)
  idle-set i (q ∷ ps) (suc k) p all h = (all.0, idle-set (i + 1) ps k p all.1 (idle_at (i + suc k) (i + 1 + k) p (omega arith) h))

-- ---- opening

pub names-first : (S : Face) (k : ℕ) (ts : List TableId) → names_in (first_locks S k ts) ≡ ts
names-first S k [] = refl
names-first S k (t ∷ ts) = ap (λ (l : List TableId). t ∷ l) (names-first S (k + 1) ts)

pub length-first : (S : Face) (k : ℕ) (ts : List TableId) → length (first_locks S k ts) ≡ length ts
length-first S k [] = refl
length-first S k (t ∷ ts) = ap suc (length-first S (k + 1) ts)

pub idle-first : (S : Face) (k : ℕ) (ts : List TableId) → AreIdle S k WHOLE_WEIGHT (first_locks S k ts)
idle-first S k [] = tt
idle-first S k (t ∷ ts) = (record { frame = refl; turn = refl; weighs = refl }, idle-first S (k + 1) ts)

pub first-snoc : (S : Face) (k n : ℕ) (ts : List TableId) (t : TableId) → k + length ts ≡ n
    → first_locks S k (ts ++ t ∷ []) ≡ first_locks S k ts ++ first_pass t (record { side = S; number = n }) ∷ []
first-snoc S k n [] t e =
    ap (λ (m : ℕ). first_pass t (record { side = S; number = m }) ∷ []) (let h : k ≡ n = omega arith in h)
first-snoc S k n (u ∷ ts) t e =
    ap (λ (l : List LockPass). first_pass u (record { side = S; number = k }) ∷ l) (first-snoc S (k + 1) n ts t (omega arith))

-- ---- splitting

pub names-kept : (ps : List LockPass) → names_in (map lock_kept ps) ≡ names_in ps
names-kept [] = refl
names-kept (p ∷ ps) = ap (λ (l : List TableId). p.lock ∷ l) (names-kept ps)

pub names-split_off : (ps : List LockPass) → names_in (map lock_split_off ps) ≡ names_in ps
names-split_off [] = refl
names-split_off (p ∷ ps) = ap (λ (l : List TableId). p.lock ∷ l) (names-split_off ps)

pub idle-kept : (S : Face) (w i : ℕ) (ps : List LockPass) → AreIdle S i w ps → AreIdle S i (w - w / 2) (map lock_kept ps)
idle-kept S w i [] all = tt
idle-kept S w i (p ∷ ps) all = (
  record { frame = all.0.frame; turn = all.0.turn; weighs = ap (λ (n : ℕ). n - n / 2) all.0.weighs },
  idle-kept S w (i + 1) ps all.1,
)

pub idle-split_off : (S : Face) (w i : ℕ) (ps : List LockPass) → AreIdle S i w ps → AreIdle S i (w / 2) (map lock_split_off ps)
idle-split_off S w i [] all = tt
idle-split_off S w i (p ∷ ps) all = (
  record { frame = all.0.frame; turn = all.0.turn; weighs = ap (λ (n : ℕ). n / 2) all.0.weighs },
  idle-split_off S w (i + 1) ps all.1,
)
