-- Passes that are split off, and joined again.
use Rattle.std.proofs.Common.{◌≡◌, ◌<◌, ◌≤◌, ◌+◌, ◌-◌, ◌/◌, ℕ, zero, suc, List, [], ◌∷◌, length, get_or, map, sum_by, max, Option, None, Some, IfSome, refl, sym, ap, ◌∙◌, subst, arith, append-nil}
use Rattle.std.proofs.lemmas.List.Sums.{sum_by-cons}
use mathlib.Core.List.{IsPrefix}
use Rattle.board.specs.Passes.{LockPass, HalfPass, BoardName, BoardPass, no_lock_pass, gain, board_of}
use Rattle.bucket.specs.Histories.{Step}
use Rattle.board.specs.Sharing.{lock_kept, half_kept, pass_kept, pass_split_off, IsLockJoined, AreLocksJoined, IsHalfJoined, IsJoined}
use Rattle.shared_budget.specs.Calls.{first_of, together}
use Rattle.shared_budget.specs.Drawn.{Drawn, parties}
use Rattle.incumbent.specs.Better.{better}
use Rattle.plan_check.specs.Publication.{Publication}
use Rattle.pool.proofs.Acted.{better_is}
use Rattle.pool.proofs.Growing.{lock_self, kept_self}
use Rattle.pool.specs.Growth.{LockGrows, HalfGrows, DrawerGrows, Grows}
use Rattle.turn_lock.proofs.Prefixes.{prefix_self}
use Rattle.turn_lock.specs.Pass.{parties as lock_parties}

-- ---- splitting

kept_locks : (ps : List LockPass) (k : ℕ) → LockGrows (get_or ps k no_lock_pass) (get_or (map lock_kept ps) k no_lock_pass)
kept_locks [] k = lock_self no_lock_pass
kept_locks (p ∷ ps) zero = record { seen = prefix_self p.seen; own = prefix_self p.own; joined = prefix_self p.joined }
kept_locks (p ∷ ps) (suc k) = kept_locks ps k

kept_half : (h : HalfPass) → HalfGrows h (half_kept h)
kept_half h = record { locks = kept_locks h.locks; ids = prefix_self h.ids }

pub kept_grows : (p q : BoardPass) → q ≡ pass_kept p → Grows p q
kept_grows p q is = subst (λ (x : BoardPass). Grows p x) (sym is) (record {
  board = refl;
  forward = kept_half p.forward;
  backward = kept_half p.backward;
  plan = omega arith;
  seen = omega arith;
  drawer = record { own = prefix_self p.drawer.own; joined = prefix_self p.drawer.joined; budget = refl; kept = kept_self p.drawer.kept };
  asked = prefix_self p.asked;
})

pub split_weights : (p q r : BoardPass) (plan : Publication) → q ≡ pass_kept p → r ≡ pass_split_off p plan → q.weight + r.weight ≡ p.weight
split_weights p q r plan kept off =
    let a : q.weight ≡ p.weight - p.weight / 2 = ap (λ (x : BoardPass). x.weight) kept in
    let b : r.weight ≡ p.weight / 2 = ap (λ (x : BoardPass). x.weight) off in
    omega arith

pub split_board : (b : BoardName) (p r : BoardPass) (plan : Publication) → board_of p ≡ b → plan.instance ≡ b.instance → r ≡ pass_split_off p plan → board_of r ≡ b
split_board b p r plan board instance off =
    let same : plan.instance ≡ p.plan.instance = instance ∙ sym (ap (λ (x : BoardName). x.instance) board) in
    ap board_of off
    ∙ (λ i. record { instance = same i; forward = p.forward.name; backward = p.backward.name; peak = p.peak; draws = p.drawer.table })
    ∙ board

-- ---- joining

one_joined : (p q r : LockPass) → IsLockJoined p q r → LockGrows p r
one_joined p q r h = record {
  seen = h.seen;
  own = subst (λ (l : List Step). IsPrefix p.own l) (sym (ap (λ (x : LockPass). x.own) h.others)) (prefix_self p.own);
  joined = (lock_parties q, sym (ap (λ (x : LockPass). x.joined) h.others));
}

locks_joined : (ps qs rs : List LockPass) → AreLocksJoined ps qs rs → (k : ℕ) → LockGrows (get_or ps k no_lock_pass) (get_or rs k no_lock_pass)
locks_joined [] [] [] h k = lock_self no_lock_pass
locks_joined (p ∷ ps) (q ∷ qs) (r ∷ rs) h zero = one_joined p q r h.0
locks_joined (p ∷ ps) (q ∷ qs) (r ∷ rs) h (suc k) = locks_joined ps qs rs h.1 k
locks_joined [] [] (r ∷ rs) h k = absurd h
locks_joined [] (q ∷ qs) [] h k = absurd h
locks_joined [] (q ∷ qs) (r ∷ rs) h k = absurd h
locks_joined (p ∷ ps) [] [] h k = absurd h
locks_joined (p ∷ ps) [] (r ∷ rs) h k = absurd h
locks_joined (p ∷ ps) (q ∷ qs) [] h k = absurd h

half_joined : (p q r : HalfPass) → IsHalfJoined p q r → HalfGrows p r
half_joined p q r h = record {
  locks = locks_joined p.locks q.locks r.locks h.locks;
  ids = (q.ids, sym (ap (λ (x : HalfPass). x.ids) h.others));
}

kept_first : (a b : Option ℕ) → IfSome a (λ number. first_of a b ≡ Some number)
kept_first None b = tt
kept_first (Some number) b = refl

drawer_joined : (d c : Drawn) → DrawerGrows d (together d c)
drawer_joined d c = record { own = prefix_self d.own; joined = (parties c, refl); budget = refl; kept = kept_first d.kept c.kept }

pub joined_grows : (p q r : BoardPass) → IsJoined p q r → board_of q ≡ board_of p → Grows p r
joined_grows p q r h same =
    let instance : q.plan.instance ≡ p.plan.instance = ap (λ (x : BoardName). x.instance) same in
    let plan : r.plan ≡ better gain p.plan q.plan = ap (λ (x : BoardPass). x.plan) h.others in
    let look : r.seen ≡ max p.seen q.seen = ap (λ (x : BoardPass). x.seen) h.others in
    let drawer : r.drawer ≡ together p.drawer q.drawer = ap (λ (x : BoardPass). x.drawer) h.others in
    let forward : r.forward.name ≡ p.forward.name = ap (λ (x : HalfPass). x.name) h.forward.others in
    let backward : r.backward.name ≡ p.backward.name = ap (λ (x : HalfPass). x.name) h.backward.others in
    let place : r.plan.instance ≡ p.plan.instance =
    ap (λ (x : Publication). x.instance) plan ∙ better_is (λ x. x.instance ≡ p.plan.instance) p.plan q.plan (λ more. instance) refl in
    let worth : gain p.plan ≤ gain r.plan =
    subst (λ (x : Publication). gain p.plan ≤ gain x) (sym plan) (better_is (λ x. gain p.plan ≤ gain x) p.plan q.plan (λ more. omega arith) (omega arith)) in
    record {
      board = λ i. record {
        instance = place i;
        forward = forward i;
        backward = backward i;
        peak = ap (λ (x : BoardPass). x.peak) h.others i;
        draws = ap (λ (x : BoardPass). x.drawer.table) h.others i;
      };
      forward = half_joined p.forward q.forward r.forward h.forward;
      backward = half_joined p.backward q.backward r.backward h.backward;
      plan = worth;
      seen = omega arith;
      drawer = subst (λ (x : Drawn). DrawerGrows p.drawer x) (sym drawer) (drawer_joined p.drawer q.drawer);
      asked = ([], append-nil p.asked ∙ sym (ap (λ (x : BoardPass). x.asked) h.others));
    }

pub joined_weight : (p q r : BoardPass) → IsJoined p q r → r.weight ≡ p.weight + q.weight
joined_weight p q r h = ap (λ (x : BoardPass). x.weight) h.others

-- ---- many passes

-- where f is the same of each, its sum is the same
pub sums_same : {X : Type 0} (f : X → ℕ) (xs ys : List X) → length ys ≡ length xs → ((k : ℕ) (d : X) → k < length xs → f (get_or ys k d) ≡ f (get_or xs k d))
    → sum_by f ys ≡ sum_by f xs
sums_same f [] [] same each = refl
sums_same f [] (y ∷ ys) same each = absurd (omega arith)
sums_same f (x ∷ xs) [] same each = absurd (omega arith)
sums_same f (x ∷ xs) (y ∷ ys) same each =
    let first : f y ≡ f x = each 0 x (omega arith) in
    let rest = sums_same f xs ys (omega arith) (λ k d within. each (suc k) d (omega arith)) in
    let a = sum_by-cons f y ys in
    let c = sum_by-cons f x xs in
    omega arith
