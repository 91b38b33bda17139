-- Growth goes on.
use Rattle.std.proofs.Common.{◌≡◌, ◌≤◌, ℕ, List, Option, None, Some, IfSome, refl, sym, ◌∙◌, subst, inl, inr, arith}
use Rattle.board.specs.Passes.{LockPass, HalfPass, BoardName, BoardPass, gain, lock_in, lock_at, side_at}
use Rattle.bucket.specs.Histories.{Step, IsHistory}
use Rattle.shared_budget.specs.Drawn.{Drawn}
use Rattle.pool.specs.Growth.{LockGrows, HalfGrows, DrawerGrows, Grows, IsLawful}
use Rattle.strip_model.specs.declared.end.End.{End}
use Rattle.strip_model.specs.declared.end.End.TheVariants.{Forward, Backward}
use Rattle.turn_lock.proofs.Prefixes.{prefix_self, prefix_trans}

pub lock_self : (p : LockPass) → LockGrows p p
lock_self p = record { seen = prefix_self p.seen; own = prefix_self p.own; joined = prefix_self p.joined }

pub lock_trans : (p q r : LockPass) → LockGrows p q → LockGrows q r → LockGrows p r
lock_trans p q r g h = record {
  seen = prefix_trans p.seen q.seen r.seen g.seen h.seen;
  own = prefix_trans p.own q.own r.own g.own h.own;
  joined = prefix_trans p.joined q.joined r.joined g.joined h.joined;
}

pub half_self : (p : HalfPass) → HalfGrows p p
half_self p = record { locks = λ k. lock_self (lock_in p k); ids = prefix_self p.ids }

half_trans : (p q r : HalfPass) → HalfGrows p q → HalfGrows q r → HalfGrows p r
half_trans p q r g h = record {
  locks = λ k. lock_trans (lock_in p k) (lock_in q k) (lock_in r k) (g.locks k) (h.locks k);
  ids = prefix_trans p.ids q.ids r.ids g.ids h.ids;
}

pub kept_self : (a : Option ℕ) → IfSome a (λ number. a ≡ Some number)
kept_self None = tt
kept_self (Some number) = refl

kept_trans : (a b c : Option ℕ) → IfSome a (λ number. b ≡ Some number) → IfSome b (λ number. c ≡ Some number) → IfSome a (λ number. c ≡ Some number)
kept_trans None b c h g = tt
kept_trans (Some number) b c h g = subst (λ (o : Option ℕ). IfSome o (λ n. c ≡ Some n)) h g

pub drawer_self : (p : Drawn) → DrawerGrows p p
drawer_self p = record { own = prefix_self p.own; joined = prefix_self p.joined; budget = refl; kept = kept_self p.kept }

drawer_trans : (p q r : Drawn) → DrawerGrows p q → DrawerGrows q r → DrawerGrows p r
drawer_trans p q r g h = record {
  own = prefix_trans p.own q.own r.own g.own h.own;
  joined = prefix_trans p.joined q.joined r.joined g.joined h.joined;
  budget = h.budget ∙ g.budget;
  kept = kept_trans p.kept q.kept r.kept g.kept h.kept;
}

pub grows_self : (p : BoardPass) → Grows p p
grows_self p = record {
  board = refl;
  forward = half_self p.forward;
  backward = half_self p.backward;
  plan = omega arith;
  seen = omega arith;
  drawer = drawer_self p.drawer;
  asked = prefix_self p.asked;
}

pub grows_trans : (p q r : BoardPass) → Grows p q → Grows q r → Grows p r
grows_trans p q r g h = record {
  board = h.board ∙ g.board;
  forward = half_trans p.forward q.forward r.forward g.forward h.forward;
  backward = half_trans p.backward q.backward r.backward g.backward h.backward;
  plan = (let a : gain p.plan ≤ gain q.plan = g.plan in let b : gain q.plan ≤ gain r.plan = h.plan in omega arith);
  seen = (let a : p.seen ≤ q.seen = g.seen in let b : q.seen ≤ r.seen = h.seen in omega arith);
  drawer = drawer_trans p.drawer q.drawer r.drawer g.drawer h.drawer;
  asked = prefix_trans p.asked q.asked r.asked g.asked h.asked;
}

-- the pass of one lock grows
pub grows_at : (p q : BoardPass) → Grows p q → (e : End) (k : ℕ) → LockGrows (lock_at p e k) (lock_at q e k)
grows_at p q g Forward k = g.forward.locks k
grows_at p q g Backward k = g.backward.locks k

pub lawful_self : (b : BoardName) (p : BoardPass) → IsLawful b p p
lawful_self b p = λ e k. inl refl

pub lawful_trans : (b : BoardName) (p q r : BoardPass) → IsLawful b p q → IsLawful b q r → IsLawful b p r
lawful_trans b p q r g h = λ e k. elim (h e k) [
  | inl same ↦ elim (g e k) [
    | inl was ↦ inl (same ∙ was)
    | inr legal ↦ inr (subst (λ (l : List Step). IsHistory (side_at b e) k l) (sym same) legal)
  ]
  | inr legal ↦ inr legal
]
