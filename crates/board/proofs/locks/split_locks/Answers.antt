use Rattle.std.proofs.Common.{◌≤◌, ◌<◌, ◌+◌, ◌∙◌, ℕ, List, length, set, ap, sym, subst, arith}
use Rattle.std.proofs.lemmas.List.{get_or_default}
use Rattle.board.specs.Inside.{IsIdle, Splitting}
use Rattle.board.specs.Passes.{LockPass, no_lock_pass}
use Rattle.board.proofs.LockLists.{idle-at, length-names}
use Rattle.board.proofs.Splits.{splitting-same, splitting-next}
use Rattle.board.proofs.locks.split_locks.Goals as goal

within : (c : goal.After-index_mut) → c.loop-k.k < length c.args.passes.now.items
within c =
    let t = c.loop-k-test.true in
    let e = c.len-k-end.ensures in
    let n = ap length c.requires.names in
    omega (arith, length-names c.args.passes.now.items)

-- the pass that is split is idle, as it was before the loop
idle : (c : goal.After-index_mut) → IsIdle c.requires.idle.0 (0 + c.loop-k.k) c.requires.idle.1 c.index_mut.result.now
idle c =
    let olds = c.args.passes.now.items in
    let at = c.index_mut.result.now in
    let small = within c in
    let is = c.index_mut.ensures.value ∙ splitting-same olds c.loop-k.passes.items c.loop-k.made.items c.loop-k.k c.loop-k.invariant.0 small at ∙ get_or_default olds c.loop-k.k at no_lock_pass small in
    let all = c.requires.idle in
    subst (λ (p : LockPass). IsIdle all.0 (0 + c.loop-k.k) all.1 p) (sym is) (idle-at all.0 all.1 0 olds c.loop-k.k all.3 small)

pub split-new-requires-clause-idle : goal.split-new-requires-clause-idle
split-new-requires-clause-idle c = (idle c).turn

pub split-new-requires-clause-weight : goal.split-new-requires-clause-weight
split-new-requires-clause-weight c = let w = (idle c).weighs in let two = c.requires.idle.2 in subst (λ (n : ℕ). 2 ≤ n) (sym w) two

pub loop-k-preserved : goal.loop-k-preserved
loop-k-preserved c =
    let olds = c.args.passes.now.items in
    let news = c.loop-k.passes.items in
    let k = c.loop-k.k in
    let at = c.index_mut.result.now in
    let inv = c.loop-k.invariant in
    let t = c.loop-k-test.true in
    let e = c.len-k-end.ensures in
    let n = ap length c.requires.names in
    let small : k < length olds = omega (arith, length-names olds) in
    let read = sym (c.index_mut.ensures.value ∙ splitting-same olds news c.loop-k.made.items k inv.0 small at) in (
      subst (λ (l : List LockPass). Splitting olds (set news k c.split-new.new.pass) l (k + 1)) (sym c.push_reserved.ensures.items)
          (splitting-next olds news c.loop-k.made.items k inv.0 small at c.split-new.new.pass c.split-new.result read c.split-new.ensures.old c.split-new.ensures.new),
      (let a = c.push_reserved.ensures.len in let b = inv.1 in omega arith),
      c.push_reserved.ensures.capacity ∙ inv.2,
    )
