use Rattle.std.proofs.Common.{◌≡◌, ◌∙◌, ◌∷◌, ◌++◌, [], List, length, ap, sym, subst, arith, rules}
use Rattle.std.proofs.lemmas.List.{length-append}
use Rattle.atomic_table.specs.Seated.{TableId}
use Rattle.board.specs.Inside.{names_in, AreIdle}
use Rattle.board.specs.Passes.{LockPass}
use Rattle.board.specs.Sharing.{first_locks}
use Rattle.pass_weight.specs.declared.whole_weight.TheConstants.{WHOLE_WEIGHT}
use Rattle.board.proofs.LockLists.{names-first, idle-first, first-snoc}
use Rattle.turn_lock.specs.Pass.{first_pass}
use Rattle.board.proofs.locks.new_locks.Goals as goal

pub close_locks-requires-clause-names : goal.close_locks-requires-clause-names
close_locks-requires-clause-names c =
    sym (ap names_in c.loop-number.invariant.0 ∙ names-first c.args.side.now 0 c.loop-number.locks.items)

pub close_locks-requires-clause-idle : goal.close_locks-requires-clause-idle
close_locks-requires-clause-idle c = (
  c.args.side.now,
  subst (λ (l : List LockPass). AreIdle c.args.side.now 0 WHOLE_WEIGHT l) (sym c.loop-number.invariant.0) (idle-first c.args.side.now 0 c.loop-number.locks.items),
)

pub loop-number-preserved : goal.loop-number-preserved
loop-number-preserved c =
    let S = c.args.side.now in
    let n = c.loop-number.number in
    let olds = c.loop-number.locks.items in
    let lock = c.in-Ok-new_lock.lock in
    let inv = c.loop-number.invariant in
    let count = inv.1 in
    let made : c.in-Ok-new_lock.pass ≡ first_pass lock (record { side = S; number = n }) = search rules in (
      c.push_reserved-in-Ok-new_lock.ensures.items ∙ (λ i. inv.0 i ++ made i ∷ []) ∙ sym (first-snoc S 0 n olds lock (omega arith))
          ∙ ap (λ (l : List TableId). first_locks S 0 l) (sym c.push_reserved.ensures.items),
      (let l = ap length c.push_reserved.ensures.items in omega (arith, length-append olds (lock ∷ []))),
      (let a = c.push_reserved.ensures.len in let b = inv.2 in omega arith),
      (let a = c.push_reserved-in-Ok-new_lock.ensures.len in let b = inv.3 in omega arith),
      c.push_reserved.ensures.capacity ∙ inv.4,
      c.push_reserved-in-Ok-new_lock.ensures.capacity ∙ inv.5,
      inv.6,
      inv.7,
    )
