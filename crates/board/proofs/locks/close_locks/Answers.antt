use Rattle.std.proofs.Common.{◌≡◌, ◌+◌, ◌∙◌, List, length, ap, sym, subst, arith}
use Rattle.std.specs.Vec.Iter.{into_iter_items, into_iter_len}
use Rattle.board.specs.Inside.{Closing}
use Rattle.pass_weight.specs.declared.whole_weight.TheConstants.{WHOLE_WEIGHT}
use Rattle.board.proofs.Closes.{closing-step, closing-idle, closing-all}
use Rattle.board.proofs.LockLists.{length-names}
use Rattle.bucket.specs.Buckets.{Bin}
use Rattle.board.proofs.locks.close_locks.Goals as goal

pub close_lock-requires-clause-idle : goal.close_lock-requires-clause-idle
close_lock-requires-clause-idle c =
    (closing-idle c.requires.idle.0 WHOLE_WEIGHT c.args.passes.items (into_iter_items c.loop.passes_left) (into_iter_items c.next-in-loop.new.self)
    (into_iter_items c.loop.locks_left) c.loop.made.items c.loop.counter c.in-Some-next.pass c.requires.idle.1 c.loop.invariant.0 c.in-Some-next.ensures.items).turn

pub close_lock-requires-clause-whole : goal.close_lock-requires-clause-whole
close_lock-requires-clause-whole c =
    (closing-idle c.requires.idle.0 WHOLE_WEIGHT c.args.passes.items (into_iter_items c.loop.passes_left) (into_iter_items c.next-in-loop.new.self)
    (into_iter_items c.loop.locks_left) c.loop.made.items c.loop.counter c.in-Some-next.pass c.requires.idle.1 c.loop.invariant.0 c.in-Some-next.ensures.items).weighs

pub loop-preserved : goal.loop-preserved
loop-preserved c =
    let inv = c.loop.invariant in
    let passes_len : into_iter_len c.next-in-loop.new.self + 1 ≡ into_iter_len c.loop.passes_left = c.in-Some-next.ensures.len in
    let locks_len : into_iter_len c.next.new.self + 1 ≡ into_iter_len c.loop.locks_left = c.in-Some.ensures.len in (
      subst (λ (l : List Bin). Closing c.args.passes.items (into_iter_items c.next-in-loop.new.self) (into_iter_items c.next.new.self) l (c.loop.counter + 1))
          (sym c.push_reserved.ensures.items)
          (closing-step c.args.passes.items (into_iter_items c.loop.passes_left) (into_iter_items c.next-in-loop.new.self) c.in-Some.lock (into_iter_items c.loop.locks_left)
          (into_iter_items c.next.new.self) c.loop.made.items c.loop.counter c.in-Some-next.pass c.close_lock.result inv.0 c.in-Some-next.ensures.items c.in-Some.ensures.items
          c.close_lock.ensures),
      (let a = inv.1 in omega arith),
      (let a = inv.2 in omega arith),
      (let a = c.push_reserved.ensures.len in let b = inv.3 in omega arith),
      c.push_reserved.ensures.capacity ∙ inv.4,
    )

pub returns : goal.returns
returns c =
    let inv = c.loop.invariant in
    let past = c.loop-test.false in
    let end = c.len-count.ensures in
    let names = ap length c.requires.names in
    let left = inv.1 in
    closing-all c.args.passes.items (into_iter_items c.loop.passes_left) (into_iter_items c.loop.locks_left) c.loop.made.items c.loop.counter inv.0
    (omega (arith, length-names c.args.passes.items))
