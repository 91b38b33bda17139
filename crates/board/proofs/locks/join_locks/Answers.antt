use Rattle.std.proofs.Common.{◌≡◌, ◌<◌, ◌+◌, ◌∙◌, List, length, get_or, ap, sym, arith}
use Rattle.std.proofs.lemmas.List.{get_or_default}
use Rattle.std.specs.Vec.Iter.{into_iter_items, into_iter_len}
use Rattle.atomic_table.specs.Seated.{TableId}
use Rattle.board.specs.Passes.{LockPass, no_lock_pass}
use Rattle.board.proofs.Joins.{joining-length, joining-same, joining-other, joining-step}
use Rattle.board.proofs.LockLists.{idle-at, length-names, names-at}
use Rattle.board.proofs.locks.join_locks.Goals as goal

pub index_mut-requires : goal.index_mut-requires
index_mut-requires c =
    let t = c.loop-k-test.true in
    let e = c.len-k-end.ensures in
    let n = ap length c.requires.names in
    let long = joining-length c.args.into.now.items c.args.others.items c.loop-k.into.items (into_iter_items c.loop-k.rest) c.loop-k.k c.loop-k.invariant.0 in
    let ok = c.loop-k.into.ok in
    omega (arith, length-names c.args.into.now.items)

-- the pass at the place is the old one
old_one : (c : goal.After-index_mut) → (c.loop-k.k < length c.args.into.now.items) × (c.index_mut.result.now ≡ get_or c.args.into.now.items c.loop-k.k no_lock_pass)
old_one c =
    let olds = c.args.into.now.items in
    let k = c.loop-k.k in
    let at = c.index_mut.result.now in
    let t = c.loop-k-test.true in
    let e = c.len-k-end.ensures in
    let n = ap length c.requires.names in
    let small : k < length olds = omega (arith, length-names olds) in (
      small,
      c.index_mut.ensures.value ∙ joining-same olds c.args.others.items c.loop-k.into.items (into_iter_items c.loop-k.rest) k c.loop-k.invariant.0 small at
          ∙ get_or_default olds k at no_lock_pass small,
    )

-- the other pass is the one of the same place
other_one : (c : goal.After-index_mut) → (get_or c.args.others.items c.loop-k.k no_lock_pass ≡ c.in-Some.other) × (c.loop-k.k < length c.args.others.items)
other_one c =
    joining-other c.args.into.now.items c.args.others.items c.loop-k.into.items (into_iter_items c.loop-k.rest) c.loop-k.k c.loop-k.invariant.0 c.in-Some.other
    (into_iter_items c.next.new.self) c.in-Some.ensures.items no_lock_pass

pub join-requires-clause-lock : goal.join-requires-clause-lock
join-requires-clause-lock c =
    let olds = c.args.into.now.items in
    let old = old_one c in
    let lock = c.index.result.now in
    ap (λ (p : LockPass). p.lock) old.1 ∙ sym (names-at olds c.loop-k.k lock no_lock_pass old.0) ∙ ap (λ (l : List TableId). get_or l c.loop-k.k lock) (sym c.requires.names)
    ∙ sym c.index.ensures

pub join-requires-clause-other_lock : goal.join-requires-clause-other_lock
join-requires-clause-other_lock c =
    let other = other_one c in
    let lock = c.index.result.now in
    ap (λ (p : LockPass). p.lock) (sym other.0) ∙ sym (names-at c.args.others.items c.loop-k.k lock no_lock_pass other.1)
    ∙ ap (λ (l : List TableId). get_or l c.loop-k.k lock) (sym c.requires.other_names) ∙ sym c.index.ensures

pub join-requires-clause-idle : goal.join-requires-clause-idle
join-requires-clause-idle c =
    let all = c.requires.idle in
    let old = old_one c in
    ap (λ (p : LockPass). p.turn) old.1 ∙ (idle-at all.0 all.1 0 c.args.into.now.items c.loop-k.k all.2 old.0).turn

pub join-requires-clause-other_idle : goal.join-requires-clause-other_idle
join-requires-clause-other_idle c =
    let all = c.requires.other_idle in
    let other = other_one c in
    ap (λ (p : LockPass). p.turn) (sym other.0) ∙ (idle-at all.0 all.1 0 c.args.others.items c.loop-k.k all.2 other.1).turn

pub loop-k-preserved : goal.loop-k-preserved
loop-k-preserved c =
    let t = c.loop-k-test.true in
    let e = c.len-k-end.ensures in
    let n = ap length c.requires.names in
    let small : c.loop-k.k < length c.args.into.now.items = omega (arith, length-names c.args.into.now.items) in
    let len : into_iter_len c.next.new.self + 1 ≡ into_iter_len c.loop-k.rest = c.in-Some.ensures.len in (
      joining-step c.args.into.now.items c.args.others.items c.loop-k.into.items (into_iter_items c.loop-k.rest) (into_iter_items c.next.new.self) c.loop-k.k c.index_mut.result.now
          c.in-Some.other c.join.new.into c.loop-k.invariant.0 c.in-Some.ensures.items small c.index_mut.ensures.value
          (record { seen = c.join.ensures.seen; other_seen = c.join.ensures.other_seen; longer = c.join.ensures.longer; others = c.join.ensures.others }),
      (let a = c.loop-k.invariant.1 in omega arith),
    )
