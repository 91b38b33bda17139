-- The half of a pass: the first one, split, and joined.
use Rattle.std.proofs.Common.{◌≡◌, ◌≤◌, ◌+◌, ◌-◌, ◌/◌, ℕ, List, [], length, map, ap, sym, ◌∙◌, subst, arith}
use Rattle.std.proofs.lemmas.List.{length-map}
use Rattle.atomic_table.specs.Seated.{TableId}
use Rattle.board.specs.Inside.{names_in, AreIdle, half_pass_of, IsHalfPass}
use Rattle.board.specs.Passes.{LockPass, HalfPass}
use Rattle.board.specs.Queues.{first_hand, kept_hand, new_hand, joined_hand}
use Rattle.board.specs.Sharing.{first_locks, first_half, lock_kept, lock_split_off, half_kept, half_split_off, AreLocksJoined, IsHalfJoined}
use Rattle.pass_weight.specs.declared.whole_weight.TheConstants.{WHOLE_WEIGHT}
use Rattle.board.specs.declared.queue.Hand.{Hand}
use Rattle.board.proofs.Joins.{joined-length, joined-names, joined-idle}
use Rattle.board.proofs.LockLists.{names-first, length-first, idle-first, names-kept, names-split_off, idle-kept, idle-split_off}
use Rattle.bucket.specs.declared.id.Id.{Id}
use Rattle.bucket.specs.declared.limits.TheConstants.{BUCKETS}
use Rattle.crossbeam_queue.specs.Passes.{Pass as IdPass, view}
use Rattle.strip_model.specs.Side.{Face}

-- ---- the first one

module _ (S : Face) (ts : List TableId) (ps : List LockPass) (ids : IdPass Id Hand) (made : ps ≡ first_locks S 0 ts) (hand : view ids ≡ first_hand) where
  pub first_is : length ts ≡ BUCKETS → ids.me.1 ≡ [] → IsHalfPass S ps ids
  first_is count no_slot =
      let weight : (view ids).weight ≡ WHOLE_WEIGHT = ap (λ (h : Hand). h.weight) hand in
      record {
        count = ap length made ∙ length-first S 0 ts ∙ count;
        idle = subst (λ (n : ℕ). AreIdle S 0 n ps) (sym weight) (subst (λ (l : List LockPass). AreIdle S 0 WHOLE_WEIGHT l) (sym made) (idle-first S 0 ts));
        no_slot = no_slot;
        some_weight = omega arith;
      }

  pub first_same : (queue : TableId) → ids.table_id ≡ queue → half_pass_of S ps ids ≡ first_half (record { side = S; locks = ts; queue = queue })
  first_same queue is =
      let names : names_in ps ≡ ts = ap names_in made ∙ names-first S 0 ts in
      λ i. record {
        name = record { side = S; locks = names i; queue = is i };
        locks = made i;
        pushes = (hand i).pushes;
        ids = (hand i).ids;
        weight = (hand i).weight;
      }

-- ---- split

module _ (S : Face) (ps : List LockPass) (ids : IdPass Id Hand) (h : IsHalfPass S ps ids) (heavy : 2 ≤ (view ids).weight)
    (qs : List LockPass) (new : IdPass Id Hand) where
  pub kept_is : qs ≡ map lock_kept ps → view new ≡ kept_hand (view ids) → new.me.1 ≡ ids.me.1 → IsHalfPass S qs new
  kept_is made hand slots =
      let weight : (view new).weight ≡ (view ids).weight - (view ids).weight / 2 = ap (λ (x : Hand). x.weight) hand in
      record {
        count = ap length made ∙ length-map ps lock_kept ∙ h.count;
        idle = subst (λ (n : ℕ). AreIdle S 0 n qs) (sym weight)
            (subst (λ (l : List LockPass). AreIdle S 0 ((view ids).weight - (view ids).weight / 2) l) (sym made) (idle-kept S (view ids).weight 0 ps h.idle));
        no_slot = slots ∙ h.no_slot;
        some_weight = omega arith;
      }

  pub kept_same : qs ≡ map lock_kept ps → view new ≡ kept_hand (view ids) → new.table_id ≡ ids.table_id → (old : HalfPass) → half_pass_of S ps ids ≡ old
      → half_pass_of S qs new ≡ half_kept old
  kept_same made hand table old is =
      let names : names_in qs ≡ names_in ps = ap names_in made ∙ names-kept ps in
      (λ i. record {
        name = record { side = S; locks = names i; queue = table i };
        locks = made i;
        pushes = (hand i).pushes;
        ids = (hand i).ids;
        weight = (hand i).weight;
      }) ∙ ap half_kept is

  pub off_is : (T : Face) → S ≡ T → qs ≡ map lock_split_off ps → view new ≡ new_hand (view ids) → new.me.1 ≡ [] → IsHalfPass T qs new
  off_is T side made hand slots =
      let weight : (view new).weight ≡ (view ids).weight / 2 = ap (λ (x : Hand). x.weight) hand in
      subst (λ (F : Face). IsHalfPass F qs new) side (record {
        count = ap length made ∙ length-map ps lock_split_off ∙ h.count;
        idle = subst (λ (n : ℕ). AreIdle S 0 n qs) (sym weight)
            (subst (λ (l : List LockPass). AreIdle S 0 ((view ids).weight / 2) l) (sym made) (idle-split_off S (view ids).weight 0 ps h.idle));
        no_slot = slots;
        some_weight = omega arith;
      })

  pub off_same : (T : Face) → S ≡ T → qs ≡ map lock_split_off ps → view new ≡ new_hand (view ids) → new.table_id ≡ ids.table_id → (old : HalfPass)
      → half_pass_of S ps ids ≡ old → half_pass_of T qs new ≡ half_split_off old
  off_same T side made hand table old is =
      let names : names_in qs ≡ names_in ps = ap names_in made ∙ names-split_off ps in
      (λ i. record {
        name = record { side = sym side i; locks = names i; queue = table i };
        locks = made i;
        pushes = (hand i).pushes;
        ids = (hand i).ids;
        weight = (hand i).weight;
      }) ∙ ap half_split_off is

-- ---- joined

module _ (S T : Face) (ps qs rs : List LockPass) (ids others new : IdPass Id Hand) (side : T ≡ S) (all : AreLocksJoined ps qs rs)
    (hand : view new ≡ joined_hand (view ids) (view others)) where
  pub joined_is : IsHalfPass S ps ids → IsHalfPass T qs others → new.me.1 ≡ ids.me.1 → IsHalfPass S rs new
  joined_is h g slots =
      let weight : (view new).weight ≡ (view ids).weight + (view others).weight = ap (λ (x : Hand). x.weight) hand in
      let some = h.some_weight in
      record {
        count = (joined-length ps qs rs all).1 ∙ h.count;
        idle = subst (λ (n : ℕ). AreIdle S 0 n rs) (sym weight)
            (joined-idle S (view ids).weight (view others).weight 0 ps qs rs all h.idle
            (subst (λ (F : Face). AreIdle F 0 (view others).weight qs) side g.idle));
        no_slot = slots ∙ h.no_slot;
        some_weight = omega arith;
      }

  pub joined_same : new.table_id ≡ ids.table_id → (old other : HalfPass) → half_pass_of S ps ids ≡ old → half_pass_of T qs others ≡ other
      → IsHalfJoined old other (half_pass_of S rs new)
  joined_same table old other is is' =
      let names : names_in rs ≡ names_in ps = joined-names ps qs rs all in
      subst (λ (o : HalfPass). IsHalfJoined o other (half_pass_of S rs new)) is
      (subst (λ (o : HalfPass). IsHalfJoined (half_pass_of S ps ids) o (half_pass_of S rs new)) is' (record {
        locks = all;
        others = λ i. record {
          name = record { side = S; locks = names i; queue = table i };
          locks = rs;
          pushes = (hand i).pushes;
          ids = (hand i).ids;
          weight = (hand i).weight;
        };
      }))
