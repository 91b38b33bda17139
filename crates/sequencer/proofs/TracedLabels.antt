-- What was inserted on a board is inserted by the events of its trace.
use Rattle.std.proofs.Common.{◌≡◌, ◌⊎◌, ℕ, zero, suc, ◌<◌, Bool, true, false, List, [], ◌∷◌, ◌++◌, length, slice_index_or, cond, map, refl, sym, subst, inl, inr, arith, Contains}
use Rattle.std.specs.List.{filter}
use Rattle.std.proofs.lemmas.List.Elements.{Contains-append_left}
use mathlib.Core.List.{IsPrefix}
use Rattle.board.specs.Passes.{LockPass, no_lock_pass}
use Rattle.board.specs.Sharing.{AreLocksClosed}
use Rattle.bucket.specs.Buckets.{Bin}
use Rattle.bucket.specs.Histories.{Step, Inserts}
use Rattle.label_list.specs.Labels.{Held}
use Rattle.label_core.specs.Events.{Event, InsertLabel}
use Rattle.label_core.specs.Traces.{event_of_entry, is_borne, events_of_entries, events_of_bucket, events_of_side}
use Rattle.bucket.specs.Buckets.{held_in}
use Rattle.sequencer.proofs.KeptLabels.{IsOneOf}
use Rattle.strip_model.specs.Orbit.{Orbit}
use Rattle.strip_model.specs.declared.end.End.{End}

-- ---- lists

module _ {X : Type 0} where
  abbrev pub IsAmong : X → List X → Type 0
  IsAmong x [] = ⊥
  IsAmong x (y ∷ ys) = (y ≡ x) ⊎ IsAmong x ys

  among_at : (xs : List X) (x : X) (k : ℕ) → k < length xs → slice_index_or xs k x ≡ x → IsAmong x xs
  among_at [] x k small is = absurd (omega (arith, small))
  among_at (y ∷ ys) x zero small is = inl is
  among_at (y ∷ ys) x (suc k) small is = inr (among_at ys x k (omega (arith, small)) is)

  pub among : (xs : List X) (x : X) → Contains xs x → IsAmong x xs
  among xs x (k, small, is) = among_at xs x k small is

-- what begins with a list has what the list has
pub contains_prefix : (xs ys : List Step) (x : Step) → IsPrefix xs ys → Contains xs x → Contains ys x
contains_prefix xs ys x (rest, is) has = subst (λ (l : List Step). Contains l x) is (Contains-append_left xs rest x has)

pub one_left : (event : Event) (xs ys : List Event) → IsOneOf event xs → IsOneOf event (xs ++ ys)
one_left event [] ys one = absurd one
one_left event (x ∷ xs) ys (inl is) = inl is
one_left event (x ∷ xs) ys (inr later) = inr (one_left event xs ys later)

pub one_right : (event : Event) (xs ys : List Event) → IsOneOf event ys → IsOneOf event (xs ++ ys)
one_right event [] ys one = one
one_right event (x ∷ xs) ys one = inr (one_right event xs ys one)

-- ---- entries and buckets

module _ (I : Orbit) (e : End) (gain : ℕ) where
  -- what an entry adds doesn't take away
  one_more : (number : ℕ) (event : Event) (borne : Bool) (entry : Step) (kept : List Step)
      → IsOneOf event (map (event_of_entry e number) kept) → IsOneOf event (map (event_of_entry e number) (cond borne (entry ∷ kept) kept))
  one_more number event true entry kept one = inr one
  one_more number event false entry kept one = one

  inserted_by_entries : (number : ℕ) (labels : List Held) (entries : List Step) (id : ℕ) (path : List ℕ) → IsAmong (Inserts id path) entries
      → IsOneOf (InsertLabel e path) (events_of_entries I e number gain labels entries)
  inserted_by_entries number labels [] id path among = absurd among
  inserted_by_entries number labels (entry ∷ entries) id path (inl is) =
      subst (λ (s : Step). IsOneOf (InsertLabel e path) (events_of_entries I e number gain labels (s ∷ entries))) (sym is) (inl refl)
  inserted_by_entries number labels (entry ∷ entries) id path (inr later) =
      one_more number (InsertLabel e path) (is_borne I e gain labels entry) entry (filter (is_borne I e gain labels) entries)
      (inserted_by_entries number labels entries id path later)

  inserted_by_bucket : (b : Bin) (id : ℕ) (path : List ℕ) → IsAmong (Inserts id path) b.history
      → IsOneOf (InsertLabel e path) (events_of_bucket I e gain b)
  unfolding events_of_bucket
  inserted_by_bucket b id path has = inserted_by_entries b.number (held_in b) b.history id path has

  pub inserted_by_side : (bins : List Bin) (b : Bin) (id : ℕ) (path : List ℕ) → IsAmong b bins → IsAmong (Inserts id path) b.history
      → IsOneOf (InsertLabel e path) (events_of_side I e gain bins)
  inserted_by_side [] b id path there has = absurd there
  inserted_by_side (c ∷ bins) b id path (inl is) has =
      one_left (InsertLabel e path) (events_of_bucket I e gain c) (events_of_side I e gain bins)
      (subst (λ (d : Bin). IsOneOf (InsertLabel e path) (events_of_bucket I e gain d)) (sym is) (inserted_by_bucket b id path has))
  inserted_by_side (c ∷ bins) b id path (inr later) has =
      one_right (InsertLabel e path) (events_of_bucket I e gain c) (events_of_side I e gain bins) (inserted_by_side bins b id path later has)

-- ---- closed locks

-- the bucket that a lock's pass had seen something of
pub record IsKeptIn (bins : List Bin) (entry : Step) : Type 0 where
  pub bin : Bin
  pub there : IsAmong bin bins
  pub has : IsAmong entry bin.history

nothing_seen : (entry : Step) → Contains no_lock_pass.seen entry → ⊥
nothing_seen entry (k, small, is) = omega (arith, small)

-- what the pass of a lock had seen stands in the bucket that it leaves
pub kept_in : (passes : List LockPass) (bins : List Bin) (k : ℕ) (entry : Step) → AreLocksClosed passes bins
    → Contains (slice_index_or passes k no_lock_pass).seen entry → IsKeptIn bins entry
kept_in [] [] k entry closed has = absurd (nothing_seen entry has)
kept_in [] (b ∷ bins) k entry closed has = absurd closed
kept_in (p ∷ passes) [] k entry closed has = absurd closed
kept_in (p ∷ passes) (b ∷ bins) zero entry closed has =
    record { bin = b; there = inl refl; has = among b.history entry (contains_prefix p.seen b.history entry closed.0.begins has) }
kept_in (p ∷ passes) (b ∷ bins) (suc k) entry closed has =
    let later = kept_in passes bins k entry closed.1 has in
    record { bin = later.bin; there = inr later.there; has = later.has }
