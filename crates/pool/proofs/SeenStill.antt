-- What a pass has seen of labels stands while it grows.
use Rattle.std.proofs.Common.{◌≡◌, ◌≢◌, ◌≤◌, ℕ, false, List, ◌∷◌, ◌++◌, [], length, sym, ap, ◌∙◌, subst, inl, inr, arith}
use Rattle.board.specs.Passes.{BoardName, BoardPass, lock_at, side_at}
use Rattle.bucket.specs.Histories.{Step, replay, bucket_of}
use Rattle.label_list.specs.Labels.{is_live, state_of}
use Rattle.bucket.specs.declared.id.Id.{Id}
use Rattle.label_list.specs.declared.state.State.TheVariants.{Waiting}
use Rattle.pool.proofs.Growing.{grows_at}
use Rattle.pool.proofs.Lasting.{there_still, path_still, waits_not_still, dead_still, no_fewer}
use Rattle.pool.specs.Growth.{Grows, IsLawful}
use Rattle.pool.specs.Seen.{labels_seen, IsSeen, path_seen, state_seen, IsPathSeen, IsExtended, IsSettled, IsDone}
use Rattle.strip_model.specs.declared.end.End.{End}

module _ (p q : BoardPass) (g : Grows p q) where
  pub seen_still : (id : Id) → IsSeen p id → IsSeen q id
  seen_still id h = record {
    bucket = h.bucket;
    there = there_still (lock_at p id.end id.bucket).seen (lock_at q id.end id.bucket).seen (grows_at p q g id.end id.bucket).seen id.index h.there;
  }

  pub path_seen_still : (id : Id) → IsSeen p id → path_seen q id ≡ path_seen p id
  path_seen_still id h =
      path_still (lock_at p id.end id.bucket).seen (lock_at q id.end id.bucket).seen (grows_at p q g id.end id.bucket).seen id.index h.there

  pub waits_not_seen_still : (id : Id) → IsSeen p id → state_seen p id ≢ Waiting → state_seen q id ≢ Waiting
  waits_not_seen_still id h =
      waits_not_still (lock_at p id.end id.bucket).seen (lock_at q id.end id.bucket).seen (grows_at p q g id.end id.bucket).seen id.index h.there

  pub is_path_seen_still : (e : End) (path : List ℕ) → IsPathSeen p e path → IsPathSeen q e path
  is_path_seen_still e path h =
      let begins = (grows_at p q g e (bucket_of path)).seen in (
        h.0,
        there_still (lock_at p e (bucket_of path)).seen (lock_at q e (bucket_of path)).seen begins h.0 h.1,
        path_still (lock_at p e (bucket_of path)).seen (lock_at q e (bucket_of path)).seen begins h.0 h.1 ∙ h.2,
      )

  pub extended_still : (b : BoardName) (e : End) (path : List ℕ) → IsExtended b p e path → IsExtended b q e path
  extended_still b e path h = λ y is. is_path_seen_still e (path ++ y ∷ []) (h y is)

  pub fewer_before : (e : End) (k : ℕ) → length (labels_seen p e k) ≤ length (labels_seen q e k)
  fewer_before e k = no_fewer (lock_at p e k).seen (lock_at q e k).seen (grows_at p q g e k).seen

  -- what was settled is so still
  pub settled_still : (o : BoardPass) (id : Id) → IsSettled o p id → IsSettled o q id
  settled_still o id h = elim h [
    | inl unseen ↦ inl unseen
    | inr seen ↦ inr (seen_still id seen.0, waits_not_seen_still id seen.0 seen.1)
  ]

  -- and what is settled after growth is so from before
  pub settled_before : (r : BoardPass) (id : Id) → IsSettled q r id → IsSettled p r id
  settled_before r id h = elim h [
    | inl unseen ↦ inl (elim unseen [ inl no_bucket ↦ inl no_bucket | inr none ↦ inr (let f = fewer_before id.end id.bucket in omega arith) ])
    | inr seen ↦ inr seen
  ]

  pub dead_seen_still : (b : BoardName) → IsLawful b p q → (id : Id) → IsSeen p id → is_live (state_seen p id) ≡ false → is_live (state_seen q id) ≡ false
  dead_seen_still b lawful id h dead = elim (lawful id.end id.bucket) [
    | inl same ↦ ap (λ (l : List Step). is_live (state_of (replay l) id.index)) same ∙ dead
    | inr legal ↦
        dead_still (lock_at p id.end id.bucket).seen (lock_at q id.end id.bucket).seen (grows_at p q g id.end id.bucket).seen id.index h.there
        (side_at b id.end) id.bucket legal dead
  ]

  -- what is done with is so still
  pub done_still : (b : BoardName) → IsLawful b p q → (id : Id) → IsDone b p id → IsDone b q id
  done_still b lawful id h = record {
    seen = seen_still id h.seen;
    done = elim h.done [
      | inl dead ↦ inl (dead_seen_still b lawful id h.seen dead)
      | inr extended ↦
          inr (subst (λ (path : List ℕ). IsExtended b q id.end path) (sym (path_seen_still id h.seen)) (extended_still b id.end (path_seen p id) extended))
    ];
  }
