-- What waits once a new label has come.
use Rattle.std.proofs.Common.{◌≡◌, ℕ, ◌<◌, List, Option, Some, None, ◌∙◌, ap, inl, inr, arith}
use Rattle.std.specs.Prelude.{IfSome}
use Rattle.admission.specs.Contests.{NamesIfLive}
use Rattle.bucket.specs.declared.id.Id.{Id}
use Rattle.bucket.specs.declared.limits.TheConstants.{BUCKETS}
use Rattle.closer.specs.NewWaits.{WaitsIfLive}
use Rattle.closer.specs.Waiting.{id_of, Joins}
use Rattle.closer.specs.declared.wait.Wait.{Wait}
use Rattle.label_core.specs.CoreState.{CoreState, IsLiveAt}
use Rattle.label_core.specs.Machine.{new_id}
use Rattle.strip_model.specs.declared.end.End.{End}

-- it waits
pub WaitsIfLive-joined : (s : CoreState) (id : Id) (rank : ℕ) (w : Wait) (old new : List Wait) → id_of w ≡ id → w.rank ≡ rank → Joins w old new
    → WaitsIfLive s id rank old new
WaitsIfLive-joined s id rank w old new name rank_is h = record {
  kept = h.kept;
  only =
      λ v in_new. elim (h.only v in_new) [
        | inl was ↦ inl was
        | inr at ↦
            inr (record { name = ap (λ (x : Wait). id_of x) at ∙ name; rank = ap (λ (x : Wait). x.rank) at ∙ rank_is })
      ];
  waits = λ live. (w, h.joined, record { name = name; rank = rank_is });
  len = omega (arith, h.len);
}

-- it doesn't live, and nothing more waits
pub WaitsIfLive-none : (s : CoreState) (id : Id) (rank : ℕ) (waiting : List Wait) → ¬ IsLiveAt s id → WaitsIfLive s id rank waiting waiting
WaitsIfLive-none s id rank waiting dead = record {
  kept = λ w old. old;
  only = λ w new. inl new;
  waits = λ live. absurd (dead live);
  len = omega arith;
}

-- the name that there may be is in a bucket
pub bucket_small : (s t : CoreState) (e : End) (path : List ℕ) (id : Option Id) → NamesIfLive t (new_id s e path) id
    → IfSome id (λ (i : Id). i.bucket < BUCKETS)
bucket_small s t e path None named = tt
bucket_small s t e path (Some i) named = omega (arith, ap (λ (x : Id). x.bucket) named.0)
