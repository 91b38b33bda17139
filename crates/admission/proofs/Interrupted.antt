-- What stands where memory was wanting.
use Rattle.std.proofs.Common.{◌≡◌, ℕ, List, refl, sym, ap, subst}
use Rattle.std.specs.Prelude.{Result, Ok, Err, OnErr}
use Rattle.admission.proofs.Admitting.{Inserted, Inserted-insert, Admits-shrinks}
use Rattle.admission.proofs.CarefulSteps.{GoesQuietly-refl, IsOrderly-reached}
use Rattle.admission.proofs.Fading.{Shrinks-refl}
use Rattle.admission.specs.Antichains.{Shrinks, Admits}
use Rattle.admission.specs.Clearing.{Clears}
use Rattle.admission.specs.Contests.{last_at, Thins}
use Rattle.admission.specs.Gathering.{Gathers}
use Rattle.bucket.specs.declared.id.Id.{Id}
use Rattle.label_core.specs.Events.{InsertLabel}
use Rattle.label_core.specs.Machine.{Machine, stepped, new_id, IsReached}
use Rattle.label_list.specs.Labels.{last_of}
use Rattle.strip_model.specs.declared.end.End.{End}

-- what holds anyhow
pub on_err_always : {T E P : Type 0} (r : Result T E) → P → OnErr r P
on_err_always (Ok x) p = tt
on_err_always (Err e) p = p

-- nothing has changed
pub Thins-same : (m t : Machine) (e : End) (x : ℕ) → t ≡ m → Thins m t e x
Thins-same m t e x same =
    subst (λ (u : Machine). Thins m u e x) (sym same) (record { quiet = GoesQuietly-refl m; shrinks = Shrinks-refl m e x; plan = refl })

-- so many labels are marked, and the next isn't
pub Thins-clears : (m t u : Machine) (e : End) (x : ℕ) (ids : List ℕ) (n : ℕ) → Clears m t e x ids n → u ≡ t → Thins m u e x
Thins-clears m t u e x ids n h same =
    subst (λ (v : Machine). Thins m v e x) (sym same) (record { quiet = h.quiet; shrinks = h.shrinks; plan = h.plan })

-- as far as the whole side goes
pub Gathers-thins : (m t : Machine) (e : End) (x : ℕ) → Thins m t e x → Gathers m t e
Gathers-thins m t e x h = record {
  quiet = h.quiet;
  fades = h.shrinks.fades;
  others = λ id other live. h.shrinks.others id live (λ ends. other ends.side);
  plan = h.plan;
}

-- a new label came in, and then memory was wanting
pub Admits-thins : (m t u : Machine) (e : End) (path : List ℕ) (id : Id) → id ≡ new_id m.state e path → IsReached m
    → t ≡ stepped m (InsertLabel e path) → Thins t u id.end (last_at t id) → Admits m u e path
Admits-thins m t u e path id is reached step h =
    let inserted : Inserted m t e path = Inserted-insert m t e path (IsOrderly-reached m reached) step in
    let here : Thins t u e (last_at t (new_id m.state e path)) = subst (λ (x : Id). Thins t u x.end (last_at t x)) is h in
    Admits-shrinks m t u e path inserted.admits
    (subst (λ (x : ℕ). Shrinks t u e x) (ap (λ (p : List ℕ). last_of p) inserted.admits.new_path) here.shrinks)
