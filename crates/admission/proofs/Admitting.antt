-- Machines with one label more.
use Rattle.std.proofs.Common.{◌≡◌, ℕ, ◌%◌, ◌<◌, ◌≤◌, List, [], ◌∷◌, ◌++◌, length, refl, sym, ◌∙◌, ap, subst, inl, inr, arith}
use Rattle.bucket.specs.Histories.{bucket_of}
use Rattle.label_list.specs.Labels.{Held, is_live, last_of}
use Rattle.bucket.specs.declared.id.Id.{Id}
use Rattle.bucket.specs.declared.limits.TheConstants.{BUCKETS}
use Rattle.label_list.specs.declared.state.State.TheVariants.{Waiting}
use Rattle.admission.proofs.Fading.{Dies, Shrinks-dies}
use Rattle.admission.proofs.AntichainMembers.{IsAntichainAt-moved}
use Rattle.admission.specs.Antichains.{id_at, Belongs, IsAntichainAt, EndsWith, Shrinks, Admits}
use Rattle.antichain.specs.declared.member.Member.{Member}
use Rattle.label_core.proofs.Lookups.{with_label, labels_there, length-here, held_new, held_old, there_new, there_old, there_cases}
use Rattle.label_core.proofs.Orderly.{IsOrderly}
use Rattle.label_core.specs.CoreState.{CoreState, buckets_of, labels_in, held_at, IsThere, IsLiveAt}
use Rattle.label_core.specs.Events.{InsertLabel}
use Rattle.label_core.specs.Machine.{Machine, stepped, new_id}
use Rattle.strip_model.specs.declared.end.End.{End}

-- one label more, which lives, and all else as it was
pub record Inserted (m t : Machine) (e : End) (path : List ℕ) : Type 0 where
  pub admits : Admits m t e path
  pub alive : (id : Id) → IsLiveAt m.state id → IsLiveAt t.state id
  pub new_lives : IsLiveAt t.state (new_id m.state e path)

Inserted-label : (m : Machine) (e : End) (path : List ℕ) → bucket_of path < length (buckets_of m.state e)
    → Inserted m (record m { state = with_label m.state e (bucket_of path) (record { path = path; state = Waiting }) }) e path
Inserted-label m e path below =
    let held : Held = record { path = path; state = Waiting } in
    let b : ℕ = bucket_of path in
    let t : CoreState = with_label m.state e (bucket_of path) held in
    let old : (id : Id) → IsThere m.state id → held_at t id ≡ held_at m.state id = held_old m.state e (bucket_of path) held below in
    let new : held_at t (new_id m.state e path) ≡ held = held_new m.state e (bucket_of path) held below in
    record {
      admits = record {
        instance = refl;
        cut = refl;
        len_here = length-here m.state e (bucket_of path) held below;
        len =
            λ d c other.
            ap (λ (labels : List Held). length labels)
            (labels_there m.state e (bucket_of path) (labels_in m.state e (bucket_of path) ++ held ∷ []) d c (λ h. other (sym h)));
        old_path = λ id there. ap (λ (h : Held). h.path) (old id there);
        new_path = ap (λ (h : Held). h.path) new;
        live =
            λ id now. elim (there_cases m.state e (bucket_of path) held below id now.there) [
              | inl was ↦ inl (record { there = was; live = sym (ap (λ (h : Held). is_live h.state) (old id was)) ∙ now.live })
              | inr at ↦ inr at
            ];
        others =
            λ id was other.
            record {
              there = there_old m.state e (bucket_of path) held below id was.there;
              live = ap (λ (h : Held). is_live h.state) (old id was.there) ∙ was.live;
            };
      };
      alive =
          λ id was.
          record {
            there = there_old m.state e (bucket_of path) held below id was.there;
            live = ap (λ (h : Held). is_live h.state) (old id was.there) ∙ was.live;
          };
      new_lives = record {
        there = there_new m.state e (bucket_of path) held below;
        live = ap (λ (h : Held). is_live h.state) new;
      };
    }

pub Inserted-insert : (m t : Machine) (e : End) (path : List ℕ) → IsOrderly m.instance m.cut m.state → t ≡ stepped m (InsertLabel e path)
    → Inserted m t e path
Inserted-insert m t e path o is =
    let below : bucket_of path < length (buckets_of m.state e) = omega (arith, o.size e) in
    subst (λ (u : Machine). Inserted m u e path) (sym is) (Inserted-label m e path below)

-- ---- and then some live no more

pub EndsWith-new : (m t : Machine) (e : End) (path : List ℕ) → Admits m t e path → EndsWith t.state e (last_of path) (new_id m.state e path)
EndsWith-new m t e path h = record { side = refl; last = ap (λ (p : List ℕ). last_of p) h.new_path }

pub Admits-shrinks : (m t u : Machine) (e : End) (path : List ℕ) → Admits m t e path → Shrinks t u e (last_of path) → Admits m u e path
Admits-shrinks m t u e path h k = record {
  instance = k.fades.instance ∙ h.instance;
  cut = k.fades.cut ∙ h.cut;
  len_here = k.fades.len e (bucket_of path) ∙ h.len_here;
  len = λ d b other. k.fades.len d b ∙ h.len d b other;
  old_path = λ id there. k.fades.path id ∙ h.old_path id there;
  new_path = k.fades.path (new_id m.state e path) ∙ h.new_path;
  live = λ id live. h.live id (k.fades.live id live);
  others =
      λ id live other.
      k.others id (h.others id live other)
      (λ ends. other (record { side = ends.side; last = sym (ap (λ (p : List ℕ). last_of p) (h.old_path id live.there)) ∙ ends.last }));
}

-- the new label itself dies
pub Admits-dies : (m t u : Machine) (e : End) (path : List ℕ) → Admits m t e path → Dies t u (new_id m.state e path) → Admits m u e path
Admits-dies m t u e path h dies =
    Admits-shrinks m t u e path h (Shrinks-dies t u e (last_of path) (new_id m.state e path) dies (EndsWith-new m t e path h))

-- ---- antichains

-- an antichain whose labels all live on, as far as the labels go that were there before
pub IsAntichainAt-admits : (m t : Machine) (d : End) (path : List ℕ) (e : End) (x n : ℕ) (members : List Member) → Admits m t d path
    → n ≤ length (labels_in m.state e (x % BUCKETS)) → ((k : ℕ) → Belongs m.state e x k → IsLiveAt t.state (id_at e x k)) → IsAntichainAt m e x n members
    → IsAntichainAt t e x n members
IsAntichainAt-admits m t d path e x n members h le alive antichain =
    IsAntichainAt-moved m t e x n members h.instance h.cut (λ k b. h.old_path (id_at e x k) b.live.there) alive
    (λ k l b. elim (h.live (id_at e x k) b.live) [
      | inl was ↦
          record { live = was; ends = sym (ap (λ (p : List ℕ). last_of p) (h.old_path (id_at e x k) was.there)) ∙ b.ends }
      | inr at ↦
          absurd (omega
          (arith, l, le, ap (λ (y : Id). y.index) at, ap (λ (y : Id). length (labels_in m.state y.end y.bucket)) at))
    ])
    antichain
