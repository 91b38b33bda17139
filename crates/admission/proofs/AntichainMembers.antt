-- Antichains of a core, member by member.
use Rattle.std.proofs.Common.{◌≡◌, ℕ, ◌+◌, ◌<◌, true, List, [], refl, sym, ◌∙◌, ap, subst, inl, inr, arith, true≢false}
use Rattle.std.proofs.lemmas.Bool.{cases_lt}
use Rattle.admission.specs.Antichains.{id_at, Belongs, IsAntichainAt, Fades}
use Rattle.admission.specs.Contests.{beside}
use Rattle.antichain.proofs.Changes.{IsAntichainOf-none, IsAntichainOf-same}
use Rattle.antichain.specs.Antichains.{ids_of, IsAntichainOf}
use Rattle.antichain.specs.declared.member.Member.{Member}
use Rattle.bucket.specs.declared.id.Id.{Id}
use Rattle.label.specs.Outlines.{IsOutlineOf}
use Rattle.label.specs.declared.outline.Outline.{Outline}
use Rattle.label_core.proofs.Orderly.{IsOrderly}
use Rattle.label_core.specs.CoreState.{path_of, IsThere, IsLiveAt}
use Rattle.label_core.specs.Machine.{Machine}
use Rattle.label_list.specs.Labels.{last_of}
use Rattle.strip_model.specs.Directed.{has}
use Rattle.strip_model.specs.Orbit.{Orbit}
use Rattle.strip_model.specs.Side.{Face, face_of}
use Rattle.strip_model.specs.declared.end.End.{End}

-- ---- no members

pub IsAntichainAt-nil : (m : Machine) (e : End) (x n : ℕ) → ((k : ℕ) → k < n → ¬ Belongs m.state e x k) → IsAntichainAt m e x n []
IsAntichainAt-nil m e x n none = record {
  below = λ k h. absurd (true≢false (sym h));
  sound = λ k h. absurd (true≢false (sym h));
  complete = λ k l b. absurd (none k l b);
  antichain = IsAntichainOf-none (face_of m.instance m.cut e) (λ k. path_of m.state (id_at e x k)) [] refl;
}

-- ---- the next label doesn't belong into it

pub IsAntichainAt-skip : (m : Machine) (e : End) (x n : ℕ) (ps : List Member) → ¬ Belongs m.state e x n → IsAntichainAt m e x n ps
    → IsAntichainAt m e x (n + 1) ps
IsAntichainAt-skip m e x n ps other h = record {
  below = λ k i. omega (arith, h.below k i);
  sound = h.sound;
  complete =
      λ k l b. elim (cases_lt k n) [
        | inl below ↦ h.complete k below b
        | inr past ↦ absurd (other (subst (λ (j : ℕ). Belongs m.state e x j) (omega (arith, l, past)) b))
      ];
  antichain = h.antichain;
}

-- ---- what was known of labels stays known

module _ (m t : Machine) (same_instance : t.instance ≡ m.instance) (same_cut : t.cut ≡ m.cut) where
  pub face-still : (e : End) → face_of m.instance m.cut e ≡ face_of t.instance t.cut e
  face-still e =
      ap (λ (I : Orbit). face_of I m.cut e) (sym same_instance) ∙ ap (λ (H : ℕ). face_of t.instance H e) (sym same_cut)

  pub IsOutlineOf-still : (e : End) (outline : Outline) (path : List ℕ) → IsOutlineOf (face_of m.instance m.cut e) outline path
      → IsOutlineOf (face_of t.instance t.cut e) outline path
  unfolding face-still
  IsOutlineOf-still e outline path h = subst (λ (S : Face). IsOutlineOf S outline path) (face-still e) h

-- An antichain goes over to another machine: what stands in it lives there with the same path, and nothing else belongs into it.
pub IsAntichainAt-over : (m t : Machine) (e : End) (x n : ℕ) (qs : List Member) → t.instance ≡ m.instance → t.cut ≡ m.cut
    → IsAntichainOf (face_of m.instance m.cut e) (λ k. path_of m.state (id_at e x k)) qs → ((k : ℕ) → has k (ids_of qs) ≡ true → k < n)
    → ((k : ℕ) → has k (ids_of qs) ≡ true → Belongs m.state e x k)
    → ((k : ℕ) → has k (ids_of qs) ≡ true → path_of t.state (id_at e x k) ≡ path_of m.state (id_at e x k))
    → ((k : ℕ) → has k (ids_of qs) ≡ true → IsLiveAt t.state (id_at e x k))
    → ((k : ℕ) → k < n → Belongs t.state e x k → has k (ids_of qs) ≡ true) → IsAntichainAt t e x n qs
IsAntichainAt-over m t e x n qs same_instance same_cut antichain below sound path alive complete = record {
  below = below;
  sound = λ k h. record { live = alive k h; ends = ap (λ (p : List ℕ). last_of p) (path k h) ∙ (sound k h).ends };
  complete = complete;
  antichain =
      IsAntichainOf-same (face_of m.instance m.cut e) (face_of t.instance t.cut e) (λ k. path_of m.state (id_at e x k))
      (λ k. path_of t.state (id_at e x k)) qs (face-still m t same_instance same_cut e) (λ k h. sym (path k h)) antichain;
}

-- the labels that belong into it still do, with the same paths, and no others
pub IsAntichainAt-moved : (m t : Machine) (e : End) (x n : ℕ) (ps : List Member) → t.instance ≡ m.instance → t.cut ≡ m.cut
    → ((k : ℕ) → Belongs m.state e x k → path_of t.state (id_at e x k) ≡ path_of m.state (id_at e x k))
    → ((k : ℕ) → Belongs m.state e x k → IsLiveAt t.state (id_at e x k)) → ((k : ℕ) → k < n → Belongs t.state e x k → Belongs m.state e x k)
    → IsAntichainAt m e x n ps → IsAntichainAt t e x n ps
IsAntichainAt-moved m t e x n ps same_instance same_cut path alive before h =
    IsAntichainAt-over m t e x n ps same_instance same_cut h.antichain h.below h.sound (λ k i. path k (h.sound k i)) (λ k i. alive k (h.sound k i))
    (λ k l b. h.complete k l (before k l b))

-- a label that belongs into it now did before
pub Belongs-before : (m t : Machine) (e : End) (x k : ℕ) → Fades m t → Belongs t.state e x k → Belongs m.state e x k
Belongs-before m t e x k fades b = record {
  live = fades.live (id_at e x k) b.live;
  ends = sym (ap (λ (p : List ℕ). last_of p) (fades.path (id_at e x k))) ∙ b.ends;
}

-- an antichain whose labels all live on
pub IsAntichainAt-fades : (m t : Machine) (e : End) (x n : ℕ) (ps : List Member) → Fades m t
    → ((k : ℕ) → Belongs m.state e x k → IsLiveAt t.state (id_at e x k)) → IsAntichainAt m e x n ps → IsAntichainAt t e x n ps
IsAntichainAt-fades m t e x n ps fades alive h =
    IsAntichainAt-moved m t e x n ps fades.instance fades.cut (λ k b. fades.path (id_at e x k)) alive (λ k l b. Belongs-before m t e x k fades b) h

-- ---- names

-- the name of a label beside another, as the code writes it
pub beside_is : (m : Machine) (id : Id) (k : ℕ) → IsOrderly m.instance m.cut m.state → IsThere m.state id
    → record { end = id.end; bucket = id.bucket; index = k } ≡ beside m id k
beside_is m id k o there = ap (λ (b : ℕ). record { end = id.end; bucket = b; index = k }) (sym (o.placed id there))

pub beside-itself : (m : Machine) (id : Id) → IsOrderly m.instance m.cut m.state → IsThere m.state id → beside m id id.index ≡ id
beside-itself m id o there = sym (beside_is m id id.index o there)
