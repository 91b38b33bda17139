-- All antichains of a side.
use Rattle.std.proofs.Common.{◌≡◌, ◌≢◌, ℕ, ◌+◌, ◌*◌, ◌%◌, ◌<◌, List, [], length, get_or, set, length-set, get_or-set_same, get_or-set_other, refl, sym, ◌∙◌, ap, subst, inl, inr, arith}
use Rattle.std.proofs.lemmas.Bool.{cases_eq}
use Rattle.bucket.specs.Histories.{bucket_of}
use Rattle.label_list.specs.Labels.{last_of}
use Rattle.bucket.specs.declared.id.Id.{Id}
use Rattle.bucket.specs.declared.limits.TheConstants.{BUCKETS}
use Rattle.admission.proofs.Admitting.{IsAntichainAt-admits}
use Rattle.admission.proofs.Fading.{Keeps}
use Rattle.admission.proofs.AntichainMembers.{IsAntichainAt-skip, IsAntichainAt-fades}
use Rattle.admission.specs.Antichains.{id_at, Belongs, IsAntichainAt, HasAntichains, Fades, Shrinks, Admits}
use Rattle.antichain.specs.declared.member.Member.{Member}
use Rattle.label_core.specs.CoreState.{labels_in, path_of, IsLiveAt}
use Rattle.label_core.specs.Machine.{Machine, new_id}
use Rattle.strip_model.specs.Orbit.{Orbit}
use Rattle.strip_model.specs.declared.end.End.{End}

-- how many labels there are in the bucket of a directed strip
abbrev count_at : Machine → End → ℕ → ℕ
count_at m e x = length (labels_in m.state e (x % BUCKETS))

-- ---- the same labels

-- where all labels of the side live on, its antichains stay
pub HasAntichains-fades : (m t : Machine) (e : End) (antichains : List (List Member)) → Fades m t
    → ((id : Id) → id.end ≡ e → IsLiveAt m.state id → IsLiveAt t.state id) → HasAntichains m e antichains → HasAntichains t e antichains
HasAntichains-fades m t e antichains fades alive h = record {
  size = h.size ∙ ap (λ (I : Orbit). 2 * length I.strips) (sym fades.instance);
  antichain =
      λ x l.
      let same : count_at t e x ≡ count_at m e x = fades.len e (x % BUCKETS) in
      subst (λ (n : ℕ). IsAntichainAt t e x n (get_or antichains x [])) (sym same)
      (IsAntichainAt-fades m t e x (count_at m e x) (get_or antichains x []) fades (λ k b. alive (id_at e x k) refl b.live) (h.antichain x l));
}

pub HasAntichains-keeps : (m t : Machine) (e : End) (antichains : List (List Member)) → Keeps m t → HasAntichains m e antichains → HasAntichains t e antichains
HasAntichains-keeps m t e antichains h = HasAntichains-fades m t e antichains h.fades (λ id side live. h.alive id live)

-- the antichains of the other side
pub HasAntichains-shrinks_beside : (m t : Machine) (d : End) (y : ℕ) (e : End) (antichains : List (List Member)) → Shrinks m t d y → d ≢ e → HasAntichains m e antichains
    → HasAntichains t e antichains
HasAntichains-shrinks_beside m t d y e antichains h other =
    HasAntichains-fades m t e antichains h.fades (λ id side live. h.others id live (λ ends. other (sym ends.side ∙ side)))

-- the antichains of the side, with one of them made anew
pub HasAntichains-shrinks : (m t : Machine) (e : End) (x : ℕ) (antichains : List (List Member)) (members : List Member) → Shrinks m t e x → x < length antichains
    → IsAntichainAt t e x (length (labels_in t.state e (x % BUCKETS))) members → HasAntichains m e antichains → HasAntichains t e (set antichains x members)
HasAntichains-shrinks m t e x antichains members shrinks there antichain h = record {
  size = length-set antichains x members ∙ h.size ∙ ap (λ (I : Orbit). 2 * length I.strips) (sym shrinks.fades.instance);
  antichain =
      λ y l. elim (cases_eq y x) [
        | inl same ↦
            subst (λ (z : ℕ). IsAntichainAt t e z (count_at t e z) (get_or (set antichains x members) z [])) (sym same)
            (subst (λ (ps : List Member). IsAntichainAt t e x (count_at t e x) ps) (sym (get_or-set_same antichains x members [] there)) antichain)
        | inr other ↦
            let old : IsAntichainAt m e y (count_at m e y) (get_or antichains y []) = h.antichain y (omega (arith, l, length-set antichains x members)) in
            let still : IsAntichainAt t e y (count_at m e y) (get_or antichains y []) =
            IsAntichainAt-fades m t e y (count_at m e y) (get_or antichains y []) shrinks.fades
            (λ k b. shrinks.others (id_at e y k) b.live (λ ends. other (sym b.ends ∙ ends.last))) old in
            subst (λ (n : ℕ). IsAntichainAt t e y n (get_or (set antichains x members) y [])) (sym (shrinks.fades.len e (y % BUCKETS)))
            (subst (λ (ps : List Member). IsAntichainAt t e y (count_at m e y) ps) (sym (get_or-set_other antichains x y members [] other)) still)
      ];
}

-- ---- one label more

-- the antichains of the other side
pub HasAntichains-beside : (m t : Machine) (d : End) (path : List ℕ) (e : End) (antichains : List (List Member)) → Admits m t d path → d ≢ e → HasAntichains m e antichains
    → HasAntichains t e antichains
HasAntichains-beside m t d path e antichains admits other h = record {
  size = h.size ∙ ap (λ (I : Orbit). 2 * length I.strips) (sym admits.instance);
  antichain =
      λ x l.
      subst (λ (n : ℕ). IsAntichainAt t e x n (get_or antichains x [])) (sym (admits.len e (x % BUCKETS) (λ side. absurd (other (sym side)))))
      (IsAntichainAt-admits m t d path e x (count_at m e x) (get_or antichains x []) admits (omega arith)
      (λ k b. admits.others (id_at e x k) b.live (λ ends. other (sym ends.side))) (h.antichain x l));
}

-- the antichains of its own side, of which the one that it belongs into is made anew
pub HasAntichains-set : (m t : Machine) (e : End) (path : List ℕ) (x : ℕ) (antichains : List (List Member)) (members : List Member) → Admits m t e path
    → x ≡ last_of path → x < length antichains → IsAntichainAt t e x (length (labels_in t.state e (x % BUCKETS))) members → HasAntichains m e antichains
    → HasAntichains t e (set antichains x members)
HasAntichains-set m t e path x antichains members admits last there antichain h = record {
  size = length-set antichains x members ∙ h.size ∙ ap (λ (I : Orbit). 2 * length I.strips) (sym admits.instance);
  antichain =
      λ y l. elim (cases_eq y x) [
        | inl same ↦
            subst (λ (z : ℕ). IsAntichainAt t e z (count_at t e z) (get_or (set antichains x members) z [])) (sym same)
            (subst (λ (ps : List Member). IsAntichainAt t e x (count_at t e x) ps) (sym (get_or-set_same antichains x members [] there)) antichain)
        | inr other ↦
            let old : IsAntichainAt m e y (count_at m e y) (get_or antichains y []) = h.antichain y (omega (arith, l, length-set antichains x members)) in
            let still : IsAntichainAt t e y (count_at m e y) (get_or antichains y []) =
            IsAntichainAt-admits m t e path e y (count_at m e y) (get_or antichains y []) admits (omega arith)
            (λ k b. admits.others (id_at e y k) b.live (λ ends. other (sym b.ends ∙ ends.last ∙ sym last))) old in
            subst (λ (ps : List Member). IsAntichainAt t e y (count_at t e y) ps) (sym (get_or-set_other antichains x y members [] other))
            (longer y (get_or antichains y []) other still)
      ];
}
  where
    -- the new label doesn't belong into the antichain of y
    longer : (y : ℕ) (ps : List Member) → y ≢ x → IsAntichainAt t e y (count_at m e y) ps → IsAntichainAt t e y (count_at t e y) ps
    longer y ps other still = elim (cases_eq (y % BUCKETS) (bucket_of path)) [
      | inl same ↦
          let more : count_at t e y ≡ count_at m e y + 1 =
          subst (λ (b : ℕ). length (labels_in t.state e b) ≡ length (labels_in m.state e b) + 1) (sym same) admits.len_here in
          let new : id_at e y (count_at m e y) ≡ new_id m.state e path =
          ap (λ (b : ℕ). record { end = e; bucket = b; index = length (labels_in m.state e b) }) same in
          let outside : ¬ Belongs t.state e y (count_at m e y) =
          λ b. other (sym b.ends ∙ ap (λ (id : Id). last_of (path_of t.state id)) new ∙ ap (λ (p : List ℕ). last_of p) admits.new_path ∙ sym last) in
          subst (λ (n : ℕ). IsAntichainAt t e y n ps) (sym more) (IsAntichainAt-skip t e y (count_at m e y) ps outside still)
      | inr apart ↦ subst (λ (n : ℕ). IsAntichainAt t e y n ps) (sym (admits.len e (y % BUCKETS) (λ side. apart))) still
    ]
