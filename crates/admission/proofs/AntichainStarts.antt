-- The antichains of a side, made label by label.
use Rattle.std.proofs.Common.{◌≡◌, ◌≢◌, ℕ, ◌+◌, ◌*◌, ◌%◌, ◌<◌, ◌==◌, nat_lt, if◌then◌else◌, List, [], length, get_or, set, length-set, get_or-set_same, get_or-set_other, refl, sym, ◌∙◌, ap, subst, inl, inr, arith}
use Rattle.std.proofs.lemmas.Bool.{cases_eq, cases_lt, cond-true, cond-false, eq-eqb, ne_eqb, lt-ltb, le-ltb}
use Rattle.std.proofs.lemmas.List.{get_or_default}
use Rattle.bucket.proofs.Lasts.{last_of-place}
use Rattle.label_list.specs.Labels.{last_of}
use Rattle.bucket.specs.declared.id.Id.{Id}
use Rattle.bucket.specs.declared.limits.TheConstants.{BUCKETS}
use Rattle.admission.proofs.AntichainMembers.{IsAntichainAt-nil, IsAntichainAt-skip, IsAntichainAt-fades}
use Rattle.admission.proofs.AntichainOrder.{last_of-below}
use Rattle.admission.proofs.AntichainSets.{HasAntichains-fades}
use Rattle.admission.proofs.CarefulSteps.{GoesQuietly-refl, GoesQuietly-trans, IsReached-careful, IsOrderly-reached}
use Rattle.admission.proofs.Fading.{Fades-refl, Fades-trans}
use Rattle.admission.specs.Gathering.{Gathers, looked_at, HasAntichainsUpTo}
use Rattle.admission.specs.Antichains.{id_at, Belongs, IsAntichainAt, HasAntichains, HasAntichainsBelow, Fades}
use Rattle.admission.specs.Contests.{last_at, HasContended}
use Rattle.antichain.specs.declared.member.Member.{Member}
use Rattle.label.specs.Outlines.{IsOutlineOf}
use Rattle.label.specs.declared.outline.Outline.{Outline}
use Rattle.label_core.proofs.Orderly.{IsOrderly}
use Rattle.label_core.specs.CoreState.{labels_in, path_of, IsLiveAt}
use Rattle.label_core.specs.Machine.{Machine, IsReached}
use Rattle.strip_model.specs.Orbit.{Orbit}
use Rattle.strip_model.specs.Side.{Face, facing, face_of}
use Rattle.strip_model.specs.declared.end.End.{End}

-- one label more of a bucket
abbrev pub raised : (ℕ → ℕ) → ℕ → ℕ → ℕ
raised below b c = if c == b then below c + 1 else below c

pub raised-here : (below : ℕ → ℕ) (b c : ℕ) → c ≡ b → raised below b c ≡ below c + 1
raised-here below b c same = cond-true (c == b) (below c + 1) (below c) (eq-eqb c b same)

pub raised-there : (below : ℕ → ℕ) (b c : ℕ) → c ≢ b → raised below b c ≡ below c
raised-there below b c other = cond-false (c == b) (below c + 1) (below c) (ne_eqb c b other)

-- ---- at first

pub HasAntichainsBelow-empty : (m : Machine) (e : End) (antichains : List (List Member)) → length antichains ≡ 2 * length m.instance.strips
    → ((x : ℕ) → x < length antichains → get_or antichains x [] ≡ []) → HasAntichainsBelow m e (λ b. 0) antichains
HasAntichainsBelow-empty m e antichains size empty = record {
  size = size;
  antichain =
      λ x l.
      subst (λ (ps : List Member). IsAntichainAt m e x 0 ps) (sym (empty x l)) (IsAntichainAt-nil m e x 0 (λ k below. absurd (omega (arith, below))));
}

-- ---- a label that lives no more

-- the label belongs into no antichain
none_belongs : (m : Machine) (e : End) (b k y : ℕ) → (IsLiveAt m.state (record { end = e; bucket = b; index = k }) → ⊥) → y % BUCKETS ≡ b
    → ¬ Belongs m.state e y k
none_belongs m e b k y dead same belongs =
    dead (subst (λ (c : ℕ). IsLiveAt m.state (record { end = e; bucket = c; index = k })) same belongs.live)

pub HasAntichainsBelow-dead : (m : Machine) (e : End) (below : ℕ → ℕ) (b k : ℕ) (antichains : List (List Member)) → below b ≡ k
    → (IsLiveAt m.state (record { end = e; bucket = b; index = k }) → ⊥) → HasAntichainsBelow m e below antichains → HasAntichainsBelow m e (raised below b) antichains
HasAntichainsBelow-dead m e below b k antichains at dead h = record {
  size = h.size;
  antichain =
      λ y l. elim (cases_eq (y % BUCKETS) b) [
        | inl same ↦
            let here : below (y % BUCKETS) ≡ k = ap below same ∙ at in
            let old : IsAntichainAt m e y k (get_or antichains y []) = subst (λ (n : ℕ). IsAntichainAt m e y n (get_or antichains y [])) here (h.antichain y l) in
            subst (λ (n : ℕ). IsAntichainAt m e y n (get_or antichains y []))
            (ap (λ (n : ℕ). n + 1) (sym here) ∙ sym (raised-here below b (y % BUCKETS) same))
            (IsAntichainAt-skip m e y k (get_or antichains y []) (none_belongs m e b k y dead same) old)
        | inr other ↦ subst (λ (n : ℕ). IsAntichainAt m e y n (get_or antichains y [])) (sym (raised-there below b (y % BUCKETS) other)) (h.antichain y l)
      ];
}

-- ---- a live label, which contends

module _ (m t : Machine) (id : Id) (below : ℕ → ℕ) (antichains : List (List Member)) (members : List Member) (o : IsOrderly m.instance m.cut m.state)
    (lived : IsLiveAt m.state id) (at : below id.bucket ≡ id.index) (inside : last_at m id < length antichains) (h : HasAntichainsBelow m id.end below antichains)
    (c : HasContended m t id members) where
  placed : last_at m id % BUCKETS ≡ id.bucket
  placed = o.placed id lived.there

  -- the label doesn't belong into the antichain of another directed strip
  outside : (y : ℕ) → y ≢ last_at m id → y % BUCKETS ≡ id.bucket → ¬ Belongs t.state id.end y id.index
  outside y other same belongs =
      let is : id_at id.end y id.index ≡ id =
      ap (λ (b : ℕ). record { end = id.end; bucket = b; index = id.index }) same in
      other
      (sym belongs.ends ∙ ap (λ (z : Id). last_of (path_of t.state z)) is ∙ ap (λ (p : List ℕ). last_of p) (c.shrinks.fades.path id))

  others_still : (y : ℕ) → y < length antichains → y ≢ last_at m id → IsAntichainAt t id.end y (below (y % BUCKETS)) (get_or antichains y [])
  others_still y l other =
      IsAntichainAt-fades m t id.end y (below (y % BUCKETS)) (get_or antichains y []) c.shrinks.fades
      (λ k b. c.shrinks.others (id_at id.end y k) b.live (λ ends. other (sym b.ends ∙ ends.last))) (h.antichain y l)

  pub HasAntichainsBelow-contended : HasAntichainsBelow t id.end (raised below id.bucket) (set antichains (last_at m id) members)
  unfolding placed outside others_still
  HasAntichainsBelow-contended = record {
    size = length-set antichains (last_at m id) members ∙ h.size ∙ ap (λ (I : Orbit). 2 * length I.strips) (sym c.shrinks.fades.instance);
    antichain =
        λ y l. elim (cases_eq y (last_at m id)) [
          | inl same ↦
              let bucket : y % BUCKETS ≡ id.bucket = ap (λ (x : ℕ). x % BUCKETS) same ∙ placed in
              let count : raised below id.bucket (y % BUCKETS) ≡ id.index + 1 =
              raised-here below id.bucket (y % BUCKETS) bucket ∙ ap (λ (n : ℕ). n + 1) (ap below bucket ∙ at) in
              let here : IsAntichainAt t id.end y (id.index + 1) members =
              subst (λ (x : ℕ). IsAntichainAt t id.end x (id.index + 1) members) (sym same) c.antichain in
              let stands : get_or (set antichains (last_at m id) members) y [] ≡ members =
              ap (λ (x : ℕ). get_or (set antichains (last_at m id) members) x []) same ∙ get_or-set_same antichains (last_at m id) members [] inside in
              subst (λ (n : ℕ). IsAntichainAt t id.end y n (get_or (set antichains (last_at m id) members) y [])) (sym count)
              (subst (λ (ps : List Member). IsAntichainAt t id.end y (id.index + 1) ps) (sym stands) here)
          | inr other ↦
              let l_old : y < length antichains = omega (arith, l, length-set antichains (last_at m id) members) in
              subst (λ (ps : List Member). IsAntichainAt t id.end y (raised below id.bucket (y % BUCKETS)) ps)
              (sym (get_or-set_other antichains (last_at m id) y members [] other))
              (elim (cases_eq (y % BUCKETS) id.bucket) [
                | inl same ↦
                    let here : below (y % BUCKETS) ≡ id.index = ap below same ∙ at in
                    let old : IsAntichainAt t id.end y id.index (get_or antichains y []) =
                    subst (λ (n : ℕ). IsAntichainAt t id.end y n (get_or antichains y [])) here (others_still y l_old other) in
                    subst (λ (n : ℕ). IsAntichainAt t id.end y n (get_or antichains y []))
                    (ap (λ (n : ℕ). n + 1) (sym here) ∙ sym (raised-here below id.bucket (y % BUCKETS) same))
                    (IsAntichainAt-skip t id.end y id.index (get_or antichains y []) (outside y other same) old)
                | inr apart ↦
                    subst (λ (n : ℕ). IsAntichainAt t id.end y n (get_or antichains y [])) (sym (raised-there below id.bucket (y % BUCKETS) apart))
                    (others_still y l_old other)
              ])
        ];
  }

-- ---- at last

pub HasAntichains-whole : (m : Machine) (e : End) (below : ℕ → ℕ) (antichains : List (List Member))
    → ((b : ℕ) → b < BUCKETS → below b ≡ length (labels_in m.state e b)) → HasAntichainsBelow m e below antichains → HasAntichains m e antichains
HasAntichains-whole m e below antichains all h = record {
  size = h.size;
  antichain = λ x l. subst (λ (n : ℕ). IsAntichainAt m e x n (get_or antichains x [])) (all (x % BUCKETS) (omega arith)) (h.antichain x l);
}

-- ---- bucket after bucket

-- other numbers, if they are the same
pub HasAntichainsBelow-same : (m : Machine) (e : End) (below other : ℕ → ℕ) (antichains : List (List Member)) → ((b : ℕ) → below b ≡ other b)
    → HasAntichainsBelow m e below antichains → HasAntichainsBelow m e other antichains
HasAntichainsBelow-same m e below other antichains same h = record {
  size = h.size;
  antichain = λ x l. subst (λ (n : ℕ). IsAntichainAt m e x n (get_or antichains x [])) (same (x % BUCKETS)) (h.antichain x l);
}

module _ (m : Machine) (e : End) (b k c : ℕ) where
  looked-before : c < b → looked_at m e b k c ≡ length (labels_in m.state e c)
  looked-before l =
      cond-true (nat_lt c b) (length (labels_in m.state e c)) (if c == b then k else 0) (lt-ltb c b l)

  looked-here : c ≡ b → looked_at m e b k c ≡ k
  looked-here same =
      cond-false (nat_lt c b) (length (labels_in m.state e c)) (if c == b then k else 0) (le-ltb c b (omega (arith, same)))
      ∙ cond-true (c == b) k 0 (eq-eqb c b same)

  looked-after : b < c → looked_at m e b k c ≡ 0
  looked-after l =
      cond-false (nat_lt c b) (length (labels_in m.state e c)) (if c == b then k else 0) (le-ltb c b (omega (arith, l)))
      ∙ cond-false (c == b) k 0 (ne_eqb c b (λ h. omega (arith, l, h)))

-- one label more, on a machine whose buckets have as many labels
pub looked_at-raised : (m t : Machine) (e : End) (b k : ℕ) → Fades m t → (c : ℕ) → raised (looked_at m e b k) b c ≡ looked_at t e b (k + 1) c
looked_at-raised m t e b k fades c = elim (cases_eq c b) [
  | inl same ↦
      raised-here (looked_at m e b k) b c same ∙ ap (λ (n : ℕ). n + 1) (looked-here m e b k c same)
      ∙ sym (looked-here t e b (k + 1) c same)
  | inr other ↦ raised-there (looked_at m e b k) b c other ∙ elim (cases_lt c b) [
    | inl before ↦
        looked-before m e b k c before ∙ sym (fades.len e c) ∙ sym (looked-before t e b (k + 1) c before)
    | inr past ↦
        let l : b < c = omega (arith, past, other) in
        looked-after m e b k c l ∙ sym (looked-after t e b (k + 1) c l)
  ]
]

-- a whole bucket is as much as nothing of the next
pub looked_at-next : (m : Machine) (e : End) (b n : ℕ) → n ≡ length (labels_in m.state e b) → (c : ℕ) → looked_at m e b n c ≡ looked_at m e (b + 1) 0 c
looked_at-next m e b n whole c = elim (cases_lt c b) [
  | inl before ↦ looked-before m e b n c before ∙ sym (looked-before m e (b + 1) 0 c (omega (arith, before)))
  | inr past ↦ elim (cases_eq c b) [
    | inl same ↦
        looked-here m e b n c same ∙ whole ∙ ap (λ (d : ℕ). length (labels_in m.state e d)) (sym same)
        ∙ sym (looked-before m e (b + 1) 0 c (omega (arith, same)))
    | inr other ↦
        looked-after m e b n c (omega (arith, past, other)) ∙ elim (cases_eq c (b + 1)) [
          | inl next ↦ sym (looked-here m e (b + 1) 0 c next)
          | inr later ↦ sym (looked-after m e (b + 1) 0 c (omega (arith, past, other, later)))
        ]
  ]
]

-- nothing at all
pub looked_at-none : (m : Machine) (e : End) (c : ℕ) → 0 ≡ looked_at m e 0 0 c
looked_at-none m e c = elim (cases_eq c 0) [
  | inl same ↦ sym (looked-here m e 0 0 c same)
  | inr other ↦ sym (looked-after m e 0 0 c (omega (arith, other)))
]

pub HasAntichainsUpTo-dead : (m : Machine) (e : End) (b k : ℕ) (antichains : List (List Member)) → (IsLiveAt m.state (record { end = e; bucket = b; index = k }) → ⊥)
    → HasAntichainsUpTo m e b k antichains → HasAntichainsUpTo m e b (k + 1) antichains
HasAntichainsUpTo-dead m e b k antichains dead h =
    HasAntichainsBelow-same m e (raised (looked_at m e b k) b) (looked_at m e b (k + 1)) antichains (looked_at-raised m m e b k (Fades-refl m))
    (HasAntichainsBelow-dead m e (looked_at m e b k) b k antichains (looked-here m e b k b refl) dead h)

pub HasAntichainsUpTo-contended : (m t : Machine) (id : Id) (antichains : List (List Member)) (members : List Member) → IsOrderly m.instance m.cut m.state
    → IsLiveAt m.state id → last_at m id < length antichains → HasAntichainsUpTo m id.end id.bucket id.index antichains → HasContended m t id members
    → HasAntichainsUpTo t id.end id.bucket (id.index + 1) (set antichains (last_at m id) members)
HasAntichainsUpTo-contended m t id antichains members o lived inside h c =
    HasAntichainsBelow-same t id.end (raised (looked_at m id.end id.bucket id.index) id.bucket) (looked_at t id.end id.bucket (id.index + 1))
    (set antichains (last_at m id) members) (looked_at-raised m t id.end id.bucket id.index c.shrinks.fades)
    (HasAntichainsBelow-contended m t id (looked_at m id.end id.bucket id.index) antichains members o lived
    (looked-here m id.end id.bucket id.index id.bucket refl) inside h c)

-- the antichain that the next label enters
pub IsAntichainAt-next : (m : Machine) (id : Id) (antichains : List (List Member)) → IsOrderly m.instance m.cut m.state → IsLiveAt m.state id → last_at m id < length antichains
    → HasAntichainsUpTo m id.end id.bucket id.index antichains → IsAntichainAt m id.end (last_at m id) id.index (get_or antichains (last_at m id) [])
IsAntichainAt-next m id antichains o lived inside h =
    subst (λ (n : ℕ). IsAntichainAt m id.end (last_at m id) n (get_or antichains (last_at m id) []))
    (looked-here m id.end id.bucket id.index (last_at m id % BUCKETS) (o.placed id lived.there)) (h.antichain (last_at m id) inside)

-- The brief tells where the label's antichain is.
module _ (m : Machine) (id : Id) (antichains : List (List Member)) (S : Face) (path : List ℕ) (brief : Outline) (place : ℕ) (reached : IsReached m)
    (lived : IsLiveAt m.state id) (side : S ≡ face_of m.instance m.cut id.end) (is_path : path ≡ path_of m.state id) (is_brief : IsOutlineOf S brief path)
    (at : place ≡ brief.last) (h : HasAntichainsUpTo m id.end id.bucket id.index antichains) where
  last-place : last_at m id ≡ place
  last-place =
      let here : IsOutlineOf (face_of m.instance m.cut id.end) brief (path_of m.state id) =
      subst (λ (p : List ℕ). IsOutlineOf (face_of m.instance m.cut id.end) brief p) is_path
      (subst (λ (T : Face). IsOutlineOf T brief path) side is_brief) in
      last_of-place (facing m.instance id.end) (path_of m.state id) brief.start brief.last here.at ∙ sym at

  last-inside : last_at m id < length antichains
  last-inside =
      omega
      (arith, h.size, last_of-below m.instance m.cut id.end (path_of m.state id) ((IsOrderly-reached m reached).is_path id lived.there))

  pub place-inside : place < length antichains
  unfolding last-place last-inside
  place-inside = subst (λ (x : ℕ). x < length antichains) last-place last-inside

  -- what stands there is the antichain that the label enters
  pub antichain-entered : (members : List Member) → members ≡ get_or antichains place members → IsAntichainAt m id.end (last_at m id) id.index members
  unfolding last-place last-inside
  antichain-entered members stands =
      let same : get_or antichains (last_at m id) [] ≡ members =
      ap (λ (x : ℕ). get_or antichains x []) last-place ∙ get_or_default antichains place [] members place-inside ∙ sym stands in
      subst (λ (ps : List Member). IsAntichainAt m id.end (last_at m id) id.index ps) same
      (IsAntichainAt-next m id antichains (IsOrderly-reached m reached) lived last-inside h)

  pub HasAntichainsUpTo-entered : (t : Machine) (members : List Member) → HasContended m t id members
      → HasAntichainsUpTo t id.end id.bucket (id.index + 1) (set antichains place members)
  unfolding last-place last-inside
  HasAntichainsUpTo-entered t members c =
      subst (λ (x : ℕ). HasAntichainsUpTo t id.end id.bucket (id.index + 1) (set antichains x members)) last-place
      (HasAntichainsUpTo-contended m t id antichains members (IsOrderly-reached m reached) lived last-inside h c)

pub HasAntichainsUpTo-next : (m : Machine) (e : End) (b n : ℕ) (antichains : List (List Member)) → n ≡ length (labels_in m.state e b) → HasAntichainsUpTo m e b n antichains
    → HasAntichainsUpTo m e (b + 1) 0 antichains
HasAntichainsUpTo-next m e b n antichains whole h =
    HasAntichainsBelow-same m e (looked_at m e b n) (looked_at m e (b + 1) 0) antichains (looked_at-next m e b n whole) h

pub HasAntichainsUpTo-empty : (m : Machine) (e : End) (antichains : List (List Member)) → length antichains ≡ 2 * length m.instance.strips
    → ((x : ℕ) → get_or antichains x [] ≡ []) → HasAntichainsUpTo m e 0 0 antichains
HasAntichainsUpTo-empty m e antichains size empty =
    HasAntichainsBelow-same m e (λ b. 0) (looked_at m e 0 0) antichains (looked_at-none m e) (HasAntichainsBelow-empty m e antichains size (λ x l. empty x))

pub HasAntichains-looked : (m : Machine) (e : End) (antichains : List (List Member)) → HasAntichainsUpTo m e BUCKETS 0 antichains → HasAntichains m e antichains
HasAntichains-looked m e antichains h = HasAntichains-whole m e (looked_at m e BUCKETS 0) antichains (λ b l. looked-before m e BUCKETS 0 b l) h

-- ---- what gathering changes

pub Gathers-refl : (m : Machine) (e : End) → Gathers m m e
Gathers-refl m e = record { quiet = GoesQuietly-refl m; fades = Fades-refl m; others = λ id other live. live; plan = refl }

pub Gathers-trans : (m t u : Machine) (e : End) → Gathers m t e → Gathers t u e → Gathers m u e
Gathers-trans m t u e h k = record {
  quiet = GoesQuietly-trans m t u h.quiet k.quiet;
  fades = Fades-trans m t u h.fades k.fades;
  others = λ id other live. k.others id other (h.others id other live);
  plan = k.plan ∙ h.plan;
}

pub Gathers-contended : (m t : Machine) (id : Id) (members : List Member) → HasContended m t id members → Gathers m t id.end
Gathers-contended m t id members c = record {
  quiet = c.quiet;
  fades = c.shrinks.fades;
  others = λ y other live. c.shrinks.others y live (λ ends. other ends.side);
  plan = c.plan;
}

-- the other side keeps its antichains
pub HasAntichains-gathers_beside : (m t : Machine) (d e : End) (antichains : List (List Member)) → Gathers m t d → d ≢ e → HasAntichains m e antichains → HasAntichains t e antichains
HasAntichains-gathers_beside m t d e antichains h other =
    HasAntichains-fades m t e antichains h.fades (λ id side live. h.others id (λ same. other (sym same ∙ side)) live)

-- a reached machine stays one
pub IsReached-gathers : (m t : Machine) (e : End) → IsReached m → Gathers m t e → IsReached t
IsReached-gathers m t e reached h = IsReached-careful 0 m t reached (h.quiet 0)
