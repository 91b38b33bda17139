-- Where no member of an antichain dominates another, no live label of the side does.
use Rattle.std.proofs.Common.{◌≡◌, ◌≢◌, ℕ, ◌*◌, ◌%◌, ◌<◌, true, List, [], ◌∷◌, length, get_or, refl, sym, ◌∙◌, ap, subst, inl, inr, arith}
use Rattle.std.proofs.lemmas.Bool.{cases_eq}
use Rattle.std.proofs.lemmas.List.{length-map}
use Rattle.label_list.specs.Labels.{last_of}
use Rattle.bucket.specs.declared.id.Id.{Id}
use Rattle.bucket.specs.declared.limits.TheConstants.{BUCKETS}
use Rattle.admission.proofs.CarefulSteps.{IsOrderly-reached}
use Rattle.admission.specs.CarefulRuns.{IsAntichain}
use Rattle.admission.specs.Antichains.{id_at, Belongs, IsAntichainAt, HasAntichains}
use Rattle.antichain.specs.declared.member.Member.{Member}
use Rattle.label_core.proofs.Orderly.{IsOrderly}
use Rattle.label_core.proofs.SameIds.{Id_is}
use Rattle.label_core.proofs.Steps.{Dominates-last}
use Rattle.label_core.specs.CoreState.{labels_in, path_of, IsThere, IsLiveAt, IsLivePath}
use Rattle.label_core.specs.Machine.{Machine, IsReached}
use Rattle.strip_model.proofs.Words.{has_head, has_tail, StripsExist-at}
use Rattle.strip_model.specs.Directed.{has, strip_of}
use Rattle.strip_model.specs.Dominance.{Dominates, IsNoLater}
use Rattle.strip_model.specs.LabelPath.{LabelPath}
use Rattle.strip_model.specs.Mirror.{mirror_of, flip_strip}
use Rattle.strip_model.specs.Orbit.{Orbit}
use Rattle.strip_model.specs.Side.{facing, face_of}
use Rattle.strip_model.specs.Starts.{Place, Root, After, place_after}
use Rattle.strip_model.specs.declared.end.End.{End}
use Rattle.strip_model.specs.declared.end.End.TheVariants.{Forward, Backward}

-- from either end there are the same strips
pub strips-facing : (I : Orbit) (e : End) → length (facing I e).strips ≡ length I.strips
unfolding mirror_of
strips-facing I Forward = refl
strips-facing I Backward = length-map I.strips (flip_strip _)

-- the last of a path stands in it
pub has-last_of : (path : List ℕ) → path ≢ [] → has (last_of path) path ≡ true
has-last_of [] some = absurd (some refl)
has-last_of (x ∷ []) some = has_head x []
has-last_of (x ∷ y ∷ path) some = has_tail (last_of (y ∷ path)) x (y ∷ path) (has-last_of (y ∷ path) (λ h. absurd cc))

-- the last directed strip of a label path exists
pub last_of-below : (I : Orbit) (H : ℕ) (e : End) (path : List ℕ) → LabelPath (face_of I H e) path → last_of path < 2 * length I.strips
last_of-below I H e path p =
    let there : strip_of (last_of path) < length (facing I e).strips =
    StripsExist-at (facing I e) path (last_of path) p.in_time.exist (has-last_of path p.some) in
    omega (arith, there, strips-facing I e)

-- a root dominates nothing, and nothing dominates it
pub root_dominates : (J : Orbit) (path : List ℕ) → Dominates J [] path → ⊥
root_dominates J path h = both (place_after J Root path) h.no_later
  where
    both : (q : Place) → IsNoLater Root q → ⊥
    both Root h = elim h [ ]
    both (After t y) h = elim h [ ]

pub dominates_root : (J : Orbit) (path : List ℕ) → Dominates J path [] → ⊥
dominates_root J path h = both (place_after J Root path) h.no_later
  where
    both : (q : Place) → IsNoLater q Root → ⊥
    both Root h = elim h [ ]
    both (After t y) h = elim h [ ]

-- each live label belongs into the antichain of its last directed strip
pub id_at-is : (m : Machine) → IsOrderly m.instance m.cut m.state → (e : End) (id : Id) → id.end ≡ e → IsThere m.state id
    → id_at e (last_of (path_of m.state id)) id.index ≡ id
id_at-is m o e id side there = Id_is (id_at e (last_of (path_of m.state id)) id.index) id (sym side) (o.placed id there) refl

pub Belongs-live : (m : Machine) → IsOrderly m.instance m.cut m.state → (e : End) (x : ℕ) (id : Id) → id.end ≡ e → last_of (path_of m.state id) ≡ x
    → IsLiveAt m.state id → Belongs m.state e x id.index
Belongs-live m o e x id side last live =
    let is : id_at e (last_of (path_of m.state id)) id.index ≡ id = id_at-is m o e id side live.there in
    subst (λ (y : ℕ). Belongs m.state e y id.index) last
    (record {
      live = subst (λ (z : Id). IsLiveAt m.state z) (sym is) live;
      ends = ap (λ (z : Id). last_of (path_of m.state z)) is;
    })

-- of the live labels of a side none dominates another
apart_side : (m : Machine) (e : End) (antichains : List (List Member)) → IsOrderly m.instance m.cut m.state → HasAntichains m e antichains → (a b : Id) → a.end ≡ e → b.end ≡ e
    → IsLiveAt m.state a → IsLiveAt m.state b → Dominates (facing m.instance e) (path_of m.state b) (path_of m.state a) → path_of m.state a ≡ path_of m.state b
apart_side m e antichains o h a b a_side b_side a_live b_live dominates =
    let x : ℕ = last_of (path_of m.state a) in
    let same : last_of (path_of m.state b) ≡ last_of (path_of m.state a) =
    Dominates-last (facing m.instance e) (path_of m.state b) (path_of m.state a) dominates in
    let below : last_of (path_of m.state a) < length antichains =
    omega (arith, h.size, last_of-below m.instance m.cut a.end (path_of m.state a) (o.is_path a a_live.there)) in
    let antichain : IsAntichainAt m e x (length (labels_in m.state e (x % BUCKETS))) (get_or antichains x []) = h.antichain x below in
    let a_belongs : Belongs m.state e x a.index = Belongs-live m o e x a a_side refl a_live in
    let b_belongs : Belongs m.state e x b.index = Belongs-live m o e x b b_side same b_live in
    let a_is : id_at e x a.index ≡ a = id_at-is m o e a a_side a_live.there in
    let b_is : id_at e x b.index ≡ b =
    ap (λ (y : ℕ). id_at e y b.index) (sym same) ∙ id_at-is m o e b b_side b_live.there in
    elim (cases_eq b.index a.index) [
      | inl one ↦ ap (λ (id : Id). path_of m.state id) (sym a_is ∙ ap (λ (k : ℕ). id_at e x k) (sym one) ∙ b_is)
      | inr two ↦
          absurd (antichain.antichain.apart b.index a.index (antichain.complete b.index b_belongs.live.there b_belongs) (antichain.complete a.index a_belongs.live.there a_belongs) two
          (subst (λ (id : Id). Dominates (facing m.instance e) (path_of m.state id) (path_of m.state (id_at e x a.index))) (sym b_is)
          (subst (λ (id : Id). Dominates (facing m.instance e) (path_of m.state b) (path_of m.state id)) (sym a_is) dominates)))
    ]

antichain_side : (m : Machine) (e : End) (antichains : List (List Member)) → IsOrderly m.instance m.cut m.state → HasAntichains m e antichains → (p q : List ℕ)
    → IsLivePath m.state e p → IsLivePath m.state e q → Dominates (facing m.instance e) q p → p ≡ q
antichain_side m e antichains o h p q p_lives q_lives dominates = elim p_lives [
  | inl p_root ↦ absurd (dominates_root (facing m.instance e) q (subst (λ (r : List ℕ). Dominates (facing m.instance e) q r) p_root dominates))
  | inr p_label ↦ elim q_lives [
    | inl q_root ↦ absurd (root_dominates (facing m.instance e) p (subst (λ (r : List ℕ). Dominates (facing m.instance e) r p) q_root dominates))
    | inr q_label ↦
        sym p_label.3
        ∙ apart_side m e antichains o h p_label.0 q_label.0 p_label.1 q_label.1 p_label.2 q_label.2
        (subst (λ (r : List ℕ). Dominates (facing m.instance e) r (path_of m.state p_label.0)) (sym q_label.3)
        (subst (λ (r : List ℕ). Dominates (facing m.instance e) q r) (sym p_label.3) dominates))
        ∙ q_label.3
  ]
]

-- where both sides have their antichains, no live label dominates another
pub IsAntichain-sides : (m : Machine) (fs bs : List (List Member)) → IsReached m → HasAntichains m Forward fs → HasAntichains m Backward bs → IsAntichain m
IsAntichain-sides m fs bs reached f b Forward p q p_lives q_lives dominates =
    antichain_side m Forward fs (IsOrderly-reached m reached) f p q p_lives q_lives dominates
IsAntichain-sides m fs bs reached f b Backward p q p_lives q_lives dominates =
    antichain_side m Backward bs (IsOrderly-reached m reached) b p q p_lives q_lives dominates
