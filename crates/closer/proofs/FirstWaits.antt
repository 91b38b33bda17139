-- How a search begins: the roots wait, and so does each live label.
use Rattle.std.proofs.Common.{◌≡◌, ◌≢◌, ℕ, ◌+◌, ◌%◌, ◌<◌, ◌≤◌, true, List, [], ◌∷◌, length, get_or, take, refl, sym, ◌∙◌, ap, subst, inl, inr, arith}
use Rattle.std.specs.Prelude.{All, Contains}
use Rattle.std.proofs.lemmas.List.Elements.{All-contains, All-more, Contains-append_left, Contains-append_right, Contains-push}
use Rattle.std.proofs.lemmas.Bool.{cases_eq}
use Rattle.std.proofs.lemmas.List.{take_all}
use Rattle.label_list.specs.Labels.{last_of}
use Rattle.bucket.specs.declared.id.Id.{Id}
use Rattle.bucket.specs.declared.limits.TheConstants.{BUCKETS}
use Rattle.closer.proofs.AntichainPlaces.{antichain_read}
use Rattle.closer.proofs.SearchSteps.{path_in-root}
use Rattle.closer.specs.MoreWaits.{AddsWaits}
use Rattle.closer.specs.Searching.{end_of, path_in, rank_of, Names, IsTodo, IsSearching}
use Rattle.closer.specs.Waiting.{Joins}
use Rattle.closer.specs.declared.agenda.Agenda.{Agenda}
use Rattle.closer.specs.declared.wait.Wait.{Wait}
use Rattle.label.proofs.Growing.{last_in_time}
use Rattle.label.specs.Labels.{IsFace}
use Rattle.label_core.proofs.Orderly.{IsOrderly}
use Rattle.label_core.specs.CoreState.{labels_in, path_of, IsThere, IsLiveAt, IsLivePath}
use Rattle.label_core.specs.Machine.{Machine, IsReached}
use Rattle.admission.proofs.CarefulSteps.{IsOrderly-reached}
use Rattle.admission.proofs.AntichainOrder.{last_of-below, id_at-is, Belongs-live}
use Rattle.admission.proofs.AntichainSets.{HasAntichains-fades}
use Rattle.admission.proofs.Rows.{length-members}
use Rattle.admission.specs.CarefulRuns.{end_place}
use Rattle.admission.specs.Gathering.{Gathers}
use Rattle.admission.specs.Antichains.{id_at, Belongs, IsAntichainAt, HasAntichains, members_of}
use Rattle.antichain.specs.Antichains.{Row, ids_of}
use Rattle.antichain.specs.declared.member.Member.{Member}
use Rattle.strip_model.proofs.Bounds.{late_at-le}
use Rattle.strip_model.proofs.Words.{has_cons_cases, has-element}
use Rattle.strip_model.specs.Directed.{has}
use Rattle.strip_model.specs.LabelPath.{LabelPath}
use Rattle.strip_model.specs.Side.{Face}
use Rattle.strip_model.specs.Starts.{Root, After, place_after}
use Rattle.strip_model.specs.declared.end.End.{End}
use Rattle.strip_model.specs.declared.end.End.TheVariants.{Forward, Backward}
use Rattle.strip_model.specs.declared.limits.TheConstants.{MAX_HORIZON}

-- ---- a root and a label as they wait

-- the last start of a label path is within the greatest horizon
pub last_start-le : (S : Face) (path : List ℕ) (start last : ℕ) → IsFace S → LabelPath S path → place_after S.instance Root path ≡ After start last
    → start ≤ MAX_HORIZON
last_start-le S path start last face h at =
    omega (arith, (last_in_time S.instance path start last h.in_time.exist h.in_time.fits at).1, late_at-le S.instance last face.instance)

pub Names-root : (m : Machine) (w : Wait) → w.rank ≡ 0 → Names m w
Names-root m w none = record {
  there = λ some. absurd (some none);
  rank = ap (λ (p : List ℕ). rank_of (end_place m (end_of w) p)) (path_in-root m w none) ∙ sym none;
}

-- ---- more waits

pub AddsWaits-refl : (m : Machine) (ws : List Wait) → AddsWaits m ws ws
AddsWaits-refl m ws = record { kept = λ w h. h; only = λ w h. inl h }

pub AddsWaits-trans : (m : Machine) (us vs ws : List Wait) → AddsWaits m us vs → AddsWaits m vs ws → AddsWaits m us ws
AddsWaits-trans m us vs ws h k = record {
  kept = λ w old. k.kept w (h.kept w old);
  only =
      λ w new. elim (k.only w new) [
        | inl mid ↦ h.only w mid
        | inr named ↦ inr named
      ];
}

pub AddsWaits-joins : (m : Machine) (us vs ws : List Wait) (w : Wait) → Names m w → Joins w vs ws → AddsWaits m us vs → AddsWaits m us ws
AddsWaits-joins m us vs ws w named joins h =
    AddsWaits-trans m us vs ws h
    (record {
      kept = joins.kept;
      only =
          λ v new. elim (joins.only v new) [
            | inl old ↦ inl old
            | inr same ↦ inr (subst (λ (u : Wait). Names m u) (sym same) named)
          ];
    })

-- where nothing waited, all that waits is a root or a label
pub all_named : (m : Machine) (ws : List Wait) → AddsWaits m [] ws → (w : Wait) → Contains ws w → Names m w
all_named m ws h w new = elim (h.only w new) [
  | inl old ↦ absurd (omega (arith, old.1))
  | inr named ↦ named
]

pub IsTodo-kept : (m : Machine) (e : End) (us vs : List Wait) (path : List ℕ) → ((w : Wait) → Contains us w → Contains vs w) → IsTodo m us e path → IsTodo m vs e path
IsTodo-kept m e us vs path kept todo = (todo.0, kept todo.0 todo.1, todo.2, todo.3)

pub IsTodo-joins : (m : Machine) (e : End) (us vs : List Wait) (w : Wait) (path : List ℕ) → Joins w us vs → end_of w ≡ e → path_in m w ≡ path → IsTodo m vs e path
IsTodo-joins m e us vs w path joins side is = (w, joins.joined, side, is)

-- ---- the members of an antichain

abbrev pub MemberWaits : Machine → End → ℕ → List Wait → Member → Type 0
MemberWaits m e x ws a = IsTodo m ws e (path_of m.state (id_at e x a.id))

pub MembersWait-kept : (m : Machine) (e : End) (x : ℕ) (us vs : List Wait) (members : List Member) → ((w : Wait) → Contains us w → Contains vs w)
    → All (MemberWaits m e x us) members → All (MemberWaits m e x vs) members
MembersWait-kept m e x us vs members kept all k d below =
    IsTodo-kept m e us vs (path_of m.state (id_at e x (get_or members k d).id)) kept (all k d below)

member_of : (members : List Member) (k : ℕ) → has k (ids_of members) ≡ true → (a : Member) × Contains members a × (a.id ≡ k)
member_of [] k h = absurd cc
member_of (a ∷ members) k h = elim (has_cons_cases k a.id (ids_of members) h) [
  | inl here ↦ (a, Contains-append_left (a ∷ []) members a (Contains-push [] a), sym here)
  | inr there ↦
      let found : (b : Member) × Contains members b × (b.id ≡ k) = member_of members k there in
      (found.0, Contains-append_right (a ∷ []) members found.0 found.1, found.2)
]

-- one member more waits
pub MembersWait-more : (m : Machine) (e : End) (x : ℕ) (us vs : List Wait) (members : List Member) (i : ℕ) (a : Member) (w : Wait) → i < length members
    → a ≡ get_or members i a → Joins w us vs → end_of w ≡ e → path_in m w ≡ path_of m.state (id_at e x a.id)
    → All (MemberWaits m e x us) (take i members) → All (MemberWaits m e x vs) (take (i + 1) members)
MembersWait-more m e x us vs members i a w below is joins side path all =
    All-more (MemberWaits m e x vs) members i a below (MembersWait-kept m e x us vs (take i members) joins.kept all)
    (subst (λ (b : Member). MemberWaits m e x vs b) is (IsTodo-joins m e us vs w (path_of m.state (id_at e x a.id)) joins side path))

pub MembersWait-all : (m : Machine) (e : End) (x : ℕ) (ws : List Wait) (members : List Member) (i : ℕ) → length members ≤ i
    → All (MemberWaits m e x ws) (take i members) → All (MemberWaits m e x ws) members
MembersWait-all m e x ws members i whole all = subst (λ (ps : List Member). All (MemberWaits m e x ws) ps) (take_all i members whole) all

-- a member of an antichain is there
pub member_there : (m : Machine) (e : End) (x n : ℕ) (members : List Member) (i : ℕ) (a : Member) → IsAntichainAt m e x n members → i < length members
    → a ≡ get_or members i a → IsThere m.state (id_at e x a.id)
member_there m e x n members i a antichain below is =
    (antichain.sound a.id
    (subst (λ (b : Member). has b.id (ids_of members) ≡ true) (sym is) (has-element (λ (b : Member). b.id) members i a below))).live.there

-- an antichain as it is read at its directed strip
pub IsAntichainAt-read : (m : Machine) (e : End) (rows : List Row) (x : ℕ) (row : Row) → HasAntichains m e (members_of rows) → x < length rows
    → row ≡ get_or rows x row → IsAntichainAt m e x (length (labels_in m.state e (x % BUCKETS))) row.members
IsAntichainAt-read m e rows x row h below is =
    subst (λ (members : List Member). IsAntichainAt m e x (length (labels_in m.state e (x % BUCKETS))) members) (antichain_read rows x row below is)
    (h.antichain x (omega (arith, below, length-members rows)))

-- the members of one antichain more wait
pub AntichainsWait-more : (m : Machine) (e : End) (us vs : List Wait) (antichains : List (List Member)) (x : ℕ)
    → (antichain : List Member) → get_or antichains x [] ≡ antichain → ((w : Wait) → Contains us w → Contains vs w) → All (MemberWaits m e x vs) antichain
    → ((y : ℕ) → y < x → All (MemberWaits m e y us) (get_or antichains y [])) → (y : ℕ) → y < x + 1 → All (MemberWaits m e y vs) (get_or antichains y [])
AntichainsWait-more m e us vs antichains x antichain is kept here before y below = elim (cases_eq y x) [
  | inl same ↦
      subst (λ (z : ℕ). All (MemberWaits m e z vs) (get_or antichains z [])) (sym same)
      (subst (λ (members : List Member). All (MemberWaits m e x vs) members) (sym is) here)
  | inr other ↦ MembersWait-kept m e y us vs (get_or antichains y []) kept (before y (omega (arith, below, other)))
]

-- each live label is a member of the antichain of its last directed strip
pub live_waits : (m : Machine) (e : End) (antichains : List (List Member)) (ws : List Wait) → IsReached m → HasAntichains m e antichains → IsTodo m ws e []
    → ((x : ℕ) → x < length antichains → All (MemberWaits m e x ws) (get_or antichains x [])) → (path : List ℕ) → IsLivePath m.state e path → IsTodo m ws e path
live_waits m e antichains ws reached h root members path lives = elim lives [
  | inl none ↦ subst (λ (p : List ℕ). IsTodo m ws e p) (sym none) root
  | inr label ↦ subst (λ (p : List ℕ). IsTodo m ws e p) label.3 (label_waits label.0 label.1 label.2)
]
  where
    label_waits : (id : Id) → id.end ≡ e → IsLiveAt m.state id → IsTodo m ws e (path_of m.state id)
    label_waits id side live =
        let o : IsOrderly m.instance m.cut m.state = IsOrderly-reached m reached in
        let x : ℕ = last_of (path_of m.state id) in
        let below : last_of (path_of m.state id) < length antichains =
        omega (arith, h.size, last_of-below m.instance m.cut id.end (path_of m.state id) (o.is_path id live.there)) in
        let belongs : Belongs m.state e x id.index = Belongs-live m o e x id side refl live in
        let found : (a : Member) × Contains (get_or antichains x []) a × (a.id ≡ id.index) =
        member_of (get_or antichains x []) id.index ((h.antichain x below).complete id.index belongs.live.there belongs) in
        let waits : IsTodo m ws e (path_of m.state (id_at e x found.0.id)) =
        All-contains (MemberWaits m e x ws) (get_or antichains x []) found.0 (members x below) found.1 in
        subst (λ (z : Id). IsTodo m ws e (path_of m.state z)) (ap (λ (k : ℕ). id_at e x k) found.2 ∙ id_at-is m o e id side live.there) waits

-- ---- both sides

-- the forward antichains stay while the backward ones are gathered
pub HasAntichains-gathers : (m t : Machine) (antichains : List (List Member)) → Gathers m t Backward → HasAntichains m Forward antichains → HasAntichains t Forward antichains
HasAntichains-gathers m t antichains gathers h =
    HasAntichains-fades m t Forward antichains gathers.fades (λ id side live. gathers.others id (λ other. absurd (apart (sym side ∙ other))) live) h
  where
    apart : Forward ≢ Backward
    apart same = absurd cc

pub IsSearching-first : (m : Machine) (a : Agenda) → IsReached m → HasAntichains m Forward (members_of a.forward.items) → HasAntichains m Backward (members_of a.backward.items)
    → AddsWaits m [] a.queue → ((path : List ℕ) → IsLivePath m.state Forward path → IsTodo m a.queue Forward path)
    → ((path : List ℕ) → IsLivePath m.state Backward path → IsTodo m a.queue Backward path) → IsSearching m a
IsSearching-first m a reached forward backward adds forward_waits backward_waits = record {
  keeps = record { reached = reached; forward = forward; backward = backward; named = all_named m a.queue adds };
  waits = λ e path lives. inr (both e path lives);
}
  where
    both : (e : End) (path : List ℕ) → IsLivePath m.state e path → IsTodo m a.queue e path
    both Forward = forward_waits
    both Backward = backward_waits
