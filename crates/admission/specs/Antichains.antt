-- Antichains of a core: of each side, for each directed strip, the labels that live and end with it.
use Rattle.std.specs.Prelude.{◌≡◌, ◌≢◌, ℕ, ◌+◌, ◌*◌, ◌%◌, ◌<◌, true, List, [], map, length, get_or, ◌⊎◌}
use Rattle.antichain.specs.Antichains.{Row, ids_of, IsAntichainOf}
use Rattle.antichain.specs.declared.member.Member.{Member}
use Rattle.bucket.specs.Histories.{bucket_of}
use Rattle.label_list.specs.Labels.{last_of}
use Rattle.bucket.specs.declared.id.Id.{Id}
use Rattle.bucket.specs.declared.limits.TheConstants.{BUCKETS}
use Rattle.label_core.specs.CoreState.{CoreState, labels_in, path_of, IsThere, IsLiveAt}
use Rattle.label_core.specs.Machine.{Machine, new_id}
use Rattle.strip_model.specs.Directed.{has}
use Rattle.strip_model.specs.Side.{face_of}
use Rattle.strip_model.specs.declared.end.End.{End}

-- the name of the label with this id in the bucket of the directed strip x
abbrev pub id_at : End → ℕ → ℕ → Id
id_at e x k = record { end = e; bucket = x % BUCKETS; index = k }

-- the label with this id in the bucket of x lives, and ends with x
pub record Belongs (s : CoreState) (e : End) (x k : ℕ) : Type 0 where
  pub live : IsLiveAt s (id_at e x k)
  pub ends : last_of (path_of s (id_at e x k)) ≡ x

-- The antichain of x, as far as the labels with ids below n go: its members are those that live and end with x.
pub record IsAntichainAt (m : Machine) (e : End) (x n : ℕ) (members : List Member) : Type 0 where
  pub below : (k : ℕ) → has k (ids_of members) ≡ true → k < n
  pub sound : (k : ℕ) → has k (ids_of members) ≡ true → Belongs m.state e x k
  pub complete : (k : ℕ) → k < n → Belongs m.state e x k → has k (ids_of members) ≡ true
  pub antichain : IsAntichainOf (face_of m.instance m.cut e) (λ k. path_of m.state (id_at e x k)) members

-- the members of antichains
abbrev pub members_of : List Row → List (List Member)
members_of rows = map (λ (r : Row). r.members) rows

-- the antichains of a side, one for each directed strip, as far as labels with ids below this number go, bucket by bucket
pub record HasAntichainsBelow (m : Machine) (e : End) (below : ℕ → ℕ) (antichains : List (List Member)) : Type 0 where
  pub size : length antichains ≡ 2 * length m.instance.strips
  pub antichain : (x : ℕ) → x < length antichains → IsAntichainAt m e x (below (x % BUCKETS)) (get_or antichains x [])

-- the antichains of a side, with all its labels
abbrev pub HasAntichains : Machine → End → List (List Member) → Type 0
HasAntichains m e antichains = HasAntichainsBelow m e (λ b. length (labels_in m.state e b)) antichains

-- The same labels, of which some may live no more. Of the plan it says nothing, nor of the marks.
pub record Fades (m t : Machine) : Type 0 where
  pub instance : t.instance ≡ m.instance
  pub cut : t.cut ≡ m.cut
  pub len : (e : End) (b : ℕ) → length (labels_in t.state e b) ≡ length (labels_in m.state e b)
  pub path : (id : Id) → path_of t.state id ≡ path_of m.state id
  pub live : (id : Id) → IsLiveAt t.state id → IsLiveAt m.state id

-- the label is of this side, and ends with x
pub record EndsWith (s : CoreState) (e : End) (x : ℕ) (id : Id) : Type 0 where
  pub side : id.end ≡ e
  pub last : last_of (path_of s id) ≡ x

-- the same labels, of which some may live no more, but none except those of the side that end with x
pub record Shrinks (m t : Machine) (e : End) (x : ℕ) : Type 0 where
  pub fades : Fades m t
  pub others : (id : Id) → IsLiveAt m.state id → ¬ EndsWith m.state e x id → IsLiveAt t.state id

-- The same labels and one more at the end of its bucket, with this path, which may live or not. Of the others some may live no
-- more, but none except those of the side that end as the path does.
pub record Admits (m t : Machine) (e : End) (path : List ℕ) : Type 0 where
  pub instance : t.instance ≡ m.instance
  pub cut : t.cut ≡ m.cut
  pub len_here : length (labels_in t.state e (bucket_of path)) ≡ length (labels_in m.state e (bucket_of path)) + 1
  pub len : (d : End) (b : ℕ) → (d ≡ e → b ≢ bucket_of path) → length (labels_in t.state d b) ≡ length (labels_in m.state d b)
  pub old_path : (id : Id) → IsThere m.state id → path_of t.state id ≡ path_of m.state id
  pub new_path : path_of t.state (new_id m.state e path) ≡ path
  pub live : (id : Id) → IsLiveAt t.state id → IsLiveAt m.state id ⊎ (id ≡ new_id m.state e path)
  pub others : (id : Id) → IsLiveAt m.state id → ¬ EndsWith m.state e (last_of path) id → IsLiveAt t.state id
