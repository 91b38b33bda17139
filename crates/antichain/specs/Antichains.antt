-- Labels with the same last directed strip of which none dominates another.
use Rattle.std.specs.Prelude.{◌≡◌, ◌≢◌, ℕ, ◌==◌, ◌<◌, ◌≤◌, true, List, [], ◌∷◌, ◌++◌, length, map, slice_index_or}
use Rattle.std.specs.List.{All, IsDistinct}
use Rattle.std.specs.List.Sorted.{IsNonDecreasingBy}
use Rattle.antichain.specs.declared.member.Member.{Member}
use Rattle.label.specs.Outlines.{IsOutlineOf}
use Rattle.strip_model.specs.Directed.{has}
use Rattle.strip_model.specs.Dominance.{Dominates}
use Rattle.strip_model.specs.LabelPath.{LabelPath}
use Rattle.strip_model.specs.Orbit.{Orbit}
use Rattle.strip_model.specs.Side.{Face}

-- an antichain as contracts see it: its members in their order, and how many it has memory for
pub record Row : Type 0 where
  pub members : List Member
  pub room : ℕ

-- the ids of members
abbrev pub ids_of : List Member → List ℕ
ids_of members = map (λ (m : Member). m.id) members

-- the member at this place has this id
pub record HasIdAt (members : List Member) (id at : ℕ) : Type 0 where
  pub there : at < length members
  pub is : (d : Member) → (slice_index_or members at d).id ≡ id

-- no member starts before an earlier one
abbrev pub IsRising : List Member → Type 0
IsRising members = IsNonDecreasingBy (λ (m : Member). m.outline.start) members

-- the path of this id is a label path of the side, and the member's outline is that of this path
pub record IsMemberOf (S : Face) (path_at : ℕ → List ℕ) (m : Member) : Type 0 where
  pub path : LabelPath S (path_at m.id)
  pub outline : IsOutlineOf S m.outline (path_at m.id)

-- The members are labels of the side with these paths by id, in rising order of their starts, each once, and none dominates
-- another.
pub record IsAntichainOf (S : Face) (path_at : ℕ → List ℕ) (members : List Member) : Type 0 where
  pub sound : All (IsMemberOf S path_at) members
  pub rising : IsRising members
  pub distinct : IsDistinct (λ j k. j == k) (ids_of members)
  pub apart : (j k : ℕ) → has j (ids_of members) ≡ true → has k (ids_of members) ≡ true → j ≢ k → ¬ Dominates S.instance (path_at j) (path_at k)

-- no member dominates the label of this id, nor is dominated by it
abbrev pub IsApartFrom : Orbit → (ℕ → List ℕ) → List Member → ℕ → Type 0
IsApartFrom J path_at members id =
    (k : ℕ) → has k (ids_of members) ≡ true → (¬ Dominates J (path_at k) (path_at id)) × (¬ Dominates J (path_at id) (path_at k))

-- no member dominates the path
abbrev pub NoneDominates : Orbit → (ℕ → List ℕ) → List Member → List ℕ → Type 0
NoneDominates J path_at members path = (k : ℕ) → has k (ids_of members) ≡ true → ¬ Dominates J (path_at k) path

-- this is the id of a member that dominates the path
pub record IsDominator (J : Orbit) (path_at : ℕ → List ℕ) (members : List Member) (path : List ℕ) (by : ℕ) : Type 0 where
  pub there : has by (ids_of members) ≡ true
  pub dominates : Dominates J (path_at by) path

-- and no member with a lesser id does
pub record IsLeastDominator (J : Orbit) (path_at : ℕ → List ℕ) (members : List Member) (path : List ℕ) (by : ℕ) : Type 0 where
  pub dominator : IsDominator J path_at members path by
  pub least : (k : ℕ) → has k (ids_of members) ≡ true → Dominates J (path_at k) path → by ≤ k

-- the path dominates that of the member
abbrev pub IsBeaten : Orbit → (ℕ → List ℕ) → List ℕ → Member → Type 0
IsBeaten J path_at path m = Dominates J path (path_at m.id)

-- and doesn't
abbrev pub IsUnbeaten : Orbit → (ℕ → List ℕ) → List ℕ → Member → Type 0
IsUnbeaten J path_at path m = ¬ Dominates J path (path_at m.id)

-- Members parted in two lists, each in their order: P holds of those of the first, and Q of those of the second.
pub data Parted (P Q : Member → Type 0) : List Member → List Member → List Member → Type 0 where
  nil : Parted P Q [] [] []
  gone : {m : Member} {ms gs ks : List Member} → P m → Parted P Q ms gs ks → Parted P Q (m ∷ ms) (m ∷ gs) ks
  kept : {m : Member} {ms gs ks : List Member} → Q m → Parted P Q ms gs ks → Parted P Q (m ∷ ms) gs (m ∷ ks)

-- the members of which P holds are gone, those of which Q holds stay in their order, and there are no others
pub record Leaves (P Q : Member → Type 0) (members rest : List Member) : Type 0 where
  pub gone : List Member
  pub parted : Parted P Q members gone rest

-- The members of which P holds are gone, those of which Q holds stay in their order, and there are no others; the ids of those
-- that are gone were added to a list, in their order.
pub record TakesOut (P Q : Member → Type 0) (members rest : List Member) (ids more : List ℕ) : Type 0 where
  pub gone : List Member
  pub parted : Parted P Q members gone rest
  pub added : more ≡ ids ++ ids_of gone

-- the members were those of two lists, one after the other, and the new one stands between them
pub record IsInserted (m : Member) (members more : List Member) : Type 0 where
  pub front : List Member
  pub back : List Member
  pub old : members ≡ front ++ back
  pub new : more ≡ front ++ m ∷ back
