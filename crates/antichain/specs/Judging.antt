-- What outlines tell of dominance, whatever their paths are.
use Rattle.std.specs.Prelude.{◌≡◌, ℕ, ◌<◌, nat_lt, Bool, true, List, length, slice_index_or, Option, Some, None}
use Rattle.std.specs.List.{All}
use Rattle.antichain.specs.declared.member.Member.{Member}
use Rattle.label.specs.Outlines.{IsOutlineOf}
use Rattle.label.specs.declared.outline.Outline.{Outline}
use Rattle.strip_model.specs.Dominance.{Dominates}
use Rattle.strip_model.specs.LabelPath.{LabelPath}
use Rattle.strip_model.specs.Side.{Face}

-- a fact of the orbit and of two paths that have these outlines
abbrev pub Tells : Face → Outline → Outline → (List ℕ → List ℕ → Type 0) → Type 0
Tells S b a Fact =
    (path_b path_a : List ℕ) → LabelPath S path_b → LabelPath S path_a → IsOutlineOf S b path_b → IsOutlineOf S a path_a → Fact path_b path_a

-- a label of the first outline dominates one of the second
abbrev pub Granted : Face → Outline → Outline → Type 0
Granted S b a = Tells S b a (λ path_b path_a. Dominates S.instance path_b path_a)

-- and doesn't
abbrev pub Denied : Face → Outline → Outline → Type 0
Denied S b a = Tells S b a (λ path_b path_a. ¬ Dominates S.instance path_b path_a)

-- the member dominates the label of the outline
abbrev pub Accepted : Face → Outline → Member → Type 0
Accepted S outline m = Granted S m.outline outline

-- and doesn't
abbrev pub Refused : Face → Outline → Member → Type 0
Refused S outline m = Denied S m.outline outline

-- the label of the outline dominates the member
abbrev pub Beaten : Face → Outline → Member → Type 0
Beaten S outline m = Granted S outline m.outline

-- and doesn't
abbrev pub Unbeaten : Face → Outline → Member → Type 0
Unbeaten S outline m = Denied S outline m.outline

-- this is the id of one of the members, which dominates the label of the outline
pub record IsFoundAmong (S : Face) (outline : Outline) (members : List Member) (id : ℕ) : Type 0 where
  pub at : ℕ
  pub there : at < length members
  pub is : (d : Member) → (slice_index_or members at d).id ≡ id
  pub accepted : (d : Member) → Accepted S outline (slice_index_or members at d)

-- and none with a lesser id does
pub record IsLeastAmong (S : Face) (outline : Outline) (members : List Member) (id : ℕ) : Type 0 where
  pub found : IsFoundAmong S outline members id
  pub least : All (λ (m : Member). m.id < id → Refused S outline m) members

-- whether an id is less than the one that there may be
abbrev pub is_less_than : ℕ → Option ℕ → Bool
is_less_than id None = true
is_less_than id (Some other) = nat_lt id other
