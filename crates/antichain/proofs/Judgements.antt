-- What outlines tell of dominance.
use Rattle.std.proofs.Common.{ℕ, ◌<◌, ◌≤◌, Bool, false, true, List, refl, sym, subst, true≢false, arith}
use Rattle.std.specs.Prelude.{◌↔◌, IsTrue}
use Rattle.label.proofs.Outlines.{IsOutline, Dominates-start}
use Rattle.label.specs.Outlines.{IsOutlineOf}
use Rattle.label.specs.declared.outline.Outline.{Outline}
use Rattle.std.specs.List.{All}
use Rattle.antichain.proofs.Parts.{Parted-weaker}
use Rattle.antichain.specs.Antichains.{IsMemberOf, IsBeaten, IsUnbeaten, TakesOut}
use Rattle.antichain.specs.Judging.{Granted, Denied, Beaten, Unbeaten}
use Rattle.antichain.specs.declared.member.Member.{Member}
use Rattle.strip_model.specs.Dominance.{Dominates}
use Rattle.strip_model.specs.LabelPath.{LabelPath}
use Rattle.strip_model.specs.Reach.{bound}
use Rattle.strip_model.specs.Side.{Face}

-- what the test of two outlines says
abbrev pub Judged : Face → Outline → Outline → Bool → Type 0
Judged S b a t =
    (path_b path_a : List ℕ) → LabelPath S path_b → LabelPath S path_a → IsOutlineOf S b path_b → IsOutlineOf S a path_a
    → (IsTrue t ↔ Dominates S.instance path_b path_a)

pub granted : (S : Face) (b a : Outline) → Judged S b a true → Granted S b a
granted S b a says path_b path_a is_b is_a of_b of_a = (says path_b path_a is_b is_a of_b of_a).0 refl

pub denied : (S : Face) (b a : Outline) → Judged S b a false → Denied S b a
denied S b a says path_b path_a is_b is_a of_b of_a dom = true≢false (sym ((says path_b path_a is_b is_a of_b of_a).1 dom))

-- a label that starts later doesn't dominate
pub denied_later : (S : Face) (b a : Outline) → a.start < b.start → Denied S b a
denied_later S b a later path_b path_a is_b is_a of_b of_a dom =
    let ob : IsOutline S.instance path_b b.start b.last b.visited b.needs = record { in_time = is_b.in_time; at = of_b.at; visited = of_b.visited; needed = of_b.needs } in
    let oa : IsOutline S.instance path_a a.start a.last a.visited a.needs = record { in_time = is_a.in_time; at = of_a.at; visited = of_a.visited; needed = of_a.needs } in
    let sooner : b.start ≤ a.start = Dominates-start S.instance path_b path_a b.start b.last a.start a.last b.visited b.needs a.visited a.needs ob oa dom in
    omega arith

-- what outlines tell of the members that are gone holds of their paths
pub beaten-tells : (S : Face) (outline : Outline) (path_at : ℕ → List ℕ) (path : List ℕ) (ms rest : List Member) (ids more : List ℕ)
    → All (IsMemberOf S path_at) ms → LabelPath S path → IsOutlineOf S outline path → TakesOut (Beaten S outline) (Unbeaten S outline) ms rest ids more
    → TakesOut (IsBeaten S.instance path_at path) (IsUnbeaten S.instance path_at path) ms rest ids more
beaten-tells S outline path_at path ms rest ids more sound is of t = record {
  gone = t.gone;
  parted =
      Parted-weaker (Beaten S outline) (Unbeaten S outline) (IsMemberOf S path_at) (IsBeaten S.instance path_at path) (IsUnbeaten S.instance path_at path)
      (λ m member beats. beats path (path_at m.id) is member.path of member.outline)
      (λ m member not_so. not_so path (path_at m.id) is member.path of member.outline)
      sound t.parted;
  added = t.added;
}

-- and what members' bounds tell is said of their paths
pub pruned-tells : (S : Face) (path_at : ℕ → List ℕ) (gain : ℕ) (ms rest : List Member) (ids more : List ℕ) → All (IsMemberOf S path_at) ms
    → TakesOut (λ (m : Member). m.outline.bound ≤ gain) (λ (m : Member). gain < m.outline.bound) ms rest ids more
    → TakesOut (λ (m : Member). bound S.instance (path_at m.id) ≤ gain) (λ (m : Member). gain < bound S.instance (path_at m.id)) ms rest ids more
pruned-tells S path_at gain ms rest ids more sound t = record {
  gone = t.gone;
  parted =
      Parted-weaker (λ (m : Member). m.outline.bound ≤ gain) (λ (m : Member). gain < m.outline.bound) (IsMemberOf S path_at)
      (λ (m : Member). bound S.instance (path_at m.id) ≤ gain) (λ (m : Member). gain < bound S.instance (path_at m.id))
      (λ m member low. subst (λ (b : ℕ). b ≤ gain) member.outline.bound low)
      (λ m member high. subst (λ (b : ℕ). gain < b) member.outline.bound high)
      sound t.parted;
  added = t.added;
}
