-- Searches along the members that start no later than a label.
use Rattle.std.proofs.Common.{◌≡◌, ℕ, ◌<◌, ◌≤◌, true, List, [], ◌∷◌, length, take, get_or, min, sym, ◌∙◌, ap, subst, inl, inr, arith}
use Rattle.std.proofs.lemmas.Bool.{cases_lt}
use Rattle.std.proofs.lemmas.List.{length-take, get_or-take}
use Rattle.std.specs.List.{All}
use Rattle.std.specs.Prelude.{Option, Some, None, MatchOption}
use Rattle.antichain.proofs.Judgements.{denied_later}
use Rattle.antichain.proofs.Parts.{member_with}
use Rattle.antichain.specs.Antichains.{ids_of, IsMemberOf, NoneDominates, IsDominator, IsLeastDominator}
use Rattle.antichain.specs.Judging.{Accepted, Refused, IsFoundAmong, IsLeastAmong}
use Rattle.antichain.specs.declared.member.Member.{Member}
use Rattle.label.specs.Outlines.{IsOutlineOf}
use Rattle.label.specs.declared.outline.Outline.{Outline}
use Rattle.strip_model.proofs.Words.{has-element}
use Rattle.strip_model.specs.Directed.{has}
use Rattle.strip_model.specs.Dominance.{Dominates}
use Rattle.strip_model.specs.LabelPath.{LabelPath}
use Rattle.strip_model.specs.Side.{Face}

-- some member, where there are any
some_member : (ms : List Member) (k : ℕ) → k < length ms → Member
some_member [] k l = absurd (omega arith)
some_member (m ∷ ms) k l = m

-- what holds of the first n members and of those after them holds of all
pub All-both : (R : Member → Type 0) (ms : List Member) (n : ℕ) → All R (take n ms)
    → ((k : ℕ) (d : Member) → n ≤ k → k < length ms → R (get_or ms k d)) → All R ms
All-both R ms n front rest k d l = elim (cases_lt k n) [
  | inl sooner ↦
      let size : length (take n ms) ≡ min n (length ms) = length-take n ms in
      subst R (get_or-take n ms k d sooner) (front k d (omega arith))
  | inr later ↦ rest k d later l
]

module _ (S : Face) (outline : Outline) (members : List Member) (n : ℕ)
    (later : (k : ℕ) (d : Member) → n ≤ k → k < length members → outline.start < (get_or members k d).outline.start) where
  -- what starts later doesn't dominate
  refused-all : All (Refused S outline) (take n members) → All (Refused S outline) members
  refused-all front = All-both (Refused S outline) members n front (λ k d le l. denied_later S (get_or members k d).outline outline (later k d le l))

  module _ (path_at : ℕ → List ℕ) (path : List ℕ) (sound : All (IsMemberOf S path_at) members) (is : LabelPath S path) (of : IsOutlineOf S outline path) where
    none : All (Refused S outline) (take n members) → NoneDominates S.instance path_at members path
    none front k h dom =
        let found = member_with (λ (m : Member). IsMemberOf S path_at m × Refused S outline m) members k (λ i d l. (sound i d l, refused-all front i d l)) h in
        found.2.1 (path_at found.0.id) path found.2.0.path is found.2.0.outline of
        (subst (λ (j : ℕ). Dominates S.instance (path_at j) path) (sym found.1) dom)

    found-all : (id : ℕ) → IsFoundAmong S outline (take n members) id → IsDominator S.instance path_at members path id
    found-all id f =
        let size : length (take n members) ≡ min n (length members) = length-take n members in
        let there = f.there in
        let front : f.at < n = omega arith in
        let inside : f.at < length members = omega arith in
        let d : Member = some_member members f.at inside in
        let same : get_or (take n members) f.at d ≡ get_or members f.at d = get_or-take n members f.at d front in
        let is_id : (get_or members f.at d).id ≡ id = ap (λ (m : Member). m.id) (sym same) ∙ f.is d in
        let member : IsMemberOf S path_at (get_or members f.at d) = sound f.at d inside in
        record {
          there = subst (λ (j : ℕ). has j (ids_of members) ≡ true) is_id (has-element (λ (m : Member). m.id) members f.at d inside);
          dominates =
              subst (λ (j : ℕ). Dominates S.instance (path_at j) path) is_id
              (subst (λ (m : Member). Accepted S outline m) same (f.accepted d)
              (path_at (get_or members f.at d).id) path member.path is member.outline of);
        }

    least-all : (id : ℕ) → IsLeastAmong S outline (take n members) id → IsLeastDominator S.instance path_at members path id
    least-all id f =
        let R : Member → Type 0 = λ m. m.id < id → Refused S outline m in
        let all : All R members =
        All-both R members n f.least (λ k d le l small. denied_later S (get_or members k d).outline outline (later k d le l)) in
        record {
          dominator = found-all id f.found;
          least =
              λ k h dom. elim (cases_lt k id) [
                | inl small ↦
                    let found = member_with (λ (m : Member). IsMemberOf S path_at m × R m) members k (λ i d l. (sound i d l, all i d l)) h in
                    let is_k : found.0.id ≡ k = found.1 in
                    absurd (found.2.1 (omega arith) (path_at found.0.id) path found.2.0.path is found.2.0.outline of
                    (subst (λ (j : ℕ). Dominates S.instance (path_at j) path) (sym found.1) dom))
                | inr le ↦ le
              ];
        }

    nearest-front : (result : Option ℕ) → MatchOption result (All (Refused S outline) (take n members)) (IsFoundAmong S outline (take n members))
        → MatchOption result (NoneDominates S.instance path_at members path) (IsDominator S.instance path_at members path)
    nearest-front None front = none front
    nearest-front (Some id) found = found-all id found

    -- the front was searched
    pub nearest-tells : (xs : List Member) → xs ≡ take n members → (result : Option ℕ)
        → MatchOption result (All (Refused S outline) xs) (IsFoundAmong S outline xs)
        → MatchOption result (NoneDominates S.instance path_at members path) (IsDominator S.instance path_at members path)
    nearest-tells xs front result h =
        nearest-front result (subst (λ (ms : List Member). MatchOption result (All (Refused S outline) ms) (IsFoundAmong S outline ms)) front h)

    least-front : (result : Option ℕ) → MatchOption result (All (Refused S outline) (take n members)) (IsLeastAmong S outline (take n members))
        → MatchOption result (NoneDominates S.instance path_at members path) (IsLeastDominator S.instance path_at members path)
    least-front None front = none front
    least-front (Some id) found = least-all id found

    pub least-tells : (xs : List Member) → xs ≡ take n members → (result : Option ℕ)
        → MatchOption result (All (Refused S outline) xs) (IsLeastAmong S outline xs)
        → MatchOption result (NoneDominates S.instance path_at members path) (IsLeastDominator S.instance path_at members path)
    least-tells xs front result h =
        least-front result (subst (λ (ms : List Member). MatchOption result (All (Refused S outline) ms) (IsLeastAmong S outline ms)) front h)
