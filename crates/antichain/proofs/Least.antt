-- The least of the members so far that dominate a label.
use Rattle.std.proofs.Common.{◌≡◌, ℕ, ◌+◌, ◌<◌, ◌≤◌, true, false, List, length, take, min, get_or, sym, ◌∙◌, ap, subst, true≢false, arith}
use Rattle.std.proofs.lemmas.Bool.{ltb-true, ltb-false}
use Rattle.std.proofs.lemmas.List.{length-take, get_or-take, get_or_read}
use Rattle.std.proofs.lemmas.List.Elements.{All-nil, All-more}
use Rattle.std.specs.List.{All}
use Rattle.std.specs.Prelude.{Option, Some, None, MatchOption}
use Rattle.antichain.specs.Judging.{Accepted, Refused, IsFoundAmong, IsLeastAmong, is_less_than}
use Rattle.antichain.specs.declared.member.Member.{Member}
use Rattle.label.specs.declared.outline.Outline.{Outline}
use Rattle.strip_model.specs.Side.{Face}

-- among the first i members
abbrev pub LeastSoFar : Face → Outline → List Member → ℕ → Option ℕ → Type 0
LeastSoFar S outline ms i least = MatchOption least (All (Refused S outline) (take i ms)) (IsLeastAmong S outline (take i ms))

module _ (S : Face) (outline : Outline) (ms : List Member) where
  pub least-start : LeastSoFar S outline ms 0 None
  least-start = All-nil (Refused S outline)

  pub least-end : (i : ℕ) (least : Option ℕ) → take i ms ≡ ms → LeastSoFar S outline ms i least
      → MatchOption least (All (Refused S outline) ms) (IsLeastAmong S outline ms)
  least-end i least whole h =
      subst (λ (xs : List Member). MatchOption least (All (Refused S outline) xs) (IsLeastAmong S outline xs)) whole h

  module _ (i : ℕ) (m : Member) (there : i < length ms) (is : m ≡ get_or ms i m) where
    found-still : (id : ℕ) → IsFoundAmong S outline (take i ms) id → IsFoundAmong S outline (take (i + 1) ms) id
    found-still id f =
        let size : length (take i ms) ≡ min i (length ms) = length-take i ms in
        let more : length (take (i + 1) ms) ≡ min (i + 1) (length ms) = length-take (i + 1) ms in
        let at = f.there in
        let same : (d : Member) → get_or (take i ms) f.at d ≡ get_or (take (i + 1) ms) f.at d =
        λ d. get_or-take i ms f.at d (omega arith) ∙ sym (get_or-take (i + 1) ms f.at d (omega arith)) in
        record {
          at = f.at;
          there = omega arith;
          is = λ d. ap (λ (n : Member). n.id) (sym (same d)) ∙ f.is d;
          accepted = λ d. subst (λ (n : Member). Accepted S outline n) (same d) (f.accepted d);
        }

    all-more : (P : Member → Type 0) → All P (take i ms) → P m → All P (take (i + 1) ms)
    all-more P all p = All-more P ms i m there all (subst P is p)

    -- its id isn't less
    pub least-skip : (least : Option ℕ) → is_less_than m.id least ≡ false → LeastSoFar S outline ms i least → LeastSoFar S outline ms (i + 1) least
    least-skip None refuses h = absurd (true≢false refuses)
    least-skip (Some id) refuses h =
        let no_less : id ≤ m.id = ltb-false m.id id refuses in
        record {
          found = found-still id h.found;
          least = all-more (λ (n : Member). n.id < id → Refused S outline n) h.least (λ small. absurd (omega arith));
        }

    -- it doesn't dominate
    pub least-refused : (least : Option ℕ) → Refused S outline m → LeastSoFar S outline ms i least → LeastSoFar S outline ms (i + 1) least
    least-refused None refuses h = all-more (Refused S outline) h refuses
    least-refused (Some id) refuses h = record {
      found = found-still id h.found;
      least = all-more (λ (n : Member). n.id < id → Refused S outline n) h.least (λ small. refuses);
    }

    lesser : (least : Option ℕ) → is_less_than m.id least ≡ true → LeastSoFar S outline ms i least
        → All (λ (n : Member). n.id < m.id → Refused S outline n) (take i ms)
    lesser None less_is h = λ k d l small. h k d l
    lesser (Some id) less_is h =
        let less : m.id < id = ltb-true m.id id less_is in
        λ k d l small. h.least k d l (omega arith)

    -- it dominates, and its id is less
    pub least-accepted : (least : Option ℕ) → is_less_than m.id least ≡ true → Accepted S outline m → LeastSoFar S outline ms i least
        → LeastSoFar S outline ms (i + 1) (Some m.id)
    least-accepted least less_is accepted h =
        let more : length (take (i + 1) ms) ≡ min (i + 1) (length ms) = length-take (i + 1) ms in
        let same : (d : Member) → m ≡ get_or (take (i + 1) ms) i d =
        λ d. get_or_read ms i m there is d ∙ sym (get_or-take (i + 1) ms i d (omega arith)) in
        record {
          found = record {
            at = i;
            there = omega arith;
            is = λ d. ap (λ (n : Member). n.id) (sym (same d));
            accepted = λ d. subst (λ (n : Member). Accepted S outline n) (same d) accepted;
          };
          least = all-more (λ (n : Member). n.id < m.id → Refused S outline n) (lesser least less_is h) (λ small. absurd (omega arith));
        }
