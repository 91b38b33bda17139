-- One label retires others, one after another.
use Rattle.std.proofs.Common.{◌≡◌, ℕ, ◌+◌, ◌<◌, true, List, [], ◌∷◌, ◌++◌, length, take, drop, get_or, sym, ap, ◌∙◌, subst, append_assoc, arith}
use Rattle.std.proofs.lemmas.List.{drop_more, map_more}
use Rattle.std.specs.List.Sorted.{IsStrictlyIncreasing}
use Rattle.bucket.proofs.Replays.{replay-append}
use Rattle.bucket.specs.Buckets.{Bin, held_in, grown, retirements}
use Rattle.bucket.specs.Histories.{Step, CanRetire}
use Rattle.bucket.specs.Histories.Step.{Retires}
use Rattle.bucket.specs.Stores.{AreRetirable}
use Rattle.label_list.proofs.Labels.{IsLive-other, path_of-with_state}
use Rattle.label_list.specs.Labels.{Held, path_of, with_state}
use Rattle.label_list.specs.declared.state.State.TheVariants.{Retired}
use Rattle.strip_model.proofs.Words.{has_head, has_tail}
use Rattle.strip_model.specs.Directed.{has}
use Rattle.strip_model.specs.Dominance.{Dominates}
use Rattle.strip_model.specs.Side.{Face}
use Rattle.strip_set.proofs.Members.{above_head, rises-tail}

-- a label that can be retired can still be so after another was
CanRetire-later : (S : Face) (hs : List Held) (x k by : ℕ) → x < k → CanRetire S hs x by → CanRetire S hs k by
    → CanRetire S (with_state hs x (Retired by)) k by
CanRetire-later S hs x k by lower first c =
    let same : path_of (with_state hs x (Retired by)) by ≡ path_of hs by = path_of-with_state hs x by (Retired by) in
    let same_k : path_of (with_state hs x (Retired by)) k ≡ path_of hs k = path_of-with_state hs x k (Retired by) in
    record {
      live = IsLive-other hs x k (Retired by) (λ e. absurd (omega arith)) c.live;
      by_live = IsLive-other hs x by (Retired by) (λ e. first.differ (sym e)) c.by_live;
      differ = c.differ;
      dominated =
          subst (λ (b : List ℕ). Dominates S.instance b (path_of (with_state hs x (Retired by)) k)) (sym same)
          (subst (λ (a : List ℕ). Dominates S.instance (path_of hs by) a) (sym same_k) c.dominated);
    }

-- labels in rising order, each of which can be retired, can be so one after another
pub AreRetirable-rising : (S : Face) (hs : List Held) (by : ℕ) (ids : List ℕ) → IsStrictlyIncreasing ids
    → ((k : ℕ) → has k ids ≡ true → CanRetire S hs k by) → AreRetirable S hs by ids
AreRetirable-rising S hs by [] r can = tt
AreRetirable-rising S hs by (x ∷ ids) r can = (
  can x (has_head x ids),
  AreRetirable-rising S (with_state hs x (Retired by)) by ids (rises-tail x ids r)
      (λ k h. CanRetire-later S hs x k by (above_head x k ids r h) (can x (has_head x ids)) (can k (has_tail k x ids h))),
)

-- ---- one after another

-- the next one is retired: the others still can be
pub AreRetirable-next : (b c : Bin) (by : ℕ) (ids : List ℕ) (i k : ℕ) → i < length ids → k ≡ get_or ids i 0 → c ≡ grown b (Retires k by ∷ [])
    → AreRetirable b.side (held_in b) by (drop i ids) → AreRetirable c.side (held_in c) by (drop (i + 1) ids)
AreRetirable-next b c by ids i k there is grows can =
    let split : drop i ids ≡ k ∷ drop (i + 1) ids = drop_more ids i 0 there ∙ ap (λ (j : ℕ). j ∷ drop (i + 1) ids) (sym is) in
    let rest : AreRetirable b.side (with_state (held_in b) k (Retired by)) by (drop (i + 1) ids)
    = (subst (λ (ks : List ℕ). AreRetirable b.side (held_in b) by ks) split can).1 in
    let side : c.side ≡ b.side = ap (λ (d : Bin). d.side) grows in
    let held : held_in c ≡ with_state (held_in b) k (Retired by) = ap held_in grows ∙ replay-append b.history (Retires k by ∷ []) in
    subst (λ (S : Face). AreRetirable S (held_in c) by (drop (i + 1) ids)) (sym side)
    (subst (λ (hs : List Held). AreRetirable b.side hs by (drop (i + 1) ids)) (sym held) rest)

-- the entries so far
pub grown-next : (a b c : Bin) (by : ℕ) (ids : List ℕ) (i k : ℕ) → i < length ids → k ≡ get_or ids i 0 → b ≡ grown a (retirements by (take i ids))
    → c ≡ grown b (Retires k by ∷ []) → c ≡ grown a (retirements by (take (i + 1) ids))
grown-next a b c by ids i k there is so_far grows =
    grows
    ∙ ap (λ (d : Bin). grown d (Retires k by ∷ [])) so_far
    ∙ ap (λ (es : List Step). record { side = a.side; number = a.number; history = es })
    (append_assoc a.history (retirements by (take i ids)) (Retires k by ∷ [])
    ∙ ap (λ (es : List Step). a.history ++ es)
    (ap (λ (j : ℕ). retirements by (take i ids) ++ Retires j by ∷ []) is ∙ sym (map_more (λ j. Retires j by) ids i 0 there)))
