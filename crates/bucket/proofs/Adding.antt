-- A label is added, and then retired or retires others.
use Rattle.std.proofs.Common.{◌≡◌, ℕ, ◌+◌, ◌<◌, ◌≤◌, inl, inr, true, false, List, [], ◌∷◌, length, refl, sym, ap, ◌∙◌, subst, arith, Ok, append_assoc}
use Rattle.std.proofs.lemmas.Bool.{cases_Bool, false≢true, true≢false}
use Rattle.std.specs.List.{All}
use Rattle.std.specs.List.Sorted.{IsPermutation, IsSorted}
use Rattle.std.specs.Ordering.{nat_cmp}
use Rattle.std.specs.Prelude.{◌↔◌}
use Rattle.antichain.proofs.Changes.{IsAntichainOf-same}
use Rattle.antichain.specs.Antichains.{ids_of, IsAntichainOf, IsApartFrom, IsBeaten, IsInserted, IsLeastDominator, IsMemberOf, IsUnbeaten, NoneDominates, TakesOut}
use Rattle.antichain.specs.declared.member.Member.{Member}
use Rattle.bucket.proofs.Beaten.{AreThose-beaten, rest-exact}
use Rattle.bucket.proofs.Fronts.{Turns, IsFront-joined, IsFront-other}
use Rattle.bucket.proofs.Lasts.{last_of-dominates}
use Rattle.bucket.proofs.Leaving.{length-left, new-left, path-left}
use Rattle.bucket.proofs.Replays.{replay-append}
use Rattle.bucket.proofs.Retired.{IsLive-retired}
use Rattle.bucket.proofs.Retirements.{AreRetirable-rising}
use Rattle.bucket.proofs.Stores.{with_new}
use Rattle.bucket.proofs.Turning.{Turns-retired}
use Rattle.bucket.specs.Buckets.{Bin, held_in, grown, retirements, Above, Below, AreThose, IsDominator, Inserting}
use Rattle.bucket.specs.Fronts.{EndsWith, IsFront}
use Rattle.bucket.specs.Histories.{Step, after_all, CanRetire}
use Rattle.bucket.specs.Histories.Step.{Inserts, Retires}
use Rattle.bucket.specs.Stores.{AreRetirable}
use Rattle.bucket.specs.declared.answers.Inserted.TheVariants.{Dominated, Live}
use Rattle.label.specs.Outlines.{IsOutlineOf}
use Rattle.label.specs.declared.outline.Outline.{Outline}
use Rattle.label_list.proofs.Labels.{IsLive-old, held_at-new, held_at-old, length-push}
use Rattle.label_list.specs.Labels.{Held, IsLive, is_live, last_of, path_of, state_of}
use Rattle.label_list.specs.declared.state.State.TheVariants.{Waiting}
use Rattle.strip_model.proofs.Words.{has_cons_cases, has_head}
use Rattle.strip_model.specs.Directed.{has}
use Rattle.strip_model.specs.Dominance.{Dominates}
use Rattle.strip_model.specs.LabelPath.{LabelPath}
use Rattle.strip_model.specs.Side.{Face}

-- ---- who dominates the label, by its antichain

-- a live label that dominates the path stands in the antichain
above-there : (S : Face) (hs : List Held) (path : List ℕ) (ms : List Member) (k : ℕ) → IsFront S hs (last_of path) ms → Above S hs path k
    → has k (ids_of ms) ≡ true
above-there S hs path ms k f a = f.complete k (record { live = a.live; ends = last_of-dominates S.instance (path_of hs k) path a.dominates })

pub none_above-front : (S : Face) (hs : List Held) (path : List ℕ) (ms : List Member) → IsFront S hs (last_of path) ms
    → NoneDominates S.instance (λ k. path_of hs k) ms path → (k : ℕ) → ¬ Above S hs path k
none_above-front S hs path ms f none k a = none k (above-there S hs path ms k f a) a.dominates

pub dominator-front : (S : Face) (hs : List Held) (path : List ℕ) (ms : List Member) (by : ℕ) → IsFront S hs (last_of path) ms
    → IsLeastDominator S.instance (λ k. path_of hs k) ms path by → IsDominator S hs path by
dominator-front S hs path ms by f d = record {
  above = record { live = (f.sound by d.dominator.there).live; dominates = d.dominator.dominates };
  least = λ k lower a. let least : by ≤ k = d.least k (above-there S hs path ms k f a) a.dominates in absurd (omega arith);
}

-- the same of what is told by outlines, on the side T
pub none-found : (S T : Face) (hs : List Held) (path : List ℕ) (ms : List Member) (outline : Outline) → T ≡ S → IsFront S hs (last_of path) ms
    → LabelPath S path → IsOutlineOf S outline path
    → ((path_at : ℕ → List ℕ) (p : List ℕ) → All (IsMemberOf T path_at) ms → LabelPath T p → IsOutlineOf T outline p
    → NoneDominates T.instance path_at ms p) → (k : ℕ) → ¬ Above S hs path k
none-found S T hs path ms outline same f p o found =
    none_above-front S hs path ms f (subst (λ (U : Face). (path_at : ℕ → List ℕ) (q : List ℕ) → All (IsMemberOf U path_at) ms → LabelPath U q
    → IsOutlineOf U outline q → NoneDominates U.instance path_at ms q) same found (λ k. path_of hs k) path f.antichain.sound p o)

pub dominator-found : (S T : Face) (hs : List Held) (path : List ℕ) (ms : List Member) (by : ℕ) (outline : Outline) → T ≡ S
    → IsFront S hs (last_of path) ms → LabelPath S path → IsOutlineOf S outline path
    → ((path_at : ℕ → List ℕ) (p : List ℕ) → All (IsMemberOf T path_at) ms → LabelPath T p → IsOutlineOf T outline p
    → IsLeastDominator T.instance path_at ms p by) → IsDominator S hs path by
dominator-found S T hs path ms by outline same f p o found =
    dominator-front S hs path ms by f (subst (λ (U : Face). (path_at : ℕ → List ℕ) (q : List ℕ) → All (IsMemberOf U path_at) ms → LabelPath U q
    → IsOutlineOf U outline q → IsLeastDominator U.instance path_at ms q by) same found (λ k. path_of hs k) path f.antichain.sound p o)

-- What is known once those are out that the label dominates: they are these, and the others are left.
pub record Beats (S : Face) (hs : List Held) (path : List ℕ) (ms rest : List Member) (ids : List ℕ) : Type 0 where
  pub those : AreThose (Below S hs path) (length hs) ids
  pub exact : (k : ℕ) → (has k (ids_of rest) ≡ true) ↔ ((has k (ids_of ms) ≡ true) × (has k ids ≡ false))
  pub antichain : IsAntichainOf S (λ k. path_of hs k) rest

Beats-out : (S : Face) (hs : List Held) (path : List ℕ) (ms rest : List Member) (more ids : List ℕ) → IsFront S hs (last_of path) ms
    → TakesOut (IsBeaten S.instance (λ k. path_of hs k) path) (IsUnbeaten S.instance (λ k. path_of hs k) path) ms rest [] more
    → IsAntichainOf S (λ k. path_of hs k) rest → IsPermutation more ids → IsSorted nat_cmp ids → Beats S hs path ms rest ids
Beats-out S hs path ms rest more ids f t a moved sorted = record {
  those = AreThose-beaten S hs path (last_of path) ms rest more ids f refl t moved sorted;
  exact = rest-exact S hs path (last_of path) ms rest more ids f refl t moved sorted;
  antichain = a;
}

-- what was told by outlines, on the side T
abbrev Out : Face → Outline → List Member → List Member → List ℕ → List ℕ → Type 0
Out T outline ns rest none more = (path_at : ℕ → List ℕ) (p : List ℕ) → All (IsMemberOf T path_at) ns → LabelPath T p → IsOutlineOf T outline p
    → TakesOut (IsBeaten T.instance path_at p) (IsUnbeaten T.instance path_at p) ns rest none more

pub beats : (S T : Face) (hs : List Held) (path : List ℕ) (ms ns rest : List Member) (none more ids : List ℕ) (outline : Outline)
    → T ≡ S → ns ≡ ms → none ≡ [] → IsFront S hs (last_of path) ms → LabelPath S path → IsOutlineOf S outline path → Out T outline ns rest none more
    → ((U : Face) (path_at : ℕ → List ℕ) → IsAntichainOf U path_at ns → IsAntichainOf U path_at rest) → IsPermutation more ids → IsSorted nat_cmp ids
    → Beats S hs path ms rest ids
beats S T hs path ms ns rest none more ids outline same_side same no_ids f p o out kept moved sorted =
    let told : Out S outline ms rest [] more
    = subst (λ (U : Face). Out U outline ms rest [] more) same_side
    (subst (λ (ls : List Member). Out T outline ls rest [] more) same
    (subst (λ (js : List ℕ). Out T outline ns rest js more) no_ids out)) in
    Beats-out S hs path ms rest more ids f (told (λ k. path_of hs k) path f.antichain.sound p o)
    (kept S (λ k. path_of hs k) (subst (λ (ls : List Member). IsAntichainOf S (λ k. path_of hs k) ls) (sym same) f.antichain)) moved sorted

-- ---- the labels with the new one

module _ (S : Face) (hs : List Held) (path : List ℕ) (id : ℕ) (next : id ≡ length hs) where
  path-new : path_of (with_new hs path) id ≡ path
  path-new =
      ap (λ (j : ℕ). path_of (with_new hs path) j) next
      ∙ ap (λ (h : Held). h.path) (held_at-new hs (record { path = path; state = Waiting }))

  path-old : (k : ℕ) → k < length hs → path_of (with_new hs path) k ≡ path_of hs k
  path-old k there = ap (λ (h : Held). h.path) (held_at-old hs (record { path = path; state = Waiting }) k there)

  IsLive-new : IsLive (with_new hs path) id
  IsLive-new = record {
    there = let size : length (with_new hs path) ≡ length hs + 1 = length-push hs (record { path = path; state = Waiting }) in omega arith;
    live =
        ap (λ (j : ℕ). is_live (state_of (with_new hs path) j)) next
        ∙ ap (λ (h : Held). is_live h.state) (held_at-new hs (record { path = path; state = Waiting }));
  }

  -- what dominates it can retire it
  CanRetire-new : (by : ℕ) → Above S hs path by → CanRetire S (with_new hs path) id by
  CanRetire-new by a =
      let there : by < length hs = a.live.there in
      record {
        live = IsLive-new;
        by_live = IsLive-old hs (record { path = path; state = Waiting }) by a.live;
        differ = λ same. absurd (omega arith);
        dominated =
            subst (λ (b : List ℕ). Dominates S.instance b (path_of (with_new hs path) id)) (sym (path-old by there))
            (subst (λ (p : List ℕ). Dominates S.instance (path_of hs by) p) (sym path-new) a.dominates);
      }

  -- it can retire what it dominates
  CanRetire-below : (k : ℕ) → Below S hs path k → CanRetire S (with_new hs path) k id
  CanRetire-below k b =
      let there : k < length hs = b.live.there in
      record {
        live = IsLive-old hs (record { path = path; state = Waiting }) k b.live;
        by_live = IsLive-new;
        differ = λ same. absurd (omega arith);
        dominated =
            subst (λ (p : List ℕ). Dominates S.instance p (path_of (with_new hs path) k)) (sym path-new)
            (subst (λ (p : List ℕ). Dominates S.instance path p) (sym (path-old k there)) b.dominated);
      }

  AreRetirable-new : (ids : List ℕ) → AreThose (Below S hs path) (length hs) ids → AreRetirable S (with_new hs path) id ids
  AreRetirable-new ids those = AreRetirable-rising S (with_new hs path) id ids those.rising (λ k h. CanRetire-below k (those.hold k h))

-- ---- the bucket with the new one

module _ (old mid : Bin) (path : List ℕ) (id : ℕ) (next : id ≡ length (held_in old)) (e : mid ≡ grown old (Inserts id path ∷ [])) where
  pub side_added : mid.side ≡ old.side
  side_added = ap (λ (b : Bin). b.side) e

  pub held_added : held_in mid ≡ with_new (held_in old) path
  held_added = ap held_in e ∙ replay-append old.history (Inserts id path ∷ [])

  pub CanRetire-added : (by : ℕ) → Above old.side (held_in old) path by → CanRetire mid.side (held_in mid) id by
  CanRetire-added by a = rw (side_added, held_added) (CanRetire-new old.side (held_in old) path id next by a)

  pub AreRetirable-added : (ids : List ℕ) → AreThose (Below old.side (held_in old) path) (length (held_in old)) ids
      → AreRetirable mid.side (held_in mid) id ids
  AreRetirable-added ids those = rw (side_added, held_added) (AreRetirable-new old.side (held_in old) path id next ids those)

  -- and then after more entries
  grown-added : (new : Bin) (steps : List Step) → new ≡ grown mid steps → new ≡ grown old (Inserts id path ∷ steps)
  grown-added new steps grows =
      grows
      ∙ ap (λ (b : Bin). grown b steps) e
      ∙ ap (λ (es : List Step). record { side = old.side; number = old.number; history = es })
      (append_assoc old.history (Inserts id path ∷ []) steps)

  pub held_after : (new : Bin) (steps : List Step) → new ≡ grown mid steps → held_in new ≡ after_all (with_new (held_in old) path) steps
  held_after new steps grows = ap held_in (grown-added new steps grows) ∙ replay-append old.history (Inserts id path ∷ steps)

  pub side_after : (new : Bin) (steps : List Step) → new ≡ grown mid steps → new.side ≡ old.side
  side_after new steps grows = ap (λ (b : Bin). b.side) (grown-added new steps grows)

  -- its dominator retired it
  pub Inserting-dominated : (new : Bin) (by : ℕ) → new ≡ grown mid (Retires id by ∷ []) → IsDominator old.side (held_in old) path by
      → Inserting old new path (Ok (Dominated id by))
  Inserting-dominated new by grows d = record {
    steps = Inserts id path ∷ Retires id by ∷ [];
    answer = record { next = next; dominator = d; steps_are = refl };
    grows = grown-added new (Retires id by ∷ []) grows;
  }

  -- it retired those that it dominates
  pub Inserting-live : (new : Bin) (retired : ℕ) (ids : List ℕ) → new ≡ grown mid (retirements id ids)
      → ((k : ℕ) → ¬ Above old.side (held_in old) path k) → AreThose (Below old.side (held_in old) path) (length (held_in old)) ids
      → retired ≡ length ids → Inserting old new path (Ok (Live id retired))
  Inserting-live new retired ids grows none_above those count = record {
    steps = Inserts id path ∷ retirements id ids;
    answer = record { next = next; none_above = none_above; ids = ids; those = those; count = count; steps_are = refl };
    grows = grown-added new (retirements id ids) grows;
  }

-- ---- its antichain

-- the label was retired at once: its antichain stays
pub IsFront-dominated : (S : Face) (hs : List Held) (path : List ℕ) (id by x : ℕ) (ms : List Member) → id ≡ length hs → IsFront S hs x ms
    → IsFront S (after_all (with_new hs path) (Retires id by ∷ [])) x ms
IsFront-dominated S hs path id by x ms next f =
    IsFront-other S hs (after_all (with_new hs path) (retirements by (id ∷ []))) path (id ∷ []) (Turns-retired hs path by (id ∷ [])) x ms f
    (λ k live named e. elim (has_cons_cases k id [] named) [
      | inl same ↦ let there : k < length hs = live.there in absurd (omega arith)
      | inr none ↦ absurd (false≢true none)
    ])
    (λ k past live e.
    let here : (k ≡ length hs) × (has k (id ∷ []) ≡ false) = new-left hs path by (id ∷ []) k past live in
    absurd (true≢false (sym (has_head k []) ∙ ap (λ j. has k (j ∷ [])) (here.0 ∙ sym next) ∙ here.1)))

-- the labels after the new one retired these
abbrev left : List Held → List ℕ → ℕ → List ℕ → List Held
left hs path id ids = after_all (with_new hs path) (retirements id ids)

-- the label stays live: it joins its antichain, from which those went out that it dominates
module _ (S : Face) (hs : List Held) (path : List ℕ) (id : ℕ) (ids : List ℕ) (next : id ≡ length hs) (none_above : (k : ℕ) → ¬ Above S hs path k)
    (those : AreThose (Below S hs path) (length hs) ids) (ms rest : List Member) (f : IsFront S hs (last_of path) ms)
    (exact : (k : ℕ) → (has k (ids_of rest) ≡ true) ↔ ((has k (ids_of ms) ≡ true) × (has k ids ≡ false)))
    (a : IsAntichainOf S (λ k. path_of hs k) rest) where
  turned : Turns hs (left hs path id ids) path ids
  turned = Turns-retired hs path id ids

  path-there : path_of (left hs path id ids) id ≡ path
  path-there = ap (λ (j : ℕ). path_of (left hs path id ids) j) next ∙ path-left hs path id ids

  live-rest : (k : ℕ) → has k (ids_of rest) ≡ true → IsLive hs k
  live-rest k h = (f.sound k ((exact k).0 h).0).live

  path-rest : (k : ℕ) → has k (ids_of rest) ≡ true → path_of (left hs path id ids) k ≡ path_of hs k
  path-rest k h = turned.same k (live-rest k h).there

  apart : IsApartFrom S.instance (λ k. path_of (left hs path id ids) k) rest id
  apart k h = (
    λ d. none_above k (record {
      live = live-rest k h;
      dominates =
          subst (λ (b : List ℕ). Dominates S.instance b path) (path-rest k h)
          (subst (λ (p : List ℕ). Dominates S.instance (path_of (left hs path id ids) k) p) path-there d);
    }),
    λ d. true≢false (sym (those.all k (live-rest k h).there (record {
      live = live-rest k h;
      dominated =
          subst (λ (p : List ℕ). Dominates S.instance path p) (path-rest k h)
          (subst (λ (b : List ℕ). Dominates S.instance b (path_of (left hs path id ids) k)) path-there d);
    })) ∙ ((exact k).0 h).1),
  )

  fresh : has id (ids_of rest) ≡ false
  fresh = elim (cases_Bool (has id (ids_of rest))) [
    | inl there ↦ let old : id < length hs = (live-rest id there).there in absurd (omega arith)
    | inr fine ↦ fine
  ]

  unnamed : has (length hs) ids ≡ false
  unnamed = elim (cases_Bool (has (length hs) ids)) [
    | inl there ↦ let old : length hs < length hs = those.below (length hs) there in absurd (omega arith)
    | inr fine ↦ fine
  ]

  ends : EndsWith (left hs path id ids) (last_of path) (length hs)
  ends = record {
    live = IsLive-retired (with_new hs path) id ids (length hs) unnamed (IsLive-new S hs path (length hs) refl);
    ends = ap last_of (path-left hs path id ids);
  }

  pub IsFront-live : (m : Member) (more : List Member) → m.id ≡ id → LabelPath S path → IsOutlineOf S m.outline path → IsInserted m rest more
      → ((T : Face) (path_at : ℕ → List ℕ) → IsAntichainOf T path_at rest → IsMemberOf T path_at m → has m.id (ids_of rest) ≡ false
      → IsApartFrom T.instance path_at rest m.id → IsAntichainOf T path_at more)
      → IsFront S (left hs path id ids) (last_of path) more
  IsFront-live m more is p o in' put =
      let there : path_of (left hs path id ids) m.id ≡ path = ap (λ (j : ℕ). path_of (left hs path id ids) j) is ∙ path-there in
      IsFront-joined S hs (left hs path id ids) path ids turned (last_of path) ms f rest exact m more (is ∙ next) (length-left hs path id ids) ends in'
      (put S (λ k. path_of (left hs path id ids) k)
      (IsAntichainOf-same S S (λ k. path_of hs k) (λ k. path_of (left hs path id ids) k) rest refl (λ k h. sym (path-rest k h)) a)
      (record {
        path = subst (λ (q : List ℕ). LabelPath S q) (sym there) p;
        outline = subst (λ (q : List ℕ). IsOutlineOf S m.outline q) (sym there) o;
      })
      (ap (λ (j : ℕ). has j (ids_of rest)) is ∙ fresh)
      (subst (λ (j : ℕ). IsApartFrom S.instance (λ k. path_of (left hs path id ids) k) rest j) (sym is) apart))
