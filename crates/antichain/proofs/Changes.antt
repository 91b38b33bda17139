-- Antichains that change.
use Rattle.std.proofs.Common.{◌≡◌, ◌≢◌, ℕ, ◌+◌, ◌<◌, ◌≤◌, ◌==◌, false, true, List, [], ◌∷◌, ◌++◌, length, take, drop, get_or, sym, ◌∙◌, ap, subst, ◌⊎◌, inl, inr, true≢false, arith}
use Rattle.std.proofs.lemmas.Bool.{cases_lt, eq-eqb, ne_eqb, or_parts}
use Rattle.std.proofs.lemmas.List.{length-append, length-map, take-append-drop, drop_more}
use Rattle.std.proofs.lemmas.List.Elements.{All-cons, All-head, All-tail, All-nil}
use Rattle.std.proofs.lemmas.Map.Keys.{IsDistinct-head, IsDistinct-tail, IsDistinct-cons}
use Rattle.std.specs.Prelude.{◌↔◌}
use Rattle.std.specs.List.{All, AllByRecursion, IsDistinct, insert}
use Rattle.antichain.proofs.Parts.{member_with, Parted-all, All-kept, kept-are, gone-are, length-parted, has-gone, has-kept, has-parts, distinct-kept}
use Rattle.antichain.proofs.Rising.{rising-kept}
use Rattle.antichain.specs.Antichains.{ids_of, IsRising, IsMemberOf, IsAntichainOf, IsApartFrom, HasIdAt, Parted, gone, kept, Leaves, TakesOut, IsInserted}
use Rattle.antichain.specs.declared.member.Member.{Member}
use Rattle.strip_model.proofs.Words.{has_cons_cases, has_head, has_tail, has-element}
use Rattle.label.specs.Outlines.{IsOutlineOf}
use Rattle.strip_model.specs.Directed.{has}
use Rattle.strip_model.specs.Dominance.{Dominates}
use Rattle.strip_model.specs.LabelPath.{LabelPath}
use Rattle.strip_model.specs.Side.{Face}

-- ---- other paths

-- where the paths of its ids stay, so does an antichain
pub IsAntichainOf-same : (S T : Face) (path_at other : ℕ → List ℕ) (ms : List Member) → S ≡ T
    → ((k : ℕ) → has k (ids_of ms) ≡ true → path_at k ≡ other k) → IsAntichainOf S path_at ms → IsAntichainOf T other ms
IsAntichainOf-same S T path_at other ms face same h =
    subst (λ (U : Face). IsAntichainOf U other ms) face (record {
      sound =
          λ k d l.
          let m : Member = get_or ms k d in
          let is : path_at m.id ≡ other m.id = same m.id (has-element (λ (n : Member). n.id) ms k d l) in
          let sound : IsMemberOf S path_at m = h.sound k d l in
          record {
            path = subst (λ (p : List ℕ). LabelPath S p) is sound.path;
            outline = subst (λ (p : List ℕ). IsOutlineOf S m.outline p) is sound.outline;
          };
      rising = h.rising;
      distinct = h.distinct;
      apart =
          λ j k there_j there_k differ dom.
          h.apart j k there_j there_k differ
          (subst (λ (p : List ℕ). Dominates S.instance p (path_at k)) (sym (same j there_j))
          (subst (λ (p : List ℕ). Dominates S.instance (other j) p) (sym (same k there_k)) dom));
    })

IsDistinct-nil : IsDistinct (λ j k. j == k) []
unfolding IsDistinct
IsDistinct-nil = tt

-- an antichain without members
pub IsAntichainOf-none : (S : Face) (path_at : ℕ → List ℕ) (ms : List Member) → ms ≡ [] → IsAntichainOf S path_at ms
IsAntichainOf-none S path_at ms none =
    subst (λ (ns : List Member). IsAntichainOf S path_at ns) (sym none) (record {
      sound = All-nil (IsMemberOf S path_at);
      rising = λ i j d le l. absurd (omega arith);
      distinct = IsDistinct-nil;
      apart = λ j k there. absurd (true≢false (sym there));
    })

-- ---- members taken out

-- what is left of an antichain
pub IsAntichainOf-parted : (P Q : Member → Type 0) (S : Face) (path_at : ℕ → List ℕ) {ms gs ks : List Member} → Parted P Q ms gs ks
    → IsAntichainOf S path_at ms → IsAntichainOf S path_at ks
IsAntichainOf-parted P Q S path_at parted h = record {
  sound = All-kept P Q (IsMemberOf S path_at) parted h.sound;
  rising = rising-kept P Q parted h.rising;
  distinct = distinct-kept P Q parted h.distinct;
  apart = λ j k there_j there_k differ. h.apart j k (has-kept P Q j parted there_j) (has-kept P Q k parted there_k) differ;
}

-- each member that is gone has its id in the list
pub TakesOut-count : (P Q : Member → Type 0) (ms rest : List Member) (ids more : List ℕ) → TakesOut P Q ms rest ids more
    → length more + length rest ≡ length ids + length ms
TakesOut-count P Q ms rest ids more t =
    let both : length t.gone + length rest ≡ length ms = length-parted P Q t.parted in
    let count : length (ids_of t.gone) ≡ length t.gone = length-map t.gone (λ (m : Member). m.id) in
    let all : length more ≡ length ids + length (ids_of t.gone) = ap (λ (is : List ℕ). length is) t.added ∙ length-append ids (ids_of t.gone) in
    omega arith

-- what is left has no id of which P holds, where Q excludes it: Q holds of each
pub kept-tells : (P Q : ℕ → Type 0) {ms gs ks : List Member} (k : ℕ) → Parted (λ (m : Member). P m.id) (λ (m : Member). Q m.id) ms gs ks
    → has k (ids_of ks) ≡ true → Q k
kept-tells P Q {ms} {gs} {ks} k parted h =
    let found = member_with (λ (m : Member). Q m.id) ks k (kept-are (λ (m : Member). P m.id) (λ (m : Member). Q m.id) parted) h in
    subst Q found.1 found.2

-- and P of each that is gone
pub gone-tells : (P Q : ℕ → Type 0) {ms gs ks : List Member} (k : ℕ) → Parted (λ (m : Member). P m.id) (λ (m : Member). Q m.id) ms gs ks
    → has k (ids_of gs) ≡ true → P k
gone-tells P Q {ms} {gs} {ks} k parted h =
    let found = member_with (λ (m : Member). P m.id) gs k (gone-are (λ (m : Member). P m.id) (λ (m : Member). Q m.id) parted) h in
    subst P found.1 found.2

-- whose ids are gone, and whose stay
module _ (P Q : ℕ → Type 0) (excludes : (k : ℕ) → P k → Q k → ⊥) (ms gs ks : List Member) (parted : Parted (λ (m : Member). P m.id) (λ (m : Member). Q m.id) ms gs ks) (k : ℕ) where
  pub gone-exact : (has k (ids_of gs) ≡ true) ↔ ((has k (ids_of ms) ≡ true) × P k)
  gone-exact = (
    λ h. (has-gone (λ (m : Member). P m.id) (λ (m : Member). Q m.id) k parted h, gone-tells P Q k parted h),
    λ both. elim (has-parts (λ (m : Member). P m.id) (λ (m : Member). Q m.id) k parted both.0) [
      | inl out ↦ out
      | inr stays ↦ absurd (excludes k both.1 (kept-tells P Q k parted stays))
    ],
  )

  pub kept-exact : (has k (ids_of ks) ≡ true) ↔ ((has k (ids_of ms) ≡ true) × Q k)
  kept-exact = (
    λ h. (has-kept (λ (m : Member). P m.id) (λ (m : Member). Q m.id) k parted h, kept-tells P Q k parted h),
    λ both. elim (has-parts (λ (m : Member). P m.id) (λ (m : Member). Q m.id) k parted both.0) [
      | inl out ↦ absurd (excludes k (gone-tells P Q k parted out) both.1)
      | inr stays ↦ stays
    ],
  )

-- ---- one member more, or one less

-- the ids where a member stands between two lists
has-around : (k : ℕ) (m : Member) (front back : List Member) → has k (ids_of (front ++ m ∷ back)) ≡ true
    → (k ≡ m.id) ⊎ (has k (ids_of (front ++ back)) ≡ true)
has-around k m [] back h = has_cons_cases k m.id (ids_of back) h
has-around k m (x ∷ front) back h = elim (has_cons_cases k x.id (ids_of (front ++ m ∷ back)) h) [
  | inl same ↦ inr (subst (λ (j : ℕ). has j (x.id ∷ ids_of (front ++ back)) ≡ true) (sym same) (has_head x.id (ids_of (front ++ back))))
  | inr later ↦ elim (has-around k m front back later) [
    | inl new ↦ inl new
    | inr old ↦ inr (has_tail k x.id (ids_of (front ++ back)) old)
  ]
]

has-around_new : (m : Member) (front back : List Member) → has m.id (ids_of (front ++ m ∷ back)) ≡ true
has-around_new m [] back = has_head m.id (ids_of back)
has-around_new m (x ∷ front) back = has_tail m.id x.id (ids_of (front ++ m ∷ back)) (has-around_new m front back)

has-around_old : (k : ℕ) (m : Member) (front back : List Member) → has k (ids_of (front ++ back)) ≡ true
    → has k (ids_of (front ++ m ∷ back)) ≡ true
has-around_old k m [] back h = has_tail k m.id (ids_of back) h
has-around_old k m (x ∷ front) back h = elim (has_cons_cases k x.id (ids_of (front ++ back)) h) [
  | inl same ↦ subst (λ (j : ℕ). has j (x.id ∷ ids_of (front ++ m ∷ back)) ≡ true) (sym same) (has_head x.id (ids_of (front ++ m ∷ back)))
  | inr later ↦ has_tail k x.id (ids_of (front ++ m ∷ back)) (has-around_old k m front back later)
]

-- what holds of all members around it
all-around : (R : Member → Type 0) (m : Member) (front back : List Member) → All R (front ++ back) → R m → All R (front ++ m ∷ back)
all-around R m [] back all r = All-cons R m back r all
all-around R m (x ∷ front) back all r =
    All-cons R x (front ++ m ∷ back) (All-head R x (front ++ back) all) (all-around R m front back (All-tail R x (front ++ back) all) r)

-- ids that stand once each, and another one
others : (n k : ℕ) (ks : List ℕ) → (k == n) ≡ false → AllByRecursion (λ j. (n == j) ≡ false) ks → AllByRecursion (λ j. (n == j) ≡ false) (k ∷ ks)
others n k ks absent all = (ne_eqb n k (λ e. true≢false (sym (eq-eqb k n (sym e)) ∙ absent)), all)

not_among : (n : ℕ) (ks : List ℕ) → has n ks ≡ false → AllByRecursion (λ j. (n == j) ≡ false) ks
not_among n [] absent = tt
not_among n (k ∷ ks) absent = let parts = or_parts (k == n) (has n ks) absent in others n k ks parts.0 (not_among n ks parts.1)

ids-around : (R : ℕ → Type 0) (m : Member) (front back : List Member) → AllByRecursion R (ids_of (front ++ back)) → R m.id
    → AllByRecursion R (ids_of (front ++ m ∷ back))
ids-around R m [] back all r = (r, all)
ids-around R m (x ∷ front) back all r = (all.0, ids-around R m front back all.1 r)

distinct-around : (m : Member) (front back : List Member) → has m.id (ids_of (front ++ back)) ≡ false
    → IsDistinct (λ j k. j == k) (ids_of (front ++ back)) → IsDistinct (λ j k. j == k) (ids_of (front ++ m ∷ back))
distinct-around m [] back absent d = IsDistinct-cons (λ (j k : ℕ). j == k) m.id (ids_of back) (not_among m.id (ids_of back) absent) d
distinct-around m (x ∷ front) back absent d =
    let parts = or_parts (x.id == m.id) (has m.id (ids_of (front ++ back))) absent in
    IsDistinct-cons (λ (j k : ℕ). j == k) x.id (ids_of (front ++ m ∷ back))
    (ids-around (λ k. (x.id == k) ≡ false) m front back (IsDistinct-head (λ (j k : ℕ). j == k) x.id (ids_of (front ++ back)) d) parts.0)
    (distinct-around m front back parts.1 (IsDistinct-tail (λ (j k : ℕ). j == k) x.id (ids_of (front ++ back)) d))

-- the others have other ids
ids-apart : (n : ℕ) (ms : List Member) → AllByRecursion (λ k. (n == k) ≡ false) (ids_of ms) → All (λ (m : Member). m.id ≢ n) ms
ids-apart n [] all = All-nil (λ (m : Member). m.id ≢ n)
ids-apart n (m ∷ ms) all =
    All-cons (λ (m : Member). m.id ≢ n) m ms (λ e. true≢false (sym (eq-eqb n m.id (sym e)) ∙ all.0)) (ids-apart n ms all.1)

apart-around : (m : Member) (front back : List Member) → IsDistinct (λ j k. j == k) (ids_of (front ++ m ∷ back))
    → All (λ (n : Member). n.id ≢ m.id) (front ++ back)
apart-around m [] back d = ids-apart m.id back (IsDistinct-head (λ (j k : ℕ). j == k) m.id (ids_of back) d)
apart-around m (x ∷ front) back d =
    let head = IsDistinct-head (λ (j k : ℕ). j == k) x.id (ids_of (front ++ m ∷ back)) d in
    All-cons (λ (n : Member). n.id ≢ m.id) x (front ++ back)
    (λ e. true≢false (sym (eq-eqb x.id m.id e) ∙ middle x.id m front back head))
    (apart-around m front back (IsDistinct-tail (λ (j k : ℕ). j == k) x.id (ids_of (front ++ m ∷ back)) d))
  where
    middle : (n : ℕ) (m : Member) (front back : List Member) → AllByRecursion (λ k. (n == k) ≡ false) (ids_of (front ++ m ∷ back)) → (n == m.id) ≡ false
    middle n m [] back all = all.0
    middle n m (x ∷ front) back all = middle n m front back all.1

-- one member goes, and the others stay
parted-around : (P Q : Member → Type 0) (m : Member) (front back : List Member) → All Q (front ++ back) → P m
    → Parted P Q (front ++ m ∷ back) (m ∷ []) (front ++ back)
parted-around P Q m [] back all p = gone p (Parted-all P Q back all)
parted-around P Q m (x ∷ front) back all p =
    kept (All-head Q x (front ++ back) all) (parted-around P Q m front back (All-tail Q x (front ++ back) all) p)

-- ---- a member that came in

module _ (m : Member) (ms more : List Member) (in' : IsInserted m ms more) where
  -- the ids are those that there were, and its own
  pub has-inserted : (k : ℕ) → has k (ids_of more) ≡ true → (k ≡ m.id) ⊎ (has k (ids_of ms) ≡ true)
  has-inserted k h =
      subst (λ (ns : List Member). (k ≡ m.id) ⊎ (has k (ids_of ns) ≡ true)) (sym in'.old)
      (has-around k m in'.front in'.back (subst (λ (ns : List Member). has k (ids_of ns) ≡ true) in'.new h))

  pub has-inserted_new : has m.id (ids_of more) ≡ true
  has-inserted_new = subst (λ (ns : List Member). has m.id (ids_of ns) ≡ true) (sym in'.new) (has-around_new m in'.front in'.back)

  pub has-inserted_old : (k : ℕ) → has k (ids_of ms) ≡ true → has k (ids_of more) ≡ true
  has-inserted_old k h =
      subst (λ (ns : List Member). has k (ids_of ns) ≡ true) (sym in'.new)
      (has-around_old k m in'.front in'.back (subst (λ (ns : List Member). has k (ids_of ns) ≡ true) in'.old h))

  -- what holds of all members
  pub All-inserted : (R : Member → Type 0) → All R ms → R m → All R more
  All-inserted R all r =
      subst (λ (ns : List Member). All R ns) (sym in'.new) (all-around R m in'.front in'.back (subst (λ (ns : List Member). All R ns) in'.old all) r)

  distinct-inserted : has m.id (ids_of ms) ≡ false → IsDistinct (λ j k. j == k) (ids_of ms) → IsDistinct (λ j k. j == k) (ids_of more)
  distinct-inserted absent d =
      subst (λ (ns : List Member). IsDistinct (λ j k. j == k) (ids_of ns)) (sym in'.new)
      (distinct-around m in'.front in'.back (subst (λ (ns : List Member). has m.id (ids_of ns) ≡ false) in'.old absent)
      (subst (λ (ns : List Member). IsDistinct (λ j k. j == k) (ids_of ns)) in'.old d))

  -- an antichain with one member more
  pub IsAntichainOf-inserted : (S : Face) (path_at : ℕ → List ℕ) → IsRising more → IsAntichainOf S path_at ms → IsMemberOf S path_at m
      → has m.id (ids_of ms) ≡ false → IsApartFrom S.instance path_at ms m.id → IsAntichainOf S path_at more
  unfolding distinct-inserted
  IsAntichainOf-inserted S path_at rising h member new apart = record {
    sound = All-inserted (IsMemberOf S path_at) h.sound member;
    rising = rising;
    distinct = distinct-inserted new h.distinct;
    apart =
        λ j k there_j there_k differ dom. elim (has-inserted j there_j) [
          | inl new_j ↦ elim (has-inserted k there_k) [
            | inl new_k ↦ differ (new_j ∙ sym new_k)
            | inr old_k ↦ (apart k old_k).1 (subst (λ (i : ℕ). Dominates S.instance (path_at i) (path_at k)) new_j dom)
          ]
          | inr old_j ↦ elim (has-inserted k there_k) [
            | inl new_k ↦ (apart j old_j).0 (subst (λ (i : ℕ). Dominates S.instance (path_at j) (path_at i)) new_k dom)
            | inr old_k ↦ h.apart j k old_j old_k differ dom
          ]
        ];
  }

pub IsInserted-at : (m : Member) (ms more : List Member) (i : ℕ) → more ≡ insert ms i m → IsInserted m ms more
IsInserted-at m ms more i new = record { front = take i ms; back = drop i ms; old = sym (take-append-drop i ms); new = new }

-- ---- a member that went out

-- the member at place k went out
module _ (ms rest : List Member) (id k : ℕ) (at : HasIdAt ms id k) (out : rest ≡ take k ms ++ drop (k + 1) ms) where
  split : (d : Member) → ms ≡ take k ms ++ get_or ms k d ∷ drop (k + 1) ms
  split d = sym (take-append-drop k ms) ∙ ap (λ (ns : List Member). take k ms ++ ns) (drop_more ms k d at.there)

  parted-removed : (P Q : Member → Type 0) (m : Member) → m ≡ get_or ms k m → All Q (take k ms ++ drop (k + 1) ms) → P m
      → Parted P Q ms (m ∷ []) rest
  unfolding split
  parted-removed P Q m is all p =
      subst (λ (ns : List Member). Parted P Q ms (m ∷ []) ns) (sym out)
      (subst (λ (ns : List Member). Parted P Q ns (m ∷ []) (take k ms ++ drop (k + 1) ms))
      (sym (split m ∙ ap (λ (n : Member). take k ms ++ n ∷ drop (k + 1) ms) (sym is)))
      (parted-around P Q m (take k ms) (drop (k + 1) ms) all p))

  pub IsRising-removed : (m : Member) → m ≡ get_or ms k m → IsRising ms → IsRising rest
  unfolding parted-removed
  IsRising-removed m is r =
      rising-kept (λ (n : Member). Unit {0}) (λ (n : Member). Unit {0}) (parted-removed (λ (n : Member). Unit {0}) (λ (n : Member). Unit {0}) m is (λ i d l. tt) tt) r

  pub IsAntichainOf-removed : (m : Member) → m ≡ get_or ms k m → (S : Face) (path_at : ℕ → List ℕ) → IsAntichainOf S path_at ms → IsAntichainOf S path_at rest
  unfolding parted-removed
  IsAntichainOf-removed m is S path_at h =
      IsAntichainOf-parted (λ (n : Member). Unit {0}) (λ (n : Member). Unit {0}) S path_at
      (parted-removed (λ (n : Member). Unit {0}) (λ (n : Member). Unit {0}) m is (λ i d l. tt) tt) h

  -- and no other with this id is there
  pub Leaves-removed : (m : Member) → m ≡ get_or ms k m → IsDistinct (λ i j. i == j) (ids_of ms)
      → Leaves (λ (n : Member). n.id ≡ id) (λ (n : Member). n.id ≢ id) ms rest
  unfolding split parted-removed
  Leaves-removed m is d =
      let is_id : m.id ≡ id = ap (λ (n : Member). n.id) is ∙ at.is m in
      let around : IsDistinct (λ i j. i == j) (ids_of (take k ms ++ m ∷ drop (k + 1) ms)) =
      subst (λ (ns : List Member). IsDistinct (λ i j. i == j) (ids_of ns)) (split m ∙ ap (λ (n : Member). take k ms ++ n ∷ drop (k + 1) ms) (sym is)) d in
      let all : All (λ (n : Member). n.id ≢ m.id) (take k ms ++ drop (k + 1) ms) = apart-around m (take k ms) (drop (k + 1) ms) around in
      record {
        gone = m ∷ [];
        parted =
            parted-removed (λ (n : Member). n.id ≡ id) (λ (n : Member). n.id ≢ id) m is
            (λ i d l e. all i d l (e ∙ sym is_id)) is_id;
      }

-- nothing went out, since the id stands nowhere where it could
pub Leaves-nothing : (ms : List Member) (id start from to : ℕ) → ((k : ℕ) (d : Member) → from ≤ k → k < to → (get_or ms k d).id ≢ id)
    → ((k : ℕ) (d : Member) → k < from → (get_or ms k d).outline.start < start)
    → ((k : ℕ) (d : Member) → to ≤ k → k < length ms → start < (get_or ms k d).outline.start)
    → All (λ (n : Member). n.id ≡ id → n.outline.start ≡ start) ms → Leaves (λ (n : Member). n.id ≡ id) (λ (n : Member). n.id ≢ id) ms ms
Leaves-nothing ms id start from to nowhere front back starts = record {
  gone = [];
  parted =
      Parted-all (λ (n : Member). n.id ≡ id) (λ (n : Member). n.id ≢ id) ms
      (λ k d l is. let same : (get_or ms k d).outline.start ≡ start = starts k d l is in elim (cases_lt k from) [
        | inl sooner ↦ absurd (omega (arith, front k d sooner))
        | inr past ↦ elim (cases_lt k to) [
          | inl within ↦ nowhere k d past within is
          | inr later ↦ absurd (omega (arith, back k d later l))
        ]
      ]);
}
