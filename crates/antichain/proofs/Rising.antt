-- The order of the starts.
use Rattle.std.proofs.Common.{◌≡◌, ℕ, zero, suc, ◌+◌, ◌-◌, ◌<◌, ◌≤◌, List, [], ◌∷◌, ◌++◌, length, get_or, take, drop, sym, subst, le_trans, arith}
use Rattle.std.proofs.lemmas.List.{length-drop, length-take-le, get_or-drop, get_or-take}
use Rattle.std.proofs.lemmas.List.Elements.{All-append}
use Rattle.std.proofs.lemmas.List.Sorted.{IsNonDecreasingBy-take, IsNonDecreasingBy-drop}
use Rattle.std.specs.List.{All, insert}
use Rattle.antichain.proofs.Parts.{All-kept}
use Rattle.antichain.specs.Antichains.{IsRising, Parted, nil, gone, kept}
use Rattle.antichain.specs.declared.member.Member.{Member}

-- none starts before the first
rising-head : (m : Member) (ms : List Member) → IsRising (m ∷ ms) → All (λ (n : Member). m.outline.start ≤ n.outline.start) ms
rising-head m ms r k d l = r 0 (suc k) d (omega arith) (omega arith)

rising-tail : (m : Member) (ms : List Member) → IsRising (m ∷ ms) → IsRising ms
rising-tail m ms r i j d le l = r (suc i) (suc j) d (omega arith) (omega arith)

rising-cons : (m : Member) (ms : List Member) → All (λ (n : Member). m.outline.start ≤ n.outline.start) ms → IsRising ms → IsRising (m ∷ ms)
rising-cons m ms over r zero zero d le l = omega arith
rising-cons m ms over r zero (suc j) d le l = over j d (omega arith)
rising-cons m ms over r (suc i) zero d le l = absurd (omega arith)
rising-cons m ms over r (suc i) (suc j) d le l = r i j d (omega arith) (omega arith)

-- members that are left keep their order
pub rising-kept : (P Q : Member → Type 0) {ms gs ks : List Member} → Parted P Q ms gs ks → IsRising ms → IsRising ks
rising-kept P Q nil r = r
rising-kept P Q (gone {m} {ms} {gs} {ks} p s) r = rising-kept P Q s (rising-tail m ms r)
rising-kept P Q (kept {m} {ms} {gs} {ks} q s) r =
    rising-cons m ks (All-kept P Q (λ (n : Member). m.outline.start ≤ n.outline.start) s (rising-head m ms r)) (rising-kept P Q s (rising-tail m ms r))

rising-append : (xs ys : List Member) → IsRising xs → IsRising ys
    → ((i j : ℕ) (d : Member) → i < length xs → j < length ys → (get_or xs i d).outline.start ≤ (get_or ys j d).outline.start) → IsRising (xs ++ ys)
rising-append [] ys rx ry under = ry
rising-append (x ∷ xs) ys rx ry under =
    rising-cons x (xs ++ ys)
    (All-append (λ (n : Member). x.outline.start ≤ n.outline.start) xs ys (rising-head x xs rx) (λ j d l. under 0 j d (omega arith) l))
    (rising-append xs ys (rising-tail x xs rx) ry (λ i j d li lj. under (suc i) j d (omega arith) lj))

-- a member that stands after those that start no later, and before the others
pub rising-inserted : (ms : List Member) (i : ℕ) (m : Member) → i ≤ length ms
    → ((k : ℕ) (d : Member) → k < i → (get_or ms k d).outline.start ≤ m.outline.start)
    → ((k : ℕ) (d : Member) → i ≤ k → k < length ms → m.outline.start < (get_or ms k d).outline.start)
    → IsRising ms → IsRising (insert ms i m)
rising-inserted ms i m inside front rest r =
    let size : length (drop i ms) ≡ length ms - i = length-drop i ms in
    let short : length (take i ms) ≡ i = length-take-le i ms inside in
    let later : All (λ (n : Member). m.outline.start ≤ n.outline.start) (drop i ms) =
    λ k d l.
    let there : i + k < length ms = omega arith in
    let over : m.outline.start < (get_or ms (i + k) d).outline.start = rest (i + k) d (omega arith) there in
    let at : get_or (drop i ms) k d ≡ get_or ms (i + k) d = get_or-drop i ms k d in
    subst (λ (n : Member). m.outline.start ≤ n.outline.start) (sym at) (omega arith) in
    let sooner : All (λ (n : Member). n.outline.start ≤ m.outline.start) (take i ms) =
    λ k d l.
    let first : k < i = omega arith in
    subst (λ (n : Member). n.outline.start ≤ m.outline.start) (sym (get_or-take i ms k d first)) (front k d first) in
    rising-append (take i ms) (m ∷ drop i ms)
    (IsNonDecreasingBy-take (λ (n : Member). n.outline.start) i ms r)
    (rising-cons m (drop i ms) later (IsNonDecreasingBy-drop (λ (n : Member). n.outline.start) i ms r))
    (under m (take i ms) (drop i ms) sooner later)
  where
    under : (m : Member) (xs ys : List Member) → All (λ (n : Member). n.outline.start ≤ m.outline.start) xs
        → All (λ (n : Member). m.outline.start ≤ n.outline.start) ys → (i j : ℕ) (d : Member) → i < length xs → j < length (m ∷ ys)
        → (get_or xs i d).outline.start ≤ (get_or (m ∷ ys) j d).outline.start
    under m xs ys sooner later i zero d li lj = sooner i d li
    under m xs ys sooner later i (suc j) d li lj = le_trans (sooner i d li) (later j d (omega arith))
