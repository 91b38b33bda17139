-- The table turned round is a table, and keeps the shortcut rule with the same durations.
use Rattle.std.proofs.Common.{◌≡◌, ℕ, ◌+◌, ◌*◌, ◌/◌, ◌%◌, ◌<◌, ◌≤◌, List, [], ◌∷◌, ◌++◌, map, sym, ◌∙◌, ap, arith}
use Rattle.std.specs.List.{range_with_len}
use Rattle.std.proofs.lemmas.List.FromFn.{get_or-map-range_with_len, length-map-range_with_len, map-range_with_len_more}
use Rattle.std.proofs.lemmas.Nat.{div-mul-add, mod-mul-add, mul-add-lt}
use Rattle.manoeuvre.proofs.Entries.{entry_at-le}
use Rattle.manoeuvre.specs.Grid.{Grid, entry_at, KeepsShortcut, IsTable, turned}

-- what stands at place k of the table turned round
abbrev pub turned_entry : Grid → ℕ → ℕ
turned_entry t k = entry_at t (k % t.size) (k / t.size)

-- the entry (x, y) of the table turned round is the entry (y, x)
pub entry_at-turned : (t : Grid) (x y : ℕ) → x < t.size → y < t.size → entry_at (turned t) x y ≡ entry_at t y x
unfolding turned
entry_at-turned t x y lx ly =
    let n = t.size in
    let k = x * n + y in
    get_or-map-range_with_len (turned_entry t) 0 (n * n) k k 0 (mul-add-lt x n y n lx ly) (omega arith)
    ∙ ap (λ (i : ℕ). entry_at t i (k / n)) (mod-mul-add x n y ly)
    ∙ ap (λ (j : ℕ). entry_at t y j) (div-mul-add x n y ly)

-- the table turned round is a table
pub IsTable-turned : (t : Grid) → IsTable t → IsTable (turned t)
unfolding turned
IsTable-turned t h = record {
  even = h.even;
  small = h.small;
  square = length-map-range_with_len (turned_entry t) 0 (t.size * t.size);
  bounded = λ k d l.
      let f = turned_entry t in
      let n = t.size * t.size in
      let within : k < n = omega (arith, l, length-map-range_with_len f 0 n) in
      rw (get_or-map-range_with_len f 0 n k k d within (omega arith)) (entry_at-le t (k % t.size) (k / t.size) h);
  same_strip = record { at_each = λ x y lx ly same. entry_at-turned t x y lx ly ∙ h.same_strip.at_each y x ly lx (sym same) };
}

-- the detour from x to z by y is the one from z to x by y before
pub KeepsShortcut-turned : (durations : ℕ → ℕ) (t : Grid) → KeepsShortcut durations t → KeepsShortcut durations (turned t)
unfolding turned
KeepsShortcut-turned durations t h = record {
  at_each = λ x y z lx ly lz three.
      let there = h.at_each z y x lz ly lx (record {
        first_second = λ e. three.second_third (sym e);
        second_third = λ e. three.first_second (sym e);
        first_third = λ e. three.first_third (sym e);
      }) in
      rw (entry_at-turned t x z lx lz) (rw (entry_at-turned t x y lx ly) (rw (entry_at-turned t y z ly lz) (omega (arith, there))));
}

-- one more place has its entry
pub turned_more : (t : Grid) (n k e : ℕ) (xs ys : List ℕ) → n ≡ t.size → e ≡ entry_at t (k % n) (k / n)
    → xs ≡ map (turned_entry t) (range_with_len 0 k) → ys ≡ xs ++ e ∷ [] → ys ≡ map (turned_entry t) (range_with_len 0 (k + 1))
turned_more t n k e xs ys size entry before pushed =
    pushed
    ∙ ap (λ (zs : List ℕ). zs ++ e ∷ []) before
    ∙ ap (λ (m : ℕ). map (turned_entry t) (range_with_len 0 k) ++ m ∷ []) (entry ∙ ap (λ (m : ℕ). entry_at t (k % m) (k / m)) size)
    ∙ sym (map-range_with_len_more (turned_entry t) 0 k k (omega arith))

-- all places have their entries
pub turned_whole : (t : Grid) (s n k : ℕ) (es : List ℕ) → s ≡ t.size → n ≡ t.size → n * n ≤ k → k ≤ n * n
    → es ≡ map (turned_entry t) (range_with_len 0 k) → record { size = s; entries = es } ≡ turned t
unfolding turned
turned_whole t s n k es size also enough most entries =
    let all : k ≡ t.size * t.size = between k (n * n) enough most ∙ ap (λ (m : ℕ). m * m) also in
    ap (λ (m : ℕ). let g : Grid = record { size = m; entries = es } in g) size
    ∙ ap (λ (zs : List ℕ). let g : Grid = record { size = t.size; entries = zs } in g)
    (entries ∙ ap (λ (m : ℕ). map (turned_entry t) (range_with_len 0 m)) all)
  where
    between : (k m : ℕ) → m ≤ k → k ≤ m → k ≡ m
    between k m h g = omega arith
