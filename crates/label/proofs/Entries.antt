-- The entries of a side's tables, and where they stand.
use Rattle.std.proofs.Common.{◌≡◌, ℕ, ◌+◌, ◌*◌, ◌/◌, ◌%◌, ◌<◌, ◌≤◌, List, [], ◌∷◌, ◌++◌, length, map, get_or, sym, ◌∙◌, ap, subst, arith}
use Rattle.std.specs.List.{range_with_len}
use Rattle.std.proofs.lemmas.List.{get_or_read}
use Rattle.std.proofs.lemmas.List.FromFn.{get_or-map-range_with_len, length-map-range_with_len, map-range_with_len_more}
use Rattle.std.proofs.lemmas.Nat.{div-mul-add, mod-mul-add, mul-add-lt}
use Rattle.label.specs.Tables.{AreEntries}
use Rattle.strip_model.specs.Directed.{strip_of}
use Rattle.strip_model.specs.Orbit.{Orbit}
use Rattle.strip_model.specs.declared.strip.Strip.{Strip}

-- what stands at place k of a table whose rows have n entries
abbrev pub entry_of : (ℕ → ℕ → ℕ) → ℕ → ℕ → ℕ
entry_of entry n k = entry (k / n) (k % n)

-- one more place has its entry
pub entries_more : (entry : ℕ → ℕ → ℕ) (n k e : ℕ) (xs ys : List ℕ) → e ≡ entry (k / n) (k % n)
    → xs ≡ map (entry_of entry n) (range_with_len 0 k) → ys ≡ xs ++ e ∷ [] → ys ≡ map (entry_of entry n) (range_with_len 0 (k + 1))
entries_more entry n k e xs ys is before pushed =
    pushed
    ∙ ap (λ (zs : List ℕ). zs ++ e ∷ []) before
    ∙ ap (λ (m : ℕ). map (entry_of entry n) (range_with_len 0 k) ++ m ∷ []) is
    ∙ sym (map-range_with_len_more (entry_of entry n) 0 k k (omega arith))

-- a table of all its entries, row by row
AreEntries-map : (J : Orbit) (entry : ℕ → ℕ → ℕ) (n : ℕ) → n ≡ 2 * length J.strips → AreEntries J entry (map (entry_of entry n) (range_with_len 0 (n * n)))
AreEntries-map J entry n size = record {
  square = length-map-range_with_len (entry_of entry n) 0 (n * n) ∙ ap (λ (m : ℕ). m * m) size;
  each = λ x y lx ly.
      let row : x < n = omega arith in
      let column : y < n = omega arith in
      let k = x * n + y in
      ap (λ (m : ℕ). get_or (map (entry_of entry n) (range_with_len 0 (n * n))) (x * m + y) 0) (sym size)
      ∙ get_or-map-range_with_len (entry_of entry n) 0 (n * n) k k 0 (mul-add-lt x n y n row column) (omega arith)
      ∙ ap (λ (i : ℕ). entry i (k % n)) (div-mul-add x n y column)
      ∙ ap (λ (j : ℕ). entry x j) (mod-mul-add x n y column);
}

-- once all places have their entries, the table is whole
pub AreEntries-whole : (J : Orbit) (entry : ℕ → ℕ → ℕ) (n k : ℕ) (es : List ℕ) → n ≡ 2 * length J.strips → n * n ≤ k → k ≤ n * n
    → es ≡ map (entry_of entry n) (range_with_len 0 k) → AreEntries J entry es
AreEntries-whole J entry n k es size enough most entries =
    subst (λ (zs : List ℕ). AreEntries J entry zs)
    (sym (entries ∙ ap (λ (m : ℕ). map (entry_of entry n) (range_with_len 0 m)) (between k (n * n) enough most)))
    (AreEntries-map J entry n size)
  where
    between : (k m : ℕ) → m ≤ k → k ≤ m → k ≡ m
    between k m h g = omega arith

-- what is read at the place of row i and column j is the entry for these two directed strips
pub entry_read : (J : Orbit) (entry : ℕ → ℕ → ℕ) (entries : List ℕ) (x y : ℕ) → AreEntries J entry entries
    → strip_of x < length J.strips → strip_of y < length J.strips
    → (strips : List Strip) (i j v : ℕ) → i ≡ x → j ≡ y → strips ≡ J.strips
    → v ≡ get_or entries (i * (2 * length strips) + j) v → v ≡ entry x y
entry_read J entry entries x y h lx ly strips i j v row column same read =
    let n = 2 * length J.strips in
    let there : x * n + y < length entries = rw h.square (mul-add-lt x n y n (omega arith) (omega arith)) in
    let at : v ≡ get_or entries (x * n + y) v =
    read
    ∙ ap (λ (m : ℕ). get_or entries (m * (2 * length strips) + j) v) row
    ∙ ap (λ (m : ℕ). get_or entries (x * (2 * length strips) + m) v) column
    ∙ ap (λ (ss : List Strip). get_or entries (x * (2 * length ss) + y) v) same in
    get_or_read entries (x * n + y) v there at 0 ∙ h.each x y lx ly
