-- What the writer has appended so far and what is left are the whole.
use Rattle.std.proofs.Common.{◌≡◌, ℕ, suc, ◌+◌, ◌-◌, ◌*◌, ◌<◌, ◌≤◌, List, [], ◌∷◌, ◌++◌, length, map, take, drop, get_or, decimal, refl, sym, set, ◌∙◌, ap, arith, append_assoc, append-nil, length-take, length-drop, codes}
use Rattle.std.specs.List.{flat_map}
use Rattle.std.proofs.lemmas.List.{drop-drop, get_or-take, get_or-drop, take_more, take_more_set, take_all}
use Rattle.std.proofs.Math.Nat.{mul-le-mul_right}
use Rattle.manoeuvre.specs.Grid.{Grid, entry_at}
use Rattle.instance_text.specs.Spelling.{rows_of, table_lines, request_line, strip_line, spelling}
use Rattle.seq_io.specs.Line.{spelled_line}
use Rattle.strip_model.specs.Orbit.{Orbit}
use Rattle.std.proofs.lemmas.List.Concat.{flat_map-append}

-- row x of a table
abbrev pub row_of : Grid → ℕ → List ℕ
row_of t x = take t.size (drop (x * t.size) t.entries)

length-row_of : (t : Grid) (x : ℕ) → length t.entries ≡ t.size * t.size → x < t.size → length (row_of t x) ≡ t.size
length-row_of t x square l =
    let within : (x + 1) * t.size ≤ t.size * t.size = mul-le-mul_right t.size (omega arith) in
    omega (arith, length-take t.size (drop (x * t.size) t.entries), length-drop (x * t.size) t.entries)

row_of-at : (t : Grid) (x y : ℕ) → y < t.size → get_or (row_of t x) y 0 ≡ entry_at t x y
row_of-at t x y l = get_or-take t.size (drop (x * t.size) t.entries) y 0 l ∙ get_or-drop (x * t.size) t.entries y 0

-- an entry more of row x is copied
pub row_copied : (t : Grid) (x y entry : ℕ) (row : List ℕ) → length t.entries ≡ t.size * t.size → x < t.size → y < t.size → y < length row
    → entry ≡ entry_at t x y → take y row ≡ take y (row_of t x) → take (y + 1) (set row y entry) ≡ take (y + 1) (row_of t x)
row_copied t x y entry row square lx ly room e before =
    take_more_set row y entry room
    ∙ ap (λ front. front ++ entry ∷ []) before
    ∙ ap (λ m. take y (row_of t x) ++ m ∷ []) (e ∙ sym (row_of-at t x y ly))
    ∙ sym (take_more (row_of t x) y 0 (omega (arith, length-row_of t x square lx)))

-- all entries of row x are
pub row_whole : (t : Grid) (x : ℕ) → length t.entries ≡ t.size * t.size → x < t.size → take t.size (row_of t x) ≡ row_of t x
row_whole t x square lx = take_all t.size (row_of t x) (omega (arith, length-row_of t x square lx))

-- the lines of a table from row x on
abbrev pub rows_from : Grid → ℕ → List ℕ
rows_from t x = flat_map spelled_line (map (λ row. map decimal row) (rows_of (t.size - x) t.size (drop (x * t.size) t.entries)))

pub rows_from-start : (t : Grid) → rows_from t 0 ≡ flat_map spelled_line (table_lines t)
rows_from-start t =
    let whole : t.size - 0 ≡ t.size = omega arith in
    let none : 0 * t.size ≡ 0 = omega arith in
    rw (whole, none) refl

pub rows_from-step : (t : Grid) (x : ℕ) → x < t.size → rows_from t x ≡ spelled_line (map decimal (row_of t x)) ++ rows_from t (x + 1)
rows_from-step t x l =
    let more : t.size - x ≡ suc (t.size - (x + 1)) = omega arith in
    let next : x * t.size + t.size ≡ (x + 1) * t.size = omega arith in
    ap (λ n. flat_map spelled_line (map (λ row. map decimal row) (rows_of n t.size (drop (x * t.size) t.entries)))) more
    ∙ ap (λ entries. spelled_line (map decimal (row_of t x)) ++ flat_map spelled_line (map (λ row. map decimal row) (rows_of (t.size - (x + 1)) t.size entries))) (drop-drop t.size (x * t.size) t.entries ∙ ap (λ n. drop n t.entries) next)

pub rows_from-end : (t : Grid) → rows_from t t.size ≡ []
rows_from-end t =
    let none : t.size - t.size ≡ 0 = omega arith in
    ap (λ n. flat_map spelled_line (map (λ row. map decimal row) (rows_of n t.size (drop (t.size * t.size) t.entries)))) none

-- a row that was copied is written
pub row_written : (t : Grid) (x n : ℕ) (row text longer : List ℕ) → n ≡ t.size → take t.size row ≡ row_of t x → longer ≡ text ++ spelled_line (map decimal (take n row))
    → longer ≡ text ++ spelled_line (map decimal (row_of t x))
row_written t x n row text longer all copied written =
    written ∙ ap (λ (n : ℕ). text ++ spelled_line (map decimal (take n row))) all ∙ ap (λ (entries : List ℕ). text ++ spelled_line (map decimal entries)) copied

-- a further row is written
pub table_continued : (t : Grid) (x : ℕ) (text longer : List ℕ) → x < t.size → longer ≡ text ++ spelled_line (map decimal (row_of t x)) → longer ++ rows_from t (x + 1) ≡ text ++ rows_from t x
table_continued t x text longer l written =
    ap (λ bytes. bytes ++ rows_from t (x + 1)) written
    ∙ append_assoc text (spelled_line (map decimal (row_of t x))) (rows_from t (x + 1))
    ∙ ap (λ rest. text ++ rest) (sym (rows_from-step t x l))

-- the parts of a text, one after another
text_parts : (I : Orbit) → [] ++ spelled_line (codes "orbit" ∷ decimal 1 ∷ []) ++ spelled_line (codes "requests" ∷ decimal (length I.requests) ∷ []) ++ flat_map spelled_line (map request_line I.requests) ++ spelled_line (codes "strips" ∷ decimal (length I.strips) ∷ []) ++ flat_map spelled_line (map strip_line I.strips) ++ spelled_line (codes "manoeuvres" ∷ []) ++ flat_map spelled_line (table_lines I.table) ++ spelled_line (codes "end" ∷ []) ≡ spelling I
text_parts I =
    let orbit = codes "orbit" ∷ decimal 1 ∷ [] in
    let requests = codes "requests" ∷ decimal (length I.requests) ∷ [] in
    let strips = codes "strips" ∷ decimal (length I.strips) ∷ [] in
    let table_on = (codes "manoeuvres" ∷ []) ∷ (table_lines I.table ++ (codes "end" ∷ []) ∷ []) in
    let strips_on = strips ∷ (map strip_line I.strips ++ table_on) in
    regroup (spelled_line orbit) (spelled_line requests) (flat_map spelled_line (map request_line I.requests)) (spelled_line strips) (flat_map spelled_line (map strip_line I.strips)) (spelled_line (codes "manoeuvres" ∷ [])) (flat_map spelled_line (table_lines I.table)) (spelled_line (codes "end" ∷ []))
    ∙ sym (ap (λ rest. spelled_line orbit ++ (spelled_line requests ++ rest)) (flat_map-append spelled_line (map request_line I.requests) strips_on
    ∙ ap (λ rest. flat_map spelled_line (map request_line I.requests) ++ (spelled_line strips ++ rest)) (flat_map-append spelled_line (map strip_line I.strips) table_on
    ∙ ap (λ rest. flat_map spelled_line (map strip_line I.strips) ++ (spelled_line (codes "manoeuvres" ∷ []) ++ rest)) (flat_map-append spelled_line (table_lines I.table) ((codes "end" ∷ []) ∷ []))))) where
      regroup : (a b c d e f g h : List ℕ) → a ++ b ++ c ++ d ++ e ++ f ++ g ++ h ≡ a ++ (b ++ (c ++ (d ++ (e ++ (f ++ (g ++ (h ++ [])))))))
      regroup a b c d e f g h = simp (append_assoc, append-nil)

-- the same, as a text is written
pub text_written : (I : Orbit) (t0 t1 t2 t3 t4 t5 t6 t7 t8 : List ℕ) → t0 ≡ [] → t1 ≡ t0 ++ spelled_line (codes "orbit" ∷ decimal 1 ∷ []) → t2 ≡ t1 ++ spelled_line (codes "requests" ∷ decimal (length I.requests) ∷ []) → t3 ≡ t2 ++ flat_map spelled_line (map request_line I.requests) → t4 ≡ t3 ++ spelled_line (codes "strips" ∷ decimal (length I.strips) ∷ []) → t5 ≡ t4 ++ flat_map spelled_line (map strip_line I.strips) → t6 ≡ t5 ++ spelled_line (codes "manoeuvres" ∷ []) → t7 ≡ t6 ++ flat_map spelled_line (table_lines I.table) → t8 ≡ t7 ++ spelled_line (codes "end" ∷ []) → t8 ≡ spelling I
text_written I t0 t1 t2 t3 t4 t5 t6 t7 t8 e0 e1 e2 e3 e4 e5 e6 e7 e8 = cc (text_parts I)
