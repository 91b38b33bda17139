-- Lines say one instance.
use Rattle.std.proofs.Common.{◌≡◌, ℕ, zero, suc, ◌+◌, ◌*◌, ◌^◌, ◌<◌, ◌≤◌, List, [], ◌∷◌, ◌++◌, length, map, take, drop, get_or, decimal, codes, All, Option, Some, None, IfSome, refl, sym, ap, subst, ◌∙◌, arith}
use Rattle.std.proofs.lemmas.List.{length-map, length-drop, take_at, drop_at, take-append-drop, nil_from_length}
use Rattle.std.proofs.lemmas.List.Elements.{All-head, All-tail, All-take, All-drop}
use Rattle.manoeuvre.specs.declared.limits.TheConstants.{MAX_MANOEUVRE}
use Rattle.seq_io.specs.Number.{number_value}
use Rattle.seq_io.proofs.Decimal.{IsNumber-decimal, number_value-decimal}
use Rattle.strip_model.specs.IsInstance.{IsStrip, IsWindow}
use Rattle.strip_model.specs.Orbit.{Orbit, window_of}
use Rattle.strip_model.specs.declared.limits.TheConstants.{MAX_GAIN}
use Rattle.strip_model.specs.declared.request.Request.{Request}
use Rattle.strip_model.specs.declared.strip.Strip.{Strip}
use Rattle.strip_model.specs.declared.window.Window.{Window}
use Rattle.instance_text.specs.Spelling.{request_line, twin_token, window_tokens, strip_line, rows_of, table_lines, lines_of}
use Rattle.instance_text.specs.Text.{IsInForm, IsStripInText, IsWindowInText}

-- a strip with its two windows written out
abbrev pub with_two_windows : Strip → Strip
with_two_windows s = record s { windows = window_of s 0 ∷ window_of s 1 ∷ [] }

-- ---- tokens

decimal_same : (m n : ℕ) → m < 2 ^ 64 → n < 2 ^ 64 → decimal m ≡ decimal n → m ≡ n
decimal_same m n small_m small_n e = sym (number_value-decimal m small_m) ∙ ap number_value e ∙ number_value-decimal n small_n

-- `-` is no number
no_dash : (n : ℕ) → n < 2 ^ 64 → codes "-" ≡ decimal n → ⊥
no_dash n small e = let number = IsNumber-decimal n small in cc

twin_same : (n : ℕ) (o p : Option ℕ) → n ≤ 2 ^ 64 → IfSome o (λ i. i < n) → IfSome p (λ i. i < n) → twin_token o ≡ twin_token p → o ≡ p
twin_same n None None small ho hp e = refl
twin_same n None (Some j) small ho hp e = absurd (no_dash j (omega arith) e)
twin_same n (Some i) None small ho hp e = absurd (no_dash i (omega arith) (sym e))
twin_same n (Some i) (Some j) small ho hp e = ap (λ (k : ℕ). Some k) (decimal_same i j (omega arith) (omega arith) e)

-- ---- lines

request_same : (r s : Request) → r.gain ≤ MAX_GAIN → s.gain ≤ MAX_GAIN → request_line r ≡ request_line s → r ≡ s
request_same r s hr hs e =
    let gain : r.gain ≡ s.gain = decimal_same r.gain s.gain (omega arith) (omega arith) (ap (λ (words : List (List ℕ)). get_or words 1 []) e) in
    ap (λ (g : ℕ). record { gain = g }) gain

window_same : (v w : Window) → IsWindow v → IsWindow w → IsWindowInText v → IsWindowInText w → window_tokens v ≡ window_tokens w → v ≡ w
window_same v w hv hw tv tw e =
    let early : v.early ≡ w.early = decimal_same v.early w.early (omega (arith, tv.early)) (omega (arith, tw.early)) (ap (λ (words : List (List ℕ)). get_or words 0 []) e) in
    let late : v.late ≡ w.late = decimal_same v.late w.late (omega (arith, tv.late)) (omega (arith, tw.late)) (ap (λ (words : List (List ℕ)). get_or words 1 []) e) in
    let duration : v.duration ≡ w.duration = decimal_same v.duration w.duration (omega (arith, hv.short)) (omega (arith, hw.short)) (ap (λ (words : List (List ℕ)). get_or words 2 []) e) in
    ap (λ (n : ℕ). record { early = n; late = v.late; duration = v.duration }) early
    ∙ ap (λ (n : ℕ). record { early = w.early; late = n; duration = v.duration }) late
    ∙ ap (λ (n : ℕ). record { early = w.early; late = w.late; duration = n }) duration

strip_same : (q n : ℕ) (s t : Strip) → q ≤ 2 ^ 64 → n ≤ 2 ^ 64 → IsStrip q s → IsStrip q t → IfSome s.twin (λ i. i < n) → IfSome t.twin (λ i. i < n) → IsStripInText s → IsStripInText t
    → strip_line s ≡ strip_line t → with_two_windows s ≡ with_two_windows t
strip_same q n s t small_q small_n hs ht us ut es et e =
    let request : s.request ≡ t.request = decimal_same s.request t.request (omega (arith, hs.request)) (omega (arith, ht.request)) (ap (λ (words : List (List ℕ)). get_or words 1 []) e) in
    let twin : s.twin ≡ t.twin = twin_same n s.twin t.twin small_n us ut (ap (λ (words : List (List ℕ)). get_or words 2 []) e) in
    let area : s.area ≡ t.area = decimal_same s.area t.area (omega (arith, hs.small)) (omega (arith, ht.small)) (ap (λ (words : List (List ℕ)). get_or words 3 []) e) in
    let forth : window_of s 0 ≡ window_of t 0 = window_same (window_of s 0) (window_of t 0) hs.windows.forth ht.windows.forth es.forth et.forth (ap (λ (words : List (List ℕ)). take 3 (drop 4 words)) e) in
    let back : window_of s 1 ≡ window_of t 1 = window_same (window_of s 1) (window_of t 1) hs.windows.back ht.windows.back es.back et.back (ap (λ (words : List (List ℕ)). drop 7 words) e) in
    ap (λ (x : ℕ). record { request = x; twin = s.twin; area = s.area; windows = window_of s 0 ∷ window_of s 1 ∷ [] }) request
    ∙ ap (λ (x : Option ℕ). record { request = t.request; twin = x; area = s.area; windows = window_of s 0 ∷ window_of s 1 ∷ [] }) twin
    ∙ ap (λ (x : ℕ). record { request = t.request; twin = t.twin; area = x; windows = window_of s 0 ∷ window_of s 1 ∷ [] }) area
    ∙ ap (λ (x : Window). record { request = t.request; twin = t.twin; area = t.area; windows = x ∷ window_of s 1 ∷ [] }) forth
    ∙ ap (λ (x : Window). record { request = t.request; twin = t.twin; area = t.area; windows = window_of t 0 ∷ x ∷ [] }) back

row_same : (xs ys : List ℕ) → All (λ m. m ≤ MAX_MANOEUVRE) xs → All (λ m. m ≤ MAX_MANOEUVRE) ys → map (λ m. decimal m) xs ≡ map (λ m. decimal m) ys → xs ≡ ys
row_same [] [] hx hy e = refl
row_same [] (y ∷ ys) hx hy e = absurd (let none = ap length e in omega arith)
row_same (x ∷ xs) [] hx hy e = absurd (let none = ap length e in omega arith)
row_same (x ∷ xs) (y ∷ ys) hx hy e =
    let first : x ≡ y = decimal_same x y (omega (arith, All-head (λ m. m ≤ MAX_MANOEUVRE) x xs hx)) (omega (arith, All-head (λ m. m ≤ MAX_MANOEUVRE) y ys hy)) (ap (λ (words : List (List ℕ)). get_or words 0 []) e) in
    let others : xs ≡ ys = row_same xs ys (All-tail (λ m. m ≤ MAX_MANOEUVRE) x xs hx) (All-tail (λ m. m ≤ MAX_MANOEUVRE) y ys hy) (ap (λ (words : List (List ℕ)). drop 1 words) e) in
    ap (λ (z : ℕ). z ∷ xs) first ∙ ap (λ (zs : List ℕ). y ∷ zs) others

-- ---- lists of lines

-- two lists that begin with parts of one length have the same parts
parts_same : {X : Type 0} (a b c d : List X) → a ++ b ≡ c ++ d → length a ≡ length c → (a ≡ c) × (b ≡ d)
parts_same a b c d e len = (
  sym (take_at a b (length a) refl) ∙ ap (λ l. take (length a) l) e ∙ take_at c d (length a) (sym len),
  sym (drop_at a b (length a) refl) ∙ ap (λ l. drop (length a) l) e ∙ drop_at c d (length a) (sym len),
)

requests_same : (xs ys : List Request) → All (λ r. r.gain ≤ MAX_GAIN) xs → All (λ r. r.gain ≤ MAX_GAIN) ys → map request_line xs ≡ map request_line ys → xs ≡ ys
requests_same [] [] hx hy e = refl
requests_same [] (y ∷ ys) hx hy e = absurd (let none = ap length e in omega arith)
requests_same (x ∷ xs) [] hx hy e = absurd (let none = ap length e in omega arith)
requests_same (x ∷ xs) (y ∷ ys) hx hy e =
    let first : x ≡ y = request_same x y (All-head (λ r. r.gain ≤ MAX_GAIN) x xs hx) (All-head (λ r. r.gain ≤ MAX_GAIN) y ys hy) (ap (λ (lines : List (List (List ℕ))). get_or lines 0 []) e) in
    let others : xs ≡ ys = requests_same xs ys (All-tail (λ r. r.gain ≤ MAX_GAIN) x xs hx) (All-tail (λ r. r.gain ≤ MAX_GAIN) y ys hy) (ap (λ (lines : List (List (List ℕ))). drop 1 lines) e) in
    ap (λ (z : Request). z ∷ xs) first ∙ ap (λ (zs : List Request). y ∷ zs) others

-- the limits of the strips of a text with q requests and n strips
pub record AreStrips (q n : ℕ) (strips : List Strip) : Type 0 where
  pub limits : All (IsStrip q) strips
  pub twins : All (λ s. IfSome s.twin (λ i. i < n)) strips
  pub ends : All IsStripInText strips

others_are : (q n : ℕ) (s : Strip) (strips : List Strip) → AreStrips q n (s ∷ strips) → AreStrips q n strips
others_are q n s strips h = record {
  limits = All-tail (IsStrip q) s strips h.limits;
  twins = All-tail (λ s. IfSome s.twin (λ i. i < n)) s strips h.twins;
  ends = All-tail IsStripInText s strips h.ends;
}

strips_same : (q n : ℕ) (xs ys : List Strip) → q ≤ 2 ^ 64 → n ≤ 2 ^ 64 → AreStrips q n xs → AreStrips q n ys → map strip_line xs ≡ map strip_line ys → map with_two_windows xs ≡ map with_two_windows ys
strips_same q n [] [] small_q small_n hx hy e = refl
strips_same q n [] (y ∷ ys) small_q small_n hx hy e = absurd (let none = ap length e in omega arith)
strips_same q n (x ∷ xs) [] small_q small_n hx hy e = absurd (let none = ap length e in omega arith)
strips_same q n (x ∷ xs) (y ∷ ys) small_q small_n hx hy e =
    let two : (s : Strip) (strips : List Strip) → AreStrips q n (s ∷ strips) → IsStrip q s × IfSome s.twin (λ i. i < n) × IsStripInText s = λ s strips h. (All-head (IsStrip q) s strips h.limits, All-head (λ s. IfSome s.twin (λ i. i < n)) s strips h.twins, All-head IsStripInText s strips h.ends) in
    let fx = two x xs hx in
    let fy = two y ys hy in
    let first : with_two_windows x ≡ with_two_windows y = strip_same q n x y small_q small_n fx.0 fy.0 fx.1 fy.1 fx.2 fy.2 (ap (λ (lines : List (List (List ℕ))). get_or lines 0 []) e) in
    let others : map with_two_windows xs ≡ map with_two_windows ys = strips_same q n xs ys small_q small_n (others_are q n x xs hx) (others_are q n y ys hy) (ap (λ (lines : List (List (List ℕ))). drop 1 lines) e) in
    ap (λ (z : Strip). z ∷ map with_two_windows xs) first ∙ ap (λ (zs : List Strip). with_two_windows y ∷ zs) others

rows_same : (n size : ℕ) (xs ys : List ℕ) → length xs ≡ n * size → length ys ≡ n * size → All (λ m. m ≤ MAX_MANOEUVRE) xs → All (λ m. m ≤ MAX_MANOEUVRE) ys
    → map (λ row. map (λ m. decimal m) row) (rows_of n size xs) ≡ map (λ row. map (λ m. decimal m) row) (rows_of n size ys) → xs ≡ ys
rows_same zero size xs ys lx ly hx hy e = nil_from_length xs (omega arith) ∙ sym (nil_from_length ys (omega arith))
rows_same (suc n) size xs ys lx ly hx hy e =
    let product : suc n * size ≡ size + n * size = grind arith in
    let first : take size xs ≡ take size ys = row_same (take size xs) (take size ys) (All-take (λ m. m ≤ MAX_MANOEUVRE) size xs hx) (All-take (λ m. m ≤ MAX_MANOEUVRE) size ys hy) (ap (λ (lines : List (List (List ℕ))). get_or lines 0 []) e) in
    let others : drop size xs ≡ drop size ys = rows_same n size (drop size xs) (drop size ys) (omega (arith, length-drop size xs)) (omega (arith, length-drop size ys)) (All-drop (λ m. m ≤ MAX_MANOEUVRE) size xs hx) (All-drop (λ m. m ≤ MAX_MANOEUVRE) size ys hy) (ap (λ (lines : List (List (List ℕ))). drop 1 lines) e) in
    sym (take-append-drop size xs) ∙ ap (λ (part : List ℕ). part ++ drop size xs) first ∙ ap (λ (part : List ℕ). take size ys ++ part) others ∙ take-append-drop size ys

-- ---- the whole

length-rows_of : (n size : ℕ) (entries : List ℕ) → length (rows_of n size entries) ≡ n
length-rows_of zero size entries = refl
length-rows_of (suc n) size entries = omega (arith, length-rows_of n size (drop size entries))

-- instances of one list of lines have the same requests, strips and entries
pub record AreSame (J K : Orbit) : Type 0 where
  pub requests : J.requests ≡ K.requests
  pub strips : map with_two_windows J.strips ≡ map with_two_windows K.strips
  pub entries : J.table.entries ≡ K.table.entries
  pub size : J.table.size ≡ K.table.size

pub one_meaning : (J K : Orbit) → IsInForm J → IsInForm K → lines_of J ≡ lines_of K → AreSame J K
one_meaning J K hJ hK e =
    let q : length J.requests ≡ length K.requests = decimal_same (length J.requests) (length K.requests) (omega (arith, hJ.limits.few_requests)) (omega (arith, hK.limits.few_requests)) (ap (λ (lines : List (List (List ℕ))). get_or (get_or lines 1 []) 1 []) e) in
    let after_requests = parts_same (map request_line J.requests) _ (map request_line K.requests) _ (ap (λ (lines : List (List (List ℕ))). drop 2 lines) e) (length-map J.requests request_line ∙ q ∙ sym (length-map K.requests request_line)) in
    let n : length J.strips ≡ length K.strips = decimal_same (length J.strips) (length K.strips) (omega (arith, hJ.limits.few_strips)) (omega (arith, hK.limits.few_strips)) (ap (λ (lines : List (List (List ℕ))). get_or (get_or lines 0 []) 1 []) after_requests.1) in
    let after_strips = parts_same (map strip_line J.strips) _ (map strip_line K.strips) _ (ap (λ (lines : List (List (List ℕ))). drop 1 lines) after_requests.1) (length-map J.strips strip_line ∙ n ∙ sym (length-map K.strips strip_line)) in
    let size : J.table.size ≡ K.table.size = hJ.size ∙ ap (λ (n : ℕ). 2 * n) n ∙ sym hK.size in
    let rows = parts_same (table_lines J.table) _ (table_lines K.table) _ (ap (λ (lines : List (List (List ℕ))). drop 1 lines) after_strips.1)
    (length-map (rows_of J.table.size J.table.size J.table.entries) (λ row. map (λ m. decimal m) row) ∙ length-rows_of J.table.size J.table.size J.table.entries ∙ size
    ∙ sym (length-rows_of K.table.size K.table.size K.table.entries) ∙ sym (length-map (rows_of K.table.size K.table.size K.table.entries) (λ row. map (λ m. decimal m) row))) in
    let strips_J : AreStrips (length J.requests) (length J.strips) J.strips = record { limits = hJ.limits.each_strip; twins = hJ.twins; ends = hJ.windows } in
    let strips_K : AreStrips (length K.requests) (length K.strips) K.strips = record { limits = hK.limits.each_strip; twins = hK.twins; ends = hK.windows } in
    record {
      requests = requests_same J.requests K.requests hJ.limits.gains hK.limits.gains after_requests.0;
      strips = strips_same (length J.requests) (length J.strips) J.strips K.strips (omega (arith, hJ.limits.few_requests)) (omega (arith, hJ.limits.few_strips)) strips_J
          (subst (λ (q : ℕ). AreStrips q (length J.strips) K.strips) (sym q) (subst (λ (n : ℕ). AreStrips (length K.requests) n K.strips) (sym n) strips_K)) after_strips.0;
      entries = rows_same J.table.size J.table.size J.table.entries K.table.entries hJ.square (hK.square ∙ ap (λ (n : ℕ). n * n) (sym size)) hJ.entries hK.entries
          (subst (λ (n : ℕ). table_lines J.table ≡ map (λ row. map (λ m. decimal m) row) (rows_of n n K.table.entries)) (sym size) rows.0);
      size = size;
    }
