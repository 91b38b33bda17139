-- The lines of an instance have the form of a text.
use Rattle.std.proofs.Common.{◌≡◌, ℕ, zero, suc, ◌+◌, ◌*◌, ◌^◌, ◌<◌, ◌≤◌, Bool, true, false, cond, List, [], ◌∷◌, ◌++◌, length, map, replicate, take, drop, decimal, codes, All, Option, Some, None, IfSome, refl, sym, ap, subst, ◌∙◌, arith}
use Rattle.std.specs.Option.{option_or, option_map}
use Rattle.std.specs.Str.{bytes_eq}
use Rattle.std.proofs.lemmas.Bool.{le-leb, lt-ltb}
use Rattle.std.proofs.lemmas.List.{length-map, length-take, length-drop}
use Rattle.std.proofs.lemmas.List.Elements.{All-head, All-tail, All-take, All-drop}
use Rattle.manoeuvre.specs.declared.limits.TheConstants.{MAX_DURATION, MAX_MANOEUVRE}
use Rattle.seq_io.proofs.Decimal.{IsNumber-decimal, number_value-decimal}
use Rattle.strip_model.specs.IsInstance.{IsStrip, IsWindow}
use Rattle.strip_model.specs.Orbit.{Orbit, window_of}
use Rattle.strip_model.specs.declared.limits.TheConstants.{MAX_REQUESTS, MAX_STRIPS, MAX_GAIN, MAX_STRIP_AREA}
use Rattle.strip_model.specs.declared.request.Request.{Request}
use Rattle.strip_model.specs.declared.strip.Strip.{Strip}
use Rattle.strip_model.specs.declared.window.Window.{Window}
use Rattle.instance_text.specs.Lines.{Line, text_lines, lines_that_count}
use Rattle.instance_text.specs.Shape.{Field, TheWord, ANumber, ATwin, up_to, from_one_to, count_fields, heading_fields, request_fields, window_fields, strip_fields, row_fields, text_fields, number_fault, token_fault, line_fault, line_refusal, lines_fault, form_fault}
use Rattle.instance_text.specs.Spelling.{request_line, twin_token, window_tokens, strip_line, rows_of, lines_of}
use Rattle.instance_text.specs.Text.{IsInForm, IsStripInText, IsWindowInText, Say}
use Rattle.strip_model.specs.declared.limits.TheConstants.{MAX_WINDOW_END}
use Rattle.instance_text.specs.declared.refusal.Cause.{Cause}
use Rattle.instance_text.specs.declared.refusal.Cause.TheVariants.{Range, TooMany, Version}
use Rattle.instance_text.specs.declared.refusal.Refusal.{Refusal}
use Rattle.instance_text.proofs.Forms.{count_at, form_with}

-- ---- tokens

number_stands : (low past n : ℕ) (cause : Cause) → low ≤ n → n < past → n < 2 ^ 64 → token_fault (ANumber low past cause) (decimal n) ≡ None
number_stands low past n cause above below small =
    rw (IsNumber-decimal n small, number_value-decimal n small, le-leb low n above, lt-ltb n past below) refl

either_none : {X : Type 0} (b : Bool) (o : Option X) → o ≡ None → cond b None o ≡ None
either_none true o h = refl
either_none false o h = h

twin_stands : (past : ℕ) (o : Option ℕ) → past ≤ 2 ^ 64 → IfSome o (λ i. i < past) → token_fault (ATwin past) (twin_token o) ≡ None
twin_stands past None small h = refl
twin_stands past (Some n) small h =
    either_none (bytes_eq (decimal n) (codes "-")) (number_fault 0 past Range (decimal n)) (number_stands 0 past n Range (omega arith) h (omega arith))

-- ---- lines

-- one token more
next_stands : (field : Field) (fields : List Field) (token : List ℕ) (tokens : List (List ℕ)) → token_fault field token ≡ None → line_fault fields tokens ≡ None → line_fault (field ∷ fields) (token ∷ tokens) ≡ None
next_stands field fields token tokens first others = ap (λ (o : Option Cause). option_or o (line_fault fields tokens)) first ∙ others

-- a number up to a limit, and from one to a limit
up_to_stands : (limit n : ℕ) → n ≤ limit → limit < 2 ^ 64 → token_fault (up_to limit) (decimal n) ≡ None
up_to_stands limit n h small = number_stands 0 (limit + 1) n Range (omega arith) (omega arith) (omega arith)

from_one_stands : (limit n : ℕ) → 1 ≤ n → n ≤ limit → limit < 2 ^ 64 → token_fault (from_one_to limit) (decimal n) ≡ None
from_one_stands limit n some h small = number_stands 1 (limit + 1) n Range some (omega arith) (omega arith)

count_stands : (word : List ℕ) (limit n : ℕ) → token_fault (TheWord word) word ≡ None → n ≤ limit → limit < 2 ^ 64 → line_fault (count_fields word limit) (word ∷ decimal n ∷ []) ≡ None
count_stands word limit n same h small =
    next_stands (TheWord word) (ANumber 0 (limit + 1) TooMany ∷ []) word (decimal n ∷ []) same
    (next_stands (ANumber 0 (limit + 1) TooMany) [] (decimal n) [] (number_stands 0 (limit + 1) n TooMany (omega arith) (omega arith) (omega arith)) refl)

request_stands : (r : Request) → r.gain ≤ MAX_GAIN → line_fault request_fields (request_line r) ≡ None
request_stands r h = next_stands (up_to MAX_GAIN) [] (decimal r.gain) [] (up_to_stands MAX_GAIN r.gain h (omega arith)) refl

window_stands : (w : Window) (fields : List Field) (tokens : List (List ℕ)) → IsWindow w → IsWindowInText w → line_fault fields tokens ≡ None → line_fault (window_fields ++ fields) (window_tokens w ++ tokens) ≡ None
window_stands w fields tokens h ends others =
    next_stands (up_to MAX_WINDOW_END) (up_to MAX_WINDOW_END ∷ from_one_to MAX_DURATION ∷ fields) (decimal w.early) (decimal w.late ∷ decimal w.duration ∷ tokens) (up_to_stands MAX_WINDOW_END w.early ends.early (omega arith))
    (next_stands (up_to MAX_WINDOW_END) (from_one_to MAX_DURATION ∷ fields) (decimal w.late) (decimal w.duration ∷ tokens) (up_to_stands MAX_WINDOW_END w.late ends.late (omega arith))
    (next_stands (from_one_to MAX_DURATION) fields (decimal w.duration) tokens (from_one_stands MAX_DURATION w.duration h.takes_time h.short (omega arith)) others))

strip_stands : (requests strips : ℕ) (s : Strip) → requests ≤ MAX_REQUESTS → strips ≤ MAX_STRIPS → IsStrip requests s → IfSome s.twin (λ i. i < strips) → IsStripInText s → line_fault (strip_fields requests strips) (strip_line s) ≡ None
strip_stands requests strips s few_requests few_strips h twin ends =
    let forth : List (List ℕ) = window_tokens (window_of s 0) in
    let back : List (List ℕ) = window_tokens (window_of s 1) in
    next_stands (ANumber 0 requests Range) (ATwin strips ∷ from_one_to MAX_STRIP_AREA ∷ (window_fields ++ window_fields)) (decimal s.request) (twin_token s.twin ∷ decimal s.area ∷ (forth ++ back)) (number_stands 0 requests s.request Range (omega arith) h.request (omega (arith, h.request)))
    (next_stands (ATwin strips) (from_one_to MAX_STRIP_AREA ∷ (window_fields ++ window_fields)) (twin_token s.twin) (decimal s.area ∷ (forth ++ back)) (twin_stands strips s.twin (omega arith) twin)
    (next_stands (from_one_to MAX_STRIP_AREA) (window_fields ++ window_fields) (decimal s.area) (forth ++ back) (from_one_stands MAX_STRIP_AREA s.area h.some_area h.small (omega arith))
    (window_stands (window_of s 0) window_fields back h.windows.forth ends.forth
    (window_stands (window_of s 1) [] [] h.windows.back ends.back refl))))

row_stands : (row : List ℕ) → All (λ m. m ≤ MAX_MANOEUVRE) row → line_fault (row_fields (length row)) (map (λ m. decimal m) row) ≡ None
row_stands [] h = refl
row_stands (m ∷ row) h =
    next_stands (up_to MAX_MANOEUVRE) (row_fields (length row)) (decimal m) (map (λ m. decimal m) row)
    (up_to_stands MAX_MANOEUVRE m (All-head (λ m. m ≤ MAX_MANOEUVRE) m row h) (omega arith))
    (row_stands row (All-tail (λ m. m ≤ MAX_MANOEUVRE) m row h))

-- ---- lists of lines

-- each line has its form, and there are as many
abbrev pub Stand : List (List Field) → List (List (List ℕ)) → Type 0
Stand [] [] = Unit {0}
Stand (form ∷ forms) (words ∷ more) = (line_fault form words ≡ None) × Stand forms more
Stand [] (words ∷ more) = ⊥
Stand (form ∷ forms) [] = ⊥

no_fault : (forms : List (List Field)) (count : ℕ) (lines : List Line) → Stand forms (map (λ line. line.tokens) lines) → lines_fault forms count lines ≡ None
no_fault [] count [] h = refl
no_fault [] count (line ∷ lines) h = absurd h
no_fault (form ∷ forms) count [] h = absurd h
no_fault (form ∷ forms) count (line ∷ lines) h =
    let stands : line_refusal form line ≡ None = ap (λ (o : Option Cause). option_map (λ cause. record { line = line.number; cause = cause }) o) h.0 in
    ap (λ (o : Option Refusal). option_or o (lines_fault forms count lines)) stands ∙ no_fault forms count lines h.1

requests_stand : (requests : List Request) (forms : List (List Field)) (more : List (List (List ℕ))) → All (λ r. r.gain ≤ MAX_GAIN) requests → Stand forms more
    → Stand (replicate (length requests) request_fields ++ forms) (map request_line requests ++ more)
requests_stand [] forms more h others = others
requests_stand (r ∷ requests) forms more h others =
    (request_stands r (All-head (λ r. r.gain ≤ MAX_GAIN) r requests h), requests_stand requests forms more (All-tail (λ r. r.gain ≤ MAX_GAIN) r requests h) others)

strips_stand : (q n : ℕ) (strips : List Strip) (forms : List (List Field)) (more : List (List (List ℕ))) → q ≤ MAX_REQUESTS → n ≤ MAX_STRIPS
    → All (IsStrip q) strips → All (λ s. IfSome s.twin (λ i. i < n)) strips → All IsStripInText strips → Stand forms more
    → Stand (replicate (length strips) (strip_fields q n) ++ forms) (map strip_line strips ++ more)
strips_stand q n [] forms more few_requests few_strips h twins ends others = others
strips_stand q n (s ∷ strips) forms more few_requests few_strips h twins ends others = (
  strip_stands q n s few_requests few_strips (All-head (IsStrip q) s strips h) (All-head (λ s. IfSome s.twin (λ i. i < n)) s strips twins) (All-head IsStripInText s strips ends),
  strips_stand q n strips forms more few_requests few_strips (All-tail (IsStrip q) s strips h) (All-tail (λ s. IfSome s.twin (λ i. i < n)) s strips twins) (All-tail IsStripInText s strips ends) others,
)

rows_stand : (n size : ℕ) (entries : List ℕ) (forms : List (List Field)) (more : List (List (List ℕ))) → length entries ≡ n * size → All (λ m. m ≤ MAX_MANOEUVRE) entries → Stand forms more
    → Stand (replicate n (row_fields size) ++ forms) (map (λ row. map (λ m. decimal m) row) (rows_of n size entries) ++ more)
rows_stand zero size entries forms more len h others = others
rows_stand (suc n) size entries forms more len h others =
    let product : suc n * size ≡ size + n * size = grind arith in
    let one : length (take size entries) ≡ size = omega (arith, length-take size entries) in
    let rest : length (drop size entries) ≡ n * size = omega (arith, length-drop size entries) in
    let row = row_stands (take size entries) (All-take (λ m. m ≤ MAX_MANOEUVRE) size entries h) in (
      subst (λ (size' : ℕ). line_fault (row_fields size') (map (λ m. decimal m) (take size entries)) ≡ None) one row,
      rows_stand n size (drop size entries) forms more rest (All-drop (λ m. m ≤ MAX_MANOEUVRE) size entries h) others,
    )

lines_stand : (J : Orbit) → IsInForm J → Stand (text_fields (length J.requests) (length J.strips)) (lines_of J)
lines_stand J h =
    let q : ℕ = length J.requests in
    let n : ℕ = length J.strips in
    let size : J.table.size ≡ 2 * n = h.size in
    let rows = rows_stand J.table.size J.table.size J.table.entries (heading_fields (codes "end") ∷ []) ((codes "end" ∷ []) ∷ []) h.square h.entries (refl, tt) in
    let table = subst (λ (size : ℕ). Stand (replicate size (row_fields size) ++ heading_fields (codes "end") ∷ []) (map (λ row. map (λ m. decimal m) row) (rows_of J.table.size J.table.size J.table.entries) ++ (codes "end" ∷ []) ∷ [])) size rows in (
      next_stands (ANumber 1 2 Version) [] (decimal 1) [] (number_stands 1 2 1 Version (omega arith) (omega arith) (omega arith)) refl,
      (
        count_stands (codes "requests") MAX_REQUESTS q refl h.limits.few_requests (omega arith),
        requests_stand J.requests _ _ h.limits.gains (
          count_stands (codes "strips") MAX_STRIPS n refl h.limits.few_strips (omega arith),
          strips_stand q n J.strips _ _ h.limits.few_requests h.limits.few_strips h.limits.each_strip h.twins h.windows
              (refl, table),
        ),
      ),
    )

-- bytes that say what has the form of a text have that form
pub form_stands : (bytes : List ℕ) (J : Orbit) → IsInForm J → Say bytes J → form_fault bytes ≡ None
form_stands bytes J h said =
    let lines : List Line = lines_that_count bytes in
    let q : ℕ = length J.requests in
    let n : ℕ = length J.strips in
    let requests = count_at 1 lines ((codes "orbit" ∷ decimal 1 ∷ []) ∷ []) (codes "requests") q _ (omega (arith, h.limits.few_requests)) said refl in
    let front : List (List (List ℕ)) = (codes "orbit" ∷ decimal 1 ∷ []) ∷ (codes "requests" ∷ decimal q ∷ []) ∷ map request_line J.requests in
    let strips = count_at (2 + q) lines front (codes "strips") n _ (omega (arith, h.limits.few_strips)) said (omega (arith, length-map J.requests request_line)) in
    ap (λ (forms : List (List Field)). lines_fault forms (length (text_lines bytes)) lines) (form_with lines q n requests strips)
    ∙ no_fault (text_fields q n) (length (text_lines bytes)) lines (subst (λ (words : List (List (List ℕ))). Stand (text_fields q n) words) (sym said) (lines_stand J h))
