-- The lines of an instance are lines that count, of short tokens.
use Rattle.std.proofs.Common.{◌≡◌, ℕ, zero, suc, ◌*◌, ◌^◌, ◌==◌, ◌<◌, ◌≤◌, Bool, true, false, nat_lt, slice_index, List, [], ◌∷◌, ◌++◌, length, map, take, drop, Option, Some, None, IfSome, codes, decimal, refl, ◌∙◌, ap, arith, length-take, length-drop}
use Rattle.std.specs.Prelude.{not, ◌||◌, nat_le}
use Rattle.std.specs.Char.{is_ascii_digit}
use Rattle.std.specs.List.{All, list_all}
use Rattle.std.proofs.lemmas.Bool.{and_parts}
use Rattle.std.proofs.lemmas.Bool.Decides.{nat_tests}
use Rattle.std.proofs.lemmas.Fmt.{digits_decimal, decimal_nonempty, length-decimal-le}
use Rattle.std.proofs.lemmas.List.Elements.{All-nil, All-cons, All-append, All-weaker, All-map, All-take, All-drop, All-head, All-from_get_or}
use Rattle.manoeuvre.specs.Grid.{Grid, IsTable}
use Rattle.manoeuvre.specs.declared.limits.TheConstants.{MAX_MANOEUVRE}
use Rattle.seq_io.proofs.Decimal.{own}
use Rattle.strip_model.specs.IsInstance.{IsInstance, IsWindow, IsStrip, IsTwinOf}
use Rattle.strip_model.specs.declared.limits.TheConstants.{MAX_REQUESTS, MAX_STRIPS, MAX_GAIN}
use Rattle.strip_model.specs.Orbit.{Orbit, no_strip, strip_in, window_of}
use Rattle.strip_model.specs.declared.request.Request.{Request}
use Rattle.strip_model.specs.declared.strip.Strip.{Strip}
use Rattle.strip_model.specs.declared.window.Window.{Window}
use Rattle.instance_text.specs.Lines.{LF, HASH, is_separator, is_passed_over, lines_that_count}
use Rattle.instance_text.specs.Spelling.{request_line, strip_line, twin_token, window_tokens, rows_of, table_lines, lines_of, spelling}
use Rattle.instance_text.specs.Text.{IsStripInText, IsText}
use Rattle.instance_text.proofs.Cutting.{IsPlain, IsToken, IsLine, tokens_in, lines_that_count-spelled}

-- what a test says holds of each byte for which it is so
pub All-from_list_all : (test : ℕ → Bool) (P : ℕ → Type 0) → ((b : ℕ) → test b ≡ true → P b) → (bytes : List ℕ) → list_all test bytes ≡ true → All P bytes
All-from_list_all test P each [] h = All-nil P
All-from_list_all test P each (b ∷ bytes) h =
    let parts = and_parts (test b) (list_all test bytes) h in
    All-cons P b bytes (each b parts.0) (All-from_list_all test P each bytes parts.1)

-- a byte can stand in a token, as a test
abbrev is_plain : ℕ → Bool
is_plain b = not (is_separator b || b == LF)

IsPlain-from_test : (b : ℕ) → is_plain b ≡ true → IsPlain b
IsPlain-from_test b h = record { no_separator = grind (arith, nat_tests); no_end = grind (arith, nat_tests) }

IsPlain-from_digit : (b : ℕ) → is_ascii_digit b ≡ true → IsPlain b
IsPlain-from_digit b h = record { no_separator = grind (arith, nat_tests); no_end = grind (arith, nat_tests) }

-- a word is a token where these tests say so
IsToken-from_tests : (word : List ℕ) → nat_lt 0 (length word) ≡ true → list_all is_plain word ≡ true → nat_le (length word) 10 ≡ true → IsToken word
IsToken-from_tests word some plain short = record {
  some = some;
  plain = All-from_list_all is_plain IsPlain IsPlain-from_test word plain;
  short = grind (arith, nat_tests);
}

-- numbers of at most ten digits
abbrev pub IsSmall : ℕ → Type 0
IsSmall n = n < 10 ^ 10

pub IsSmall-fits : (n : ℕ) → IsSmall n → n < 2 ^ 64
IsSmall-fits n small = omega arith

IsToken-decimal : (n : ℕ) → IsSmall n → IsToken (decimal n)
IsToken-decimal n small =
    let fits = IsSmall-fits n small in
    let some = decimal_nonempty n fits in
    record {
      some = grind (arith, nat_tests);
      plain = All-from_list_all is_ascii_digit IsPlain IsPlain-from_digit (decimal n) (digits_decimal own n fits);
      short = length-decimal-le 10 n (omega arith) small fits;
    }

first-digit : (digits : List ℕ) (tokens : List (List ℕ)) → 0 < length digits → list_all is_ascii_digit digits ≡ true → is_passed_over (digits ∷ tokens) ≡ false
first-digit [] tokens some h = absurd (omega arith)
first-digit (d ∷ digits) tokens some h =
    let digit = (and_parts (is_ascii_digit d) (list_all is_ascii_digit digits) h).0 in
    no_hash d digit where
      no_hash : (d : ℕ) → is_ascii_digit d ≡ true → (d == HASH) ≡ false
      no_hash d digit = grind (arith, nat_tests)

-- a line that begins with a number counts
counts-decimal : (n : ℕ) (tokens : List (List ℕ)) → IsSmall n → is_passed_over (decimal n ∷ tokens) ≡ false
counts-decimal n tokens small =
    let fits = IsSmall-fits n small in
    first-digit (decimal n) tokens (decimal_nonempty n fits) (digits_decimal own n fits)

-- a line of a word and a number
IsLine-count : (word : List ℕ) (n : ℕ) → IsToken word → (slice_index word 0 == HASH) ≡ false → IsSmall n → IsLine (word ∷ decimal n ∷ [])
IsLine-count word n token counts small = record {
  counts = counts;
  each = All-cons IsToken word (decimal n ∷ []) token (All-cons IsToken (decimal n) [] (IsToken-decimal n small) (All-nil IsToken));
}

-- a line of one word
IsLine-word : (word : List ℕ) → IsToken word → (slice_index word 0 == HASH) ≡ false → IsLine (word ∷ [])
IsLine-word word token counts = record { counts = counts; each = All-cons IsToken word [] token (All-nil IsToken) }

IsToken-twin : (twin : Option ℕ) → IfSome twin IsSmall → IsToken (twin_token twin)
IsToken-twin None h = IsToken-from_tests (codes "-") refl refl refl
IsToken-twin (Some twin) h = IsToken-decimal twin h

-- the numbers of a window are small
IsToken-window : (w : Window) → IsWindow w → All IsToken (window_tokens w)
IsToken-window w h =
    All-cons IsToken (decimal w.early) (decimal w.late ∷ decimal w.duration ∷ []) (IsToken-decimal w.early (omega (arith, h.over)))
    (All-cons IsToken (decimal w.late) (decimal w.duration ∷ []) (IsToken-decimal w.late (omega (arith, h.over)))
    (All-cons IsToken (decimal w.duration) [] (IsToken-decimal w.duration (omega (arith, h.over))) (All-nil IsToken)))

IsLine-strip : (requests : ℕ) (s : Strip) → requests ≤ MAX_REQUESTS → IsStrip requests s → IfSome s.twin IsSmall → IsLine (strip_line s)
IsLine-strip requests s few h twin =
    let forth = window_tokens (window_of s 0) in
    let back = window_tokens (window_of s 1) in
    record {
      counts = refl;
      each =
          All-cons IsToken (codes "s") (decimal s.request ∷ twin_token s.twin ∷ decimal s.area ∷ (forth ++ back)) (IsToken-from_tests (codes "s") refl refl refl)
          (All-cons IsToken (decimal s.request) (twin_token s.twin ∷ decimal s.area ∷ (forth ++ back)) (IsToken-decimal s.request (omega (arith, h.request)))
          (All-cons IsToken (twin_token s.twin) (decimal s.area ∷ (forth ++ back)) (IsToken-twin s.twin twin)
          (All-cons IsToken (decimal s.area) (forth ++ back) (IsToken-decimal s.area (omega (arith, h.small)))
          (All-append IsToken forth back (IsToken-window (window_of s 0) h.windows.forth) (IsToken-window (window_of s 1) h.windows.back)))));
    }

pub IsSmall-twin : (strips : List Strip) (i : ℕ) (twin : Option ℕ) → length strips ≤ MAX_STRIPS → IfSome twin (IsTwinOf strips i) → IfSome twin IsSmall
IsSmall-twin strips i None few h = tt
IsSmall-twin strips i (Some j) few h = omega (arith, h.there)

-- a row of small numbers
IsLine-row : (row : List ℕ) → 0 < length row → All IsSmall row → IsLine (map decimal row)
IsLine-row [] some h = absurd (omega arith)
IsLine-row (m ∷ row) some h = record {
  counts = counts-decimal m (map decimal row) (All-head IsSmall m row h);
  each = All-map IsToken decimal (m ∷ row) (All-weaker IsSmall (λ n. IsToken (decimal n)) IsToken-decimal (m ∷ row) h);
}

IsLine-rows : (n size : ℕ) (entries : List ℕ) → n ≤ size → length entries ≡ n * size → All IsSmall entries → All (λ row. IsLine (map decimal row)) (rows_of n size entries)
IsLine-rows zero size entries few square h = All-nil (λ row. IsLine (map decimal row))
IsLine-rows (suc n) size entries few square h =
    let long : size ≤ length entries = omega arith in
    let rest : length (drop size entries) ≡ n * size = omega (arith, length-drop size entries) in
    All-cons (λ row. IsLine (map decimal row)) (take size entries) (rows_of n size (drop size entries))
    (IsLine-row (take size entries) (omega (arith, length-take size entries)) (All-take IsSmall size entries h))
    (IsLine-rows n size (drop size entries) (omega arith) rest (All-drop IsSmall size entries h))

IsLine-table : (t : Grid) → IsTable t → All IsLine (table_lines t)
IsLine-table t h =
    All-map IsLine (λ row. map decimal row) (rows_of t.size t.size t.entries)
    (IsLine-rows t.size t.size t.entries (omega arith) h.square (All-weaker (λ m. m ≤ MAX_MANOEUVRE) IsSmall (λ m small. omega arith) t.entries h.bounded))

IsLine-requests : (requests : List Request) → All (λ r. r.gain ≤ MAX_GAIN) requests → All IsLine (map request_line requests)
IsLine-requests requests h =
    All-map IsLine request_line requests
    (All-weaker (λ r. r.gain ≤ MAX_GAIN) (λ r. IsLine (request_line r)) (λ r small. IsLine-count (codes "r") r.gain (IsToken-from_tests (codes "r") refl refl refl) refl (omega (arith, small))) requests h)

IsLine-strips : (I : Orbit) → IsInstance I → All IsLine (map strip_line I.strips)
IsLine-strips I h =
    All-map IsLine strip_line I.strips
    (All-from_get_or (λ s. IsLine (strip_line s)) I.strips no_strip
    (λ i l. IsLine-strip (length I.requests) (strip_in I.strips i) h.limits.few_requests (h.limits.each_strip i no_strip l) (IsSmall-twin I.strips i (strip_in I.strips i).twin h.limits.few_strips (h.twins i l))))

-- what holds of each kind of line holds of all the lines of an instance
pub All-lines_of : (P : List (List ℕ) → Type 0) (I : Orbit) → P (codes "orbit" ∷ decimal 1 ∷ []) → P (codes "requests" ∷ decimal (length I.requests) ∷ []) → All P (map request_line I.requests) → P (codes "strips" ∷ decimal (length I.strips) ∷ []) → All P (map strip_line I.strips) → P (codes "manoeuvres" ∷ []) → All P (table_lines I.table) → P (codes "end" ∷ []) → All P (lines_of I)
All-lines_of P I orbit requests each_request strips each_strip manoeuvres rows ending =
    let from_table = (codes "manoeuvres" ∷ []) ∷ (table_lines I.table ++ (codes "end" ∷ []) ∷ []) in
    let from_strips = (codes "strips" ∷ decimal (length I.strips) ∷ []) ∷ (map strip_line I.strips ++ from_table) in
    All-cons P (codes "orbit" ∷ decimal 1 ∷ []) ((codes "requests" ∷ decimal (length I.requests) ∷ []) ∷ (map request_line I.requests ++ from_strips)) orbit
    (All-cons P (codes "requests" ∷ decimal (length I.requests) ∷ []) (map request_line I.requests ++ from_strips) requests
    (All-append P (map request_line I.requests) from_strips each_request
    (All-cons P (codes "strips" ∷ decimal (length I.strips) ∷ []) (map strip_line I.strips ++ from_table) strips
    (All-append P (map strip_line I.strips) from_table each_strip
    (All-cons P (codes "manoeuvres" ∷ []) (table_lines I.table ++ (codes "end" ∷ []) ∷ []) manoeuvres
    (All-append P (table_lines I.table) ((codes "end" ∷ []) ∷ []) rows
    (All-cons P (codes "end" ∷ []) [] ending (All-nil P))))))))

-- the lines of an instance count
pub IsLine-lines_of : (I : Orbit) → IsInstance I → All IsLine (lines_of I)
IsLine-lines_of I h =
    All-lines_of IsLine I
    (IsLine-count (codes "orbit") 1 (IsToken-from_tests (codes "orbit") refl refl refl) refl (omega arith))
    (IsLine-count (codes "requests") (length I.requests) (IsToken-from_tests (codes "requests") refl refl refl) refl (omega (arith, h.limits.few_requests)))
    (IsLine-requests I.requests h.limits.gains)
    (IsLine-count (codes "strips") (length I.strips) (IsToken-from_tests (codes "strips") refl refl refl) refl (omega (arith, h.limits.few_strips)))
    (IsLine-strips I h)
    (IsLine-word (codes "manoeuvres") (IsToken-from_tests (codes "manoeuvres") refl refl refl) refl)
    (IsLine-table I.table h.table)
    (IsLine-word (codes "end") (IsToken-from_tests (codes "end") refl refl refl) refl)

-- what is written has the lines of the instance
pub lines_that_count-spelling : (I : Orbit) → IsInstance I → tokens_in (lines_that_count (spelling I)) ≡ lines_of I
lines_that_count-spelling I h = lines_that_count-spelled (lines_of I) (IsLine-lines_of I h)

-- it is a text of the instance
pub IsText-spelling : (I : Orbit) (bytes : List ℕ) → IsInstance I → All IsStripInText I.strips → bytes ≡ spelling I → IsText bytes I
IsText-spelling I bytes h windows e = record {
  sound = h;
  windows = windows;
  lines = ap (λ text. tokens_in (lines_that_count text)) e ∙ lines_that_count-spelling I h;
}
