-- How long the text of an answer can be.
use Rattle.std.proofs.Common.{◌≡◌, ℕ, ◌+◌, ◌*◌, ◌<◌, ◌≤◌, List, [], ◌∷◌, ◌++◌, length, map, reverse, All, codes, decimal, refl, ◌∙◌, ap, arith, length-append}
use Rattle.std.specs.List.{flat_map, join_with_byte}
use Rattle.std.proofs.lemmas.Fmt.{length-decimal-le}
use Rattle.std.proofs.lemmas.Grind.{reverse_onto}
use Rattle.std.proofs.lemmas.List.{length-map, map-append}
use Rattle.std.proofs.lemmas.List.Concat.{flat_map-append}
use Rattle.std.proofs.lemmas.List.Elements.{All-head, All-tail}
use Rattle.std.specs.declared.alloc.Global.{Global}
use Rattle.std.specs.declared.vec.Vec.{Vec}
use Rattle.plan_check.specs.PlanText.{count_line, acquisition_line, acquisition_lines, end_line, IsAcquisitionInText}
use Rattle.proof_log.specs.AnswerText.{word_line, number_line, gain_line, front_lines, side_word, in_time_order, path_line, mark_line, label_count, path_lines, log_lines, IsPathInText, IsMarkInText, IsLogText}
use Rattle.proof_log.specs.Labels.{paths_in}
use Rattle.proof_log.specs.declared.limits.TheConstants.{MAX_LABELS, GAIN_UNIT}
use Rattle.proof_log.specs.declared.log.Log.{Log}
use Rattle.proof_log.specs.declared.mark.Mark.{Mark}
use Rattle.proof_log.specs.declared.mark.Mark.TheVariants.{Retire, Cut}
use Rattle.seq_io.specs.Line.{BLANK, LF, SLASH, spelled_line}
use Rattle.seq_io.specs.Token.{ratio}
use Rattle.strip_model.specs.Directed.{strip_of, direction_of}
use Rattle.strip_model.specs.declared.acquisition.Acquisition.{Acquisition}
use Rattle.strip_model.specs.declared.end.End.{End}
use Rattle.strip_model.specs.declared.end.End.TheVariants.{Forward, Backward}
use Rattle.strip_model.specs.declared.limits.TheConstants.{MAX_HORIZON, MAX_STRIPS, MAX_TOTAL_GAIN}

-- ---- lines

-- the bytes of tokens, with a byte behind each
abbrev tokens_size : List (List ℕ) → ℕ
tokens_size [] = 0
tokens_size (token ∷ tokens) = length token + 1 + tokens_size tokens

joined_size : (tokens : List (List ℕ)) → length (join_with_byte BLANK tokens) ≤ tokens_size tokens
joined_size [] = omega arith
joined_size (token ∷ []) = omega arith
joined_size (token ∷ next ∷ tokens) =
    omega (arith, length-append token (BLANK ∷ join_with_byte BLANK (next ∷ tokens)), joined_size (next ∷ tokens))

line_size : (tokens : List (List ℕ)) → length (spelled_line tokens) ≤ tokens_size tokens + 1
line_size tokens = omega (arith, length-append (join_with_byte BLANK tokens) (LF ∷ []), joined_size tokens)

-- the bytes of lines
bytes_of : List (List (List ℕ)) → ℕ
bytes_of lines = length (flat_map spelled_line lines)

bytes-cons : (line : List (List ℕ)) (lines : List (List (List ℕ))) → bytes_of (line ∷ lines) ≤ tokens_size line + 1 + bytes_of lines
unfolding bytes_of
bytes-cons line lines = omega (arith, length-append (spelled_line line) (flat_map spelled_line lines), line_size line)

bytes-nil : bytes_of [] ≡ 0
unfolding bytes_of
bytes-nil = refl

bytes-append : (xs ys : List (List (List ℕ))) → bytes_of (xs ++ ys) ≡ bytes_of xs + bytes_of ys
unfolding bytes_of
bytes-append xs ys =
    ap (λ (bytes : List ℕ). length bytes) (flat_map-append spelled_line xs ys) ∙ length-append (flat_map spelled_line xs) (flat_map spelled_line ys)

-- ---- the lines of labels

numbers_size : (xs : List ℕ) → All (λ x. x < 2 * MAX_STRIPS) xs → tokens_size (map decimal xs) ≤ 4 * length xs
numbers_size [] small = omega arith
numbers_size (x ∷ xs) small =
    let first : x < 2 * MAX_STRIPS = All-head (λ y. y < 2 * MAX_STRIPS) x xs small in
    let digits : length (decimal x) ≤ 3 = length-decimal-le 3 x (omega arith) (omega (arith, first)) (omega (arith, first)) in
    omega (arith, digits, numbers_size xs (All-tail (λ y. y < 2 * MAX_STRIPS) x xs small))

tokens-append : (xs ys : List (List ℕ)) → tokens_size (xs ++ ys) ≡ tokens_size xs + tokens_size ys
tokens-append [] ys = omega arith
tokens-append (x ∷ xs) ys = omega (arith, tokens-append xs ys)

side_size : (e : End) → length (side_word e) ≤ 1
side_size Forward = omega arith
side_size Backward = omega arith

reversed_size : (xs : List ℕ) → tokens_size (map decimal (reverse xs)) ≡ tokens_size (map decimal xs)
reversed_size [] = refl
reversed_size (x ∷ xs) =
    let turned : tokens_size (map decimal (reverse (x ∷ xs))) ≡ tokens_size (map decimal (reverse xs) ++ decimal x ∷ []) =
    ap (λ (ys : List ℕ). tokens_size (map decimal ys)) (reverse_onto xs x [])
    ∙ ap (λ (ts : List (List ℕ)). tokens_size ts) (map-append decimal (reverse xs) (x ∷ [])) in
    let last : tokens_size (decimal x ∷ []) ≡ length (decimal x) + 1 + 0 = refl in
    let whole : tokens_size (map decimal (x ∷ xs)) ≡ length (decimal x) + 1 + tokens_size (map decimal xs) = refl in
    omega (arith, turned, tokens-append (map decimal (reverse xs)) (decimal x ∷ []), last, whole, reversed_size xs)

in_time_size : (e : End) (path : List ℕ) → tokens_size (map decimal (in_time_order e path)) ≡ tokens_size (map decimal path)
in_time_size Forward path = refl
in_time_size Backward path = reversed_size path

path_size : (e : End) (path : List ℕ) → IsPathInText path → tokens_size (path_line e path) ≤ 258
path_size e path h =
    let parts : tokens_size (path_line e path) ≡ length (side_word e) + 1 + tokens_size (map decimal (in_time_order e path)) = refl in
    omega (arith, parts, side_size e, in_time_size e path, numbers_size path h.each, h.few)

paths_size : (e : End) (paths : List (List ℕ)) → All IsPathInText paths → bytes_of (map (path_line e) paths) ≤ 259 * length paths
paths_size e [] h = omega (arith, bytes-nil)
paths_size e (path ∷ paths) h =
    omega (
      arith,
      bytes-cons (path_line e path) (map (path_line e) paths),
      path_size e path (All-head IsPathInText path paths h),
      paths_size e paths (All-tail IsPathInText path paths h),
    )

-- ---- the lines of marks

label_digits : (a : ℕ) → a < MAX_LABELS → length (decimal a) ≤ 7
label_digits a small = length-decimal-le 7 a (omega arith) (omega (arith, small)) (omega (arith, small))

mark_size : (mark : Mark) → IsMarkInText mark → tokens_size (mark_line mark) ≤ 20
mark_size (Retire e a b) h =
    let parts : tokens_size (mark_line (Retire e a b)) ≡ 2 + (length (side_word e) + 1 + (length (decimal a) + 1 + (length (decimal b) + 1 + 0))) = refl in
    omega (arith, parts, side_size e, label_digits a h.0, label_digits b h.1)
mark_size (Cut e a) h =
    let parts : tokens_size (mark_line (Cut e a)) ≡ 2 + (length (side_word e) + 1 + (length (decimal a) + 1 + 0)) = refl in
    omega (arith, parts, side_size e, label_digits a h)

marks_size : (marks : List Mark) → All IsMarkInText marks → bytes_of (map mark_line marks) ≤ 21 * length marks
marks_size [] h = omega (arith, bytes-nil)
marks_size (mark ∷ marks) h =
    omega (
      arith,
      bytes-cons (mark_line mark) (map mark_line marks),
      mark_size mark (All-head IsMarkInText mark marks h),
      marks_size marks (All-tail IsMarkInText mark marks h),
    )

-- ---- the lines of the plan

acquisition_size : (a : Acquisition) → IsAcquisitionInText a → tokens_size (acquisition_line a) ≤ 17
acquisition_size a h =
    let parts : tokens_size (acquisition_line a)
    ≡ length (decimal a.start) + 1 + (length (decimal (strip_of a.at)) + 1 + (length (decimal (direction_of a.at)) + 1 + 0)) = refl in
    let start : length (decimal a.start) ≤ 10 = length-decimal-le 10 a.start (omega arith) (omega (arith, h.start)) (omega (arith, h.start)) in
    let strip : length (decimal (strip_of a.at)) ≤ 2 =
    length-decimal-le 2 (strip_of a.at) (omega arith) (omega (arith, h.strip)) (omega (arith, h.strip)) in
    let direction : length (decimal (direction_of a.at)) ≤ 1 = length-decimal-le 1 (direction_of a.at) (omega arith) (omega arith) (omega arith) in
    omega (arith, parts, start, strip, direction)

plan_size : (plan : List Acquisition) → All IsAcquisitionInText plan → bytes_of (map acquisition_line plan) ≤ 18 * length plan
plan_size [] h = omega (arith, bytes-nil)
plan_size (a ∷ plan) h =
    omega (
      arith,
      bytes-cons (acquisition_line a) (map acquisition_line plan),
      acquisition_size a (All-head IsAcquisitionInText a plan h),
      plan_size plan (All-tail IsAcquisitionInText a plan h),
    )

-- ---- the other lines

number_size : (word : List ℕ) (number : ℕ) → length word ≤ 7 → number ≤ MAX_HORIZON → tokens_size (number_line word number) ≤ 19
number_size word number short small =
    let parts : tokens_size (number_line word number) ≡ length word + 1 + (length (decimal number) + 1 + 0) = refl in
    let digits : length (decimal number) ≤ 10 = length-decimal-le 10 number (omega arith) (omega (arith, small)) (omega (arith, small)) in
    omega (arith, parts, short, digits)

gain_size : (gain : ℕ) → gain ≤ MAX_TOTAL_GAIN → tokens_size (gain_line gain) ≤ 30
gain_size gain small =
    let parts : tokens_size (gain_line gain) ≡ 5 + (length (ratio gain GAIN_UNIT) + 1 + 0) = refl in
    let digits : length (decimal gain) ≤ 16 = length-decimal-le 16 gain (omega arith) (omega (arith, small)) (omega (arith, small)) in
    let unit : length (decimal GAIN_UNIT) ≤ 2 = length-decimal-le 2 GAIN_UNIT (omega arith) (omega arith) (omega arith) in
    omega (arith, parts, digits, unit, length-append (decimal gain) (SLASH ∷ decimal GAIN_UNIT))

front_size : (gain : ℕ) (plan : List Acquisition) (labels : ℕ) → gain ≤ MAX_TOTAL_GAIN → length plan ≤ MAX_STRIPS → All IsAcquisitionInText plan
    → labels ≤ MAX_LABELS → bytes_of (front_lines (codes "Optimal") gain plan labels) ≤ 2000
front_size gain plan labels small few each most =
    let word : tokens_size (word_line (codes "Optimal")) ≡ 8 = refl in
    omega (
      arith,
      bytes-cons (word_line (codes "Optimal")) (gain_line gain ∷ (acquisition_lines plan ++ number_line (codes "labels") labels ∷ [])),
      word,
      bytes-cons (gain_line gain) (acquisition_lines plan ++ number_line (codes "labels") labels ∷ []),
      gain_size gain small,
      bytes-append (acquisition_lines plan) (number_line (codes "labels") labels ∷ []),
      bytes-cons (count_line (length plan)) (map acquisition_line plan),
      number_size (codes "strips") (length plan) (omega arith) (omega (arith, few)),
      plan_size plan each,
      few,
      bytes-cons (number_line (codes "labels") labels) [],
      number_size (codes "labels") labels (omega arith) (omega (arith, most)),
      bytes-nil,
    )

log_size : (log : Log) → log.cut ≤ MAX_HORIZON → ((e : End) → All IsPathInText (paths_in log e)) → All IsMarkInText log.marks.items
    → bytes_of (log_lines log) ≤ 100 + 259 * label_count log + 21 * length log.marks.items
log_size log cut paths marks =
    let word : tokens_size (word_line (codes "log")) ≡ 4 = refl in
    let last : tokens_size end_line ≡ 4 = refl in
    let forward : length (paths_in log Forward) ≡ length log.forward.items = length-map log.forward.items (λ (path : Vec ℕ Global). path.items) in
    let backward : length (paths_in log Backward) ≡ length log.backward.items = length-map log.backward.items (λ (path : Vec ℕ Global). path.items) in
    omega (
      arith,
      bytes-cons (word_line (codes "log"))
          (number_line (codes "cut") log.cut ∷ (path_lines log Forward ++ (path_lines log Backward ++ (map mark_line log.marks.items ++ end_line ∷ [])))),
      word,
      bytes-cons (number_line (codes "cut") log.cut)
          (path_lines log Forward ++ (path_lines log Backward ++ (map mark_line log.marks.items ++ end_line ∷ []))),
      number_size (codes "cut") log.cut (omega arith) cut,
      bytes-append (path_lines log Forward) (path_lines log Backward ++ (map mark_line log.marks.items ++ end_line ∷ [])),
      bytes-append (path_lines log Backward) (map mark_line log.marks.items ++ end_line ∷ []),
      bytes-append (map mark_line log.marks.items) (end_line ∷ []),
      bytes-cons end_line [],
      last,
      bytes-nil,
      paths_size Forward (paths_in log Forward) (paths Forward),
      paths_size Backward (paths_in log Backward) (paths Backward),
      forward,
      backward,
      marks_size log.marks.items marks,
    )

-- the text of an answer with as few marks as labels
pub answer_size : (text : List ℕ) (log : Log) → IsLogText text log → length log.marks.items ≤ label_count log → length text ≤ 600000000
unfolding bytes_of
answer_size text log said few =
    let r = said.in_range in
    omega (
      arith,
      ap (λ (bytes : List ℕ). length bytes) said.spelling,
      bytes-append (front_lines (codes "Optimal") log.gain log.plan.items (label_count log)) (log_lines log),
      front_size log.gain log.plan.items (label_count log) r.gain r.plan.few r.plan.each r.few,
      log_size log r.cut r.paths r.marks,
      r.few,
      few,
    )
