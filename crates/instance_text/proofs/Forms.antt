-- The form of a text, as far as its lines were read.
use Rattle.std.proofs.Common.{◌≡◌, ℕ, ◌+◌, ◌*◌, ◌^◌, ◌<◌, ◌≤◌, List, [], ◌∷◌, ◌++◌, length, map, replicate, decimal, codes, get_or, Option, Some, refl, sym, ap, subst, ◌∙◌, append_assoc, arith}
use Rattle.std.proofs.lemmas.List.{get_or-map, get_or_at, length-map, length-append}
use Rattle.strip_model.specs.declared.limits.TheConstants.{MAX_REQUESTS, MAX_STRIPS}
use Rattle.seq_io.specs.Number.{number_value}
use Rattle.seq_io.proofs.Decimal.{number_value-decimal}
use Rattle.instance_text.specs.Lines.{Line}
use Rattle.instance_text.specs.Shape.{Field, orbit_fields, count_fields, heading_fields, request_fields, strip_fields, row_fields, text_fields, lines_fault, count_in, form_of, no_line}
use Rattle.instance_text.specs.Reading.{Rest, words_of, PassesLines, IsRefusedAtLines}
use Rattle.instance_text.specs.Refusal.{IfRefused}
use Rattle.instance_text.specs.declared.refusal.Refusal.{Refusal}
use Rattle.instance_text.specs.declared.refusal.TextRefusal.{TextRefusal}
use Rattle.instance_text.specs.declared.refusal.TextRefusal.TheVariants.{Refused, Memory}

-- what is wrong with the lines that are left, if these forms must follow
abbrev pub fault_in : List (List Field) → Rest → Option Refusal
fault_in forms rest = lines_fault forms rest.count rest.lines

-- the forms after the requests, after the strips, and after the rows
abbrev pub after_requests : ℕ → ℕ → List (List Field)
after_requests q n =
    count_fields (codes "strips") MAX_STRIPS
    ∷ (replicate n (strip_fields q n)
    ++ heading_fields (codes "manoeuvres")
    ∷ (replicate (2 * n) (row_fields (2 * n))
    ++ heading_fields (codes "end") ∷ []))

abbrev pub after_strips : ℕ → List (List Field)
after_strips n =
    heading_fields (codes "manoeuvres")
    ∷ (replicate (2 * n) (row_fields (2 * n))
    ++ heading_fields (codes "end") ∷ [])

abbrev pub after_heading : ℕ → List (List Field)
after_heading n = replicate (2 * n) (row_fields (2 * n)) ++ heading_fields (codes "end") ∷ []

-- the number that a line says in its second token
pub count_at : (k : ℕ) (lines : List Line) (front : List (List (List ℕ))) (word : List ℕ) (n : ℕ) (rest : List (List (List ℕ))) → n < 2 ^ 64
    → map (λ line. line.tokens) lines ≡ front ++ (word ∷ decimal n ∷ []) ∷ rest → length front ≡ k → count_in k lines ≡ n
count_at k lines front word n rest small words len =
    let long : k < length lines = omega (arith, sym (length-map lines (λ (line : Line). line.tokens)), ap length words, length-append front ((word ∷ decimal n ∷ []) ∷ rest)) in
    let tokens : (get_or lines k no_line).tokens ≡ word ∷ decimal n ∷ [] =
    sym (get_or-map (λ (line : Line). line.tokens) lines k no_line [] long)
    ∙ ap (λ (words : List (List (List ℕ))). get_or words k []) words
    ∙ get_or_at front (word ∷ decimal n ∷ []) rest [] k len in
    ap (λ (tokens : List (List ℕ)). number_value (get_or tokens 1 [])) tokens ∙ number_value-decimal n small

pub form_with : (lines : List Line) (q n : ℕ) → count_in 1 lines ≡ q → count_in (2 + q) lines ≡ n → form_of lines ≡ text_fields q n
form_with lines q n one two =
    ap (λ (q : ℕ). text_fields q (count_in (2 + q) lines)) one ∙ ap (λ (n : ℕ). text_fields q n) two

-- The lines of r0 were read up to the requests, of which there must be q: r2 is what is left.
pub record AtRequests (r0 r2 : Rest) (q : ℕ) : Type 0 where
  pub counted : count_in 1 r0.lines ≡ q
  pub at : (n : ℕ) → fault_in (text_fields q n) r0 ≡ fault_in (replicate q request_fields ++ after_requests q n) r2
  pub front : List (List (List ℕ))
  pub words : words_of r0 ≡ front ++ words_of r2
  pub len : length front ≡ 2

pub at_requests : (r0 r1 r2 : Rest) (first : List (List ℕ)) (word : List ℕ) (q : ℕ) → q ≤ MAX_REQUESTS
    → PassesLines (orbit_fields ∷ []) r0 r1 → words_of r0 ≡ first ∷ words_of r1
    → PassesLines (count_fields (codes "requests") MAX_REQUESTS ∷ []) r1 r2 → words_of r1 ≡ (word ∷ decimal q ∷ []) ∷ words_of r2 → AtRequests r0 r2 q
at_requests r0 r1 r2 first word q small p0 w0 p1 w1 =
    let words : words_of r0 ≡ first ∷ (word ∷ decimal q ∷ []) ∷ words_of r2 = w0 ∙ ap (λ (words : List (List (List ℕ))). first ∷ words) w1 in
    record {
      counted = count_at 1 r0.lines (first ∷ []) word q (words_of r2) (omega arith) words refl;
      at = λ n. p0 (count_fields (codes "requests") MAX_REQUESTS ∷ (replicate q request_fields ++ after_requests q n)) ∙ p1 (replicate q request_fields ++ after_requests q n);
      front = first ∷ (word ∷ decimal q ∷ []) ∷ [];
      words = words;
      len = refl;
    }

-- They were read up to the count of strips: r3 is what is left.
pub record AtStripCount (r0 r3 : Rest) (q : ℕ) : Type 0 where
  pub counted : count_in 1 r0.lines ≡ q
  pub at : (n : ℕ) → fault_in (text_fields q n) r0 ≡ fault_in (after_requests q n) r3
  pub front : List (List (List ℕ))
  pub words : words_of r0 ≡ front ++ words_of r3
  pub len : length front ≡ 2 + q

pub at_strip_count : (r0 r2 r3 : Rest) (q : ℕ) (lines : List (List (List ℕ))) → AtRequests r0 r2 q
    → PassesLines (replicate q request_fields) r2 r3 → words_of r2 ≡ lines ++ words_of r3 → length lines ≡ q → AtStripCount r0 r3 q
at_strip_count r0 r2 r3 q lines so_far p2 w2 len = record {
  counted = so_far.counted;
  at = λ n. so_far.at n ∙ p2 (after_requests q n);
  front = so_far.front ++ lines;
  words = so_far.words ∙ ap (λ (words : List (List (List ℕ))). so_far.front ++ words) w2 ∙ sym (append_assoc so_far.front lines (words_of r3));
  len = length-append so_far.front lines ∙ rw (so_far.len, len) refl;
}

-- They were read up to the strips, of which there must be n: r4 is what is left.
pub at_strips : (r0 r3 r4 : Rest) (q n : ℕ) (word : List ℕ) → n ≤ MAX_STRIPS → AtStripCount r0 r3 q
    → PassesLines (count_fields (codes "strips") MAX_STRIPS ∷ []) r3 r4 → words_of r3 ≡ (word ∷ decimal n ∷ []) ∷ words_of r4
    → fault_in (form_of r0.lines) r0 ≡ fault_in (replicate n (strip_fields q n) ++ after_strips n) r4
at_strips r0 r3 r4 q n word small so_far p3 w3 =
    let words : words_of r0 ≡ so_far.front ++ (word ∷ decimal n ∷ []) ∷ words_of r4 = so_far.words ∙ ap (λ (words : List (List (List ℕ))). so_far.front ++ words) w3 in
    let counted : count_in (2 + q) r0.lines ≡ n = count_at (2 + q) r0.lines so_far.front word n (words_of r4) (omega arith) words so_far.len in
    ap (λ (forms : List (List Field)). fault_in forms r0) (form_with r0.lines q n so_far.counted counted)
    ∙ so_far.at n ∙ p3 (replicate n (strip_fields q n) ++ after_strips n)

-- where the first two lines are refused
pub refused_at_orbit : (r0 : Rest) (r : Refusal) → IsRefusedAtLines (orbit_fields ∷ []) r0 r → fault_in (form_of r0.lines) r0 ≡ Some r
refused_at_orbit r0 r refused =
    let q : ℕ = count_in 1 r0.lines in
    let n : ℕ = count_in (2 + q) r0.lines in
    refused (count_fields (codes "requests") MAX_REQUESTS ∷ (replicate q request_fields ++ after_requests q n))

pub refused_at_request_count : (r0 r1 : Rest) (r : Refusal) → PassesLines (orbit_fields ∷ []) r0 r1 → IsRefusedAtLines (count_fields (codes "requests") MAX_REQUESTS ∷ []) r1 r → fault_in (form_of r0.lines) r0 ≡ Some r
refused_at_request_count r0 r1 r p0 refused =
    let q : ℕ = count_in 1 r0.lines in
    let n : ℕ = count_in (2 + q) r0.lines in
    p0 (count_fields (codes "requests") MAX_REQUESTS ∷ (replicate q request_fields ++ after_requests q n)) ∙ refused (replicate q request_fields ++ after_requests q n)

-- where the lines are refused before they say how many strips there are
pub refused_at_requests : (r0 r2 : Rest) (q : ℕ) (e : TextRefusal) → AtRequests r0 r2 q → IfRefused e (IsRefusedAtLines (replicate q request_fields) r2) → IfRefused e (λ r. fault_in (form_of r0.lines) r0 ≡ Some r)
refused_at_requests r0 r2 q Memory so_far refused = tt
refused_at_requests r0 r2 q (Refused r) so_far refused =
    let n : ℕ = count_in (2 + q) r0.lines in
    ap (λ (forms : List (List Field)). fault_in forms r0) (form_with r0.lines q n so_far.counted refl) ∙ so_far.at n ∙ refused (after_requests q n)

pub refused_at_strip_count : (r0 r3 : Rest) (q : ℕ) (r : Refusal) → AtStripCount r0 r3 q → IsRefusedAtLines (count_fields (codes "strips") MAX_STRIPS ∷ []) r3 r → fault_in (form_of r0.lines) r0 ≡ Some r
refused_at_strip_count r0 r3 q r so_far refused =
    let n : ℕ = count_in (2 + q) r0.lines in
    ap (λ (forms : List (List Field)). fault_in forms r0) (form_with r0.lines q n so_far.counted refl) ∙ so_far.at n
    ∙ refused (replicate n (strip_fields q n) ++ after_strips n)

-- where they are refused in a run of lines
pub refused_in_run : (e : TextRefusal) (forms more : List (List Field)) (rest : Rest) (fault : Option Refusal) → fault ≡ fault_in (forms ++ more) rest
    → IfRefused e (IsRefusedAtLines forms rest) → IfRefused e (λ r. fault ≡ Some r)
refused_in_run Memory forms more rest fault so_far refused = tt
refused_in_run (Refused r) forms more rest fault so_far refused = so_far ∙ refused more

pub refused_alike : (e : TextRefusal) (fault other : Option Refusal) → fault ≡ other → IfRefused e (λ r. other ≡ Some r) → IfRefused e (λ r. fault ≡ Some r)
refused_alike e fault other same h = subst (λ (o : Option Refusal). IfRefused e (λ r. o ≡ Some r)) (sym same) h
