-- The form that the lines of a text must have, and the first place at which they don't have it.
use Rattle.std.specs.Prelude.{ℕ, ◌+◌, ◌*◌, ◌&&◌, if◌then◌else◌, nat_le, nat_lt, List, [], ◌∷◌, ◌++◌, length, Option, None, Some, codes, replicate, slice_index_or}
use Rattle.std.specs.Option.{option_map, option_or}
use Rattle.std.specs.Str.{bytes_eq}
use Rattle.seq_io.specs.Number.{is_number, number_value}
use Rattle.instance_text.specs.Lines.{Line, text_lines, lines_that_count}
use Rattle.instance_text.specs.declared.refusal.Cause.{Cause}
use Rattle.instance_text.specs.declared.refusal.Cause.TheVariants.{Ended, Word, Number, Range, TooMany, Extra, Version}
use Rattle.instance_text.specs.declared.refusal.Refusal.{Refusal}
use Rattle.manoeuvre.specs.declared.limits.TheConstants.{MAX_DURATION, MAX_MANOEUVRE}
use Rattle.strip_model.specs.declared.limits.TheConstants.{MAX_REQUESTS, MAX_STRIPS, MAX_GAIN, MAX_STRIP_AREA, MAX_WINDOW_END}

-- what a token must be: a fixed word; a number from `low` on and below `past`, else for this cause; `-` or a number
-- below `past`
pub data Field : Type 0 where
  TheWord : (word : List ℕ) → Field
  ANumber : (low past : ℕ) → (cause : Cause) → Field
  ATwin : (past : ℕ) → Field

-- the numbers up to a limit, for the cause Range
abbrev pub up_to : ℕ → Field
up_to limit = ANumber 0 (limit + 1) Range

-- the same from 1 on
abbrev pub from_one_to : ℕ → Field
from_one_to limit = ANumber 1 (limit + 1) Range

-- the first line: the version
abbrev pub orbit_fields : List Field
orbit_fields = TheWord (codes "orbit") ∷ ANumber 1 2 Version ∷ []

-- a line that says how many lines of a kind follow, up to a limit
abbrev pub count_fields : List ℕ → ℕ → List Field
count_fields word limit = TheWord word ∷ ANumber 0 (limit + 1) TooMany ∷ []

-- a line of one word
abbrev pub heading_fields : List ℕ → List Field
heading_fields word = TheWord word ∷ []

-- a request's line
abbrev pub request_fields : List Field
request_fields = TheWord (codes "r") ∷ up_to MAX_GAIN ∷ []

-- a window: its ends and its duration
abbrev pub window_fields : List Field
window_fields = up_to MAX_WINDOW_END ∷ up_to MAX_WINDOW_END ∷ from_one_to MAX_DURATION ∷ []

-- a strip's line, where there are that many requests and strips
abbrev pub strip_fields : ℕ → ℕ → List Field
strip_fields requests strips =
    TheWord (codes "s") ∷ ANumber 0 requests Range ∷ ATwin strips ∷ from_one_to MAX_STRIP_AREA
    ∷ (window_fields ++ window_fields)

-- a row of a table with that many columns
abbrev pub row_fields : ℕ → List Field
row_fields size = replicate size (up_to MAX_MANOEUVRE)

-- the head of a text, before the line that counts the requests: today the version alone
abbrev pub head_fields : List (List Field)
head_fields = orbit_fields ∷ []

-- The lines of a text with that many requests and strips.
abbrev pub text_fields : ℕ → ℕ → List (List Field)
text_fields requests strips =
    head_fields
    ++ count_fields (codes "requests") MAX_REQUESTS
    ∷ (replicate requests request_fields
    ++ count_fields (codes "strips") MAX_STRIPS
    ∷ (replicate strips (strip_fields requests strips)
    ++ heading_fields (codes "manoeuvres")
    ∷ (replicate (2 * strips) (row_fields (2 * strips))
    ++ heading_fields (codes "end") ∷ [])))

-- why a token is no number from `low` on and below `past`, if it is none
abbrev pub number_fault : ℕ → ℕ → Cause → List ℕ → Option Cause
number_fault low past cause token =
    if is_number token then (if nat_le low (number_value token) && nat_lt (number_value token) past then None else Some cause)
    else Some Number

-- why a token can't stand where this must stand, if it can't
abbrev pub token_fault : Field → List ℕ → Option Cause
token_fault (TheWord word) token = if bytes_eq token word then None else Some Word
token_fault (ANumber low past cause) token = number_fault low past cause token
token_fault (ATwin past) token = if bytes_eq token (codes "-") then None else number_fault 0 past Range token

-- The first token that can't stand in a line decides, from the left. A missing one counts at its place.
abbrev pub line_fault : List Field → List (List ℕ) → Option Cause
line_fault [] [] = None
line_fault [] (token ∷ tokens) = Some Extra
line_fault (field ∷ fields) [] = Some Ended
line_fault (field ∷ fields) (token ∷ tokens) = option_or (token_fault field token) (line_fault fields tokens)

-- the refusal of a line that hasn't this form
abbrev pub line_refusal : List Field → Line → Option Refusal
line_refusal form line = option_map (λ cause. record { line = line.number; cause = cause }) (line_fault form line.tokens)

-- The first line that can't stand decides. Where a line is missing it is the line past the last of the text.
abbrev pub lines_fault : List (List Field) → ℕ → List Line → Option Refusal
lines_fault [] count [] = None
lines_fault [] count (line ∷ lines) = Some (record { line = line.number; cause = Extra })
lines_fault (form ∷ forms) count [] = Some (record { line = count + 1; cause = Ended })
lines_fault (form ∷ forms) count (line ∷ lines) =
    option_or (line_refusal form line) (lines_fault forms count lines)

abbrev pub no_line : Line
no_line = record { number = 0; tokens = [] }

-- the number that the second token of line k says, of the lines that count
abbrev pub count_in : ℕ → List Line → ℕ
count_in k lines = number_value (slice_index_or (slice_index_or lines k no_line).tokens 1 [])

-- the form of these lines: the one after the head says how many requests there are, and the one after the requests how
-- many strips
abbrev pub form_of : List Line → List (List Field)
form_of lines =
    let requests = count_in (length head_fields) lines in
    text_fields requests (count_in (length head_fields + 1 + requests) lines)

-- The first place at which the bytes haven't the form of an instance text.
abbrev pub form_fault : List ℕ → Option Refusal
form_fault bytes = lines_fault (form_of (lines_that_count bytes)) (length (text_lines bytes)) (lines_that_count bytes)
