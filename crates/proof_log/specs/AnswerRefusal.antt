-- Which line of a text is the first that can't stand in the text of an answer, and why.
use Rattle.std.specs.Prelude.{◌≡◌, ℕ, zero, suc, ◌+◌, ◌-◌, ◌*◌, ◌==◌, if◌then◌else◌, ⊤, List, [], ◌∷◌, map, take, drop, get_or, codes, Option, None, Some}
use Rattle.std.specs.List.{slice_split}
use Rattle.std.specs.Option.{option_map, option_or}
use Rattle.plan_check.specs.Reading.{count_fields, acquisition_fields, end_fields}
use Rattle.proof_log.specs.AnswerText.{side_word}
use Rattle.proof_log.specs.declared.limits.TheConstants.{MAX_LABELS, GAIN_UNIT}
use Rattle.proof_log.specs.declared.refusal.LogCause.{LogCause}
use Rattle.proof_log.specs.declared.refusal.LogCause.TheVariants as cause
use Rattle.proof_log.specs.declared.refusal.LogRefusal.{LogRefusal}
use Rattle.proof_log.specs.declared.refusal.LogRefusal.TheVariants.{Refused, Memory}
use Rattle.seq_io.specs.Line.{LF}
use Rattle.seq_io.specs.Number.{number_value}
use Rattle.seq_io.specs.StrictText.{Field, TheWord, ANumber, ARatio, Rest, is_next, line_tokens, line_fault, end_fault}
use Rattle.seq_io.specs.declared.line_fault.LineFault.{LineFault}
use Rattle.seq_io.specs.declared.line_fault.LineFault.TheVariants as fault
use Rattle.strip_model.specs.declared.end.End.{End}
use Rattle.strip_model.specs.declared.end.End.TheVariants.{Forward, Backward}
use Rattle.strip_model.specs.declared.limits.TheConstants.{MAX_HORIZON, MAX_STRIPS, MAX_TOTAL_GAIN}

-- What comes next in a text. A plan and the labels are followed by so many more of them.
pub data Stage : Type 0 where
  AtStatus : Stage
  AtGain : Stage
  AtStrips : Stage
  AtPlan : (more : ℕ) → Stage
  AtLabels : Stage
  AtLog : (labels : ℕ) → Stage
  AtCut : (labels : ℕ) → Stage
  AtPaths : (side : End) (more : ℕ) → Stage
  AtMarks : Stage
  AtNothing : Stage

-- the side that a word names: backward unless it is `F`
abbrev pub named_side : List (List ℕ) → End
named_side tokens = if is_next (codes "F") tokens then Forward else Backward

-- the side of the label whose line this is: after a backward one no forward one comes
abbrev pub label_side : End → List (List ℕ) → End
label_side Forward tokens = named_side tokens
label_side Backward tokens = Backward

-- A path has as many numbers as stand there, but at least one, and no more than there are strips.
abbrev pub path_fields : List (List ℕ) → List Field
path_fields [] = ANumber (2 * MAX_STRIPS - 1) ∷ []
path_fields (token ∷ tokens) = map (λ _. ANumber (2 * MAX_STRIPS - 1)) (take MAX_STRIPS (token ∷ tokens))

-- the line of a label of that side
abbrev pub label_fields : End → List (List ℕ) → List Field
label_fields side tokens = TheWord (side_word side) ∷ path_fields (drop 1 tokens)

-- the number of a label
abbrev pub label_number : Field
label_number = ANumber (MAX_LABELS - 1)

-- the word of a side, as the next token tells
abbrev pub side_field : List (List ℕ) → Field
side_field tokens = TheWord (side_word (named_side tokens))

-- the line of a label that is retired, and of one that is cut
abbrev pub retire_fields : List (List ℕ) → List Field
retire_fields tokens = TheWord (codes "R") ∷ side_field (drop 1 tokens) ∷ label_number ∷ label_number ∷ []

abbrev pub cut_fields : List (List ℕ) → List Field
cut_fields tokens = TheWord (codes "C") ∷ side_field (drop 1 tokens) ∷ label_number ∷ []

-- the line of a mark, or else `end`: the first token tells
abbrev pub mark_fields : List (List ℕ) → List Field
mark_fields tokens =
    if is_next (codes "R") tokens then retire_fields tokens
    else if is_next (codes "C") tokens then cut_fields tokens
    else end_fields

-- what the tokens of the next line must be
abbrev pub fields_at : Stage → List (List ℕ) → List Field
fields_at AtStatus tokens = TheWord (codes "Optimal") ∷ []
fields_at AtGain tokens = TheWord (codes "gain") ∷ ARatio MAX_TOTAL_GAIN GAIN_UNIT ∷ []
fields_at AtStrips tokens = count_fields
fields_at (AtPlan more) tokens = acquisition_fields
fields_at AtLabels tokens = TheWord (codes "labels") ∷ ANumber MAX_LABELS ∷ []
fields_at (AtLog labels) tokens = TheWord (codes "log") ∷ []
fields_at (AtCut labels) tokens = TheWord (codes "cut") ∷ ANumber MAX_HORIZON ∷ []
fields_at (AtPaths side more) tokens = label_fields (label_side side tokens) tokens
fields_at AtMarks tokens = mark_fields tokens
fields_at AtNothing tokens = []

-- what comes where so many acquisitions are left
abbrev pub plan_stage : ℕ → Stage
plan_stage zero = AtLabels
plan_stage (suc more) = AtPlan more

-- what comes where so many labels are left, and the last was of that side
abbrev pub paths_stage : End → ℕ → Stage
paths_stage side zero = AtMarks
paths_stage side (suc more) = AtPaths side more

-- the number behind the first word of a line
abbrev pub number_of_line : List (List ℕ) → ℕ
number_of_line tokens = number_value (get_or tokens 1 [])

-- what comes after a line that can stand
abbrev pub stage_after : Stage → List (List ℕ) → Stage
stage_after AtStatus tokens = AtGain
stage_after AtGain tokens = AtStrips
stage_after AtStrips tokens = plan_stage (number_of_line tokens)
stage_after (AtPlan more) tokens = plan_stage more
stage_after AtLabels tokens = AtLog (number_of_line tokens)
stage_after (AtLog labels) tokens = AtCut labels
stage_after (AtCut labels) tokens = paths_stage Forward labels
stage_after (AtPaths side more) tokens = paths_stage (label_side side tokens) more
stage_after AtMarks tokens = if is_next (codes "end") tokens then AtNothing else AtMarks
stage_after AtNothing tokens = AtNothing

-- why the next line can't stand; at the end of a text nothing can
abbrev pub stage_fault : Stage → Rest → Option LineFault
stage_fault AtNothing rest = end_fault rest
stage_fault stage rest = line_fault (fields_at stage rest.tokens) rest

-- the cause that is named
abbrev pub cause_of : LineFault → LogCause
cause_of fault.Ended = cause.Ended
cause_of fault.Word = cause.Word
cause_of fault.Number = cause.Number
cause_of fault.Range = cause.Range
cause_of fault.Extra = cause.Extra

-- the same with the number of the line
abbrev pub named : ℕ → Option LineFault → Option (ℕ × LogCause)
named number found = option_map (λ fault. (number, cause_of fault)) found

-- a line of these bytes, before what follows it
abbrev pub line_of : ℕ → List ℕ → List ℕ → Rest
line_of number bytes after = record { line = number; tokens = line_tokens bytes; after = after }

-- The first line that can't stand, and why, where these are the lines from the one with that number on. Behind the last of
-- them no LF stands.
abbrev pub lines_fault : Stage → ℕ → List (List ℕ) → Option (ℕ × LogCause)
lines_fault stage number [] = None
lines_fault stage number (last ∷ []) = named number (stage_fault stage (line_of number last []))
lines_fault stage number (line ∷ next ∷ lines) =
    option_or (named number (stage_fault stage (line_of number line (LF ∷ []))))
    (lines_fault (stage_after stage (line_tokens line)) (number + 1) (next ∷ lines))

-- the same from a line on, by the bytes that are left
abbrev pub bytes_fault : Stage → ℕ → List ℕ → Option (ℕ × LogCause)
bytes_fault stage number bytes = lines_fault stage number (slice_split (λ b. b == LF) bytes)

-- The first line of a text that can't stand, counted from 1, and why. The text of a log has none.
abbrev pub text_fault : List ℕ → Option (ℕ × LogCause)
text_fault bytes = bytes_fault AtStatus 1 bytes

-- the refusal names it, or memory ran out
abbrev pub IsRefusedAs : List ℕ → LogRefusal → Type 0
IsRefusedAs bytes (Refused line cause) = text_fault bytes ≡ Some (line, cause)
IsRefusedAs bytes Memory = ⊤
