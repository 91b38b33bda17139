-- The text of an answer.
use Rattle.std.specs.Prelude.{◌≡◌, ℕ, ◌+◌, ◌*◌, ◌^◌, ◌<◌, ◌≤◌, List, [], ◌∷◌, ◌++◌, length, map, All, codes, decimal, reverse}
use Rattle.std.specs.List.{flat_map}
use Rattle.plan_check.specs.PlanText.{acquisition_lines, end_line, IsPlanInText}
use Rattle.proof_log.specs.Labels.{paths_in}
use Rattle.proof_log.specs.declared.limits.TheConstants.{MAX_LABELS, GAIN_UNIT}
use Rattle.proof_log.specs.declared.log.Log.{Log}
use Rattle.proof_log.specs.declared.mark.Mark.{Mark}
use Rattle.proof_log.specs.declared.mark.Mark.TheVariants.{Retire, Cut}
use Rattle.seq_io.specs.Line.{spelled_line}
use Rattle.seq_io.specs.Token.{ratio}
use Rattle.strip_model.specs.declared.acquisition.Acquisition.{Acquisition}
use Rattle.strip_model.specs.declared.end.End.{End}
use Rattle.strip_model.specs.declared.end.End.TheVariants.{Forward, Backward}
use Rattle.strip_model.specs.declared.limits.TheConstants.{MAX_HORIZON, MAX_STRIPS, MAX_TOTAL_GAIN}

-- a line of one word
abbrev pub word_line : List ℕ → List (List ℕ)
word_line word = word ∷ []

-- a line of a word and a number
abbrev pub number_line : List ℕ → ℕ → List (List ℕ)
number_line word number = word ∷ decimal number ∷ []

-- `gain n/20`, n in twentieths
abbrev pub gain_line : ℕ → List (List ℕ)
gain_line gain = codes "gain" ∷ ratio gain GAIN_UNIT ∷ []

-- the lines with which each answer begins: a word, the gain, the plan, and how many labels there were
abbrev pub front_lines : List ℕ → ℕ → List Acquisition → ℕ → List (List (List ℕ))
front_lines status gain plan labels =
    word_line status ∷ gain_line gain ∷ (acquisition_lines plan ++ number_line (codes "labels") labels ∷ [])

-- the lines of an answer without a proof
abbrev pub best_lines : ℕ → List Acquisition → ℕ → List (List (List ℕ))
best_lines gain plan labels = front_lines (codes "Best") gain plan labels

-- The bytes are the text of an answer without a proof: its plan is within the ranges of a text, and the bytes spell it. The gain
-- and the number of labels have any value of 64 bits, since nothing reads them.
pub record IsBestText (bytes : List ℕ) (gain : ℕ) (plan : List Acquisition) (labels : ℕ) : Type 0 where
  pub gain_fits : gain < 2 ^ 64
  pub in_range : IsPlanInText plan
  pub labels_fit : labels < 2 ^ 64
  pub spelling : bytes ≡ flat_map spelled_line (best_lines gain plan labels)

-- the letter of a side
abbrev pub side_word : End → List ℕ
side_word Forward = codes "F"
side_word Backward = codes "B"

-- a path of a side in time order: those of the backward side are kept in the order of the mirror
abbrev pub in_time_order : End → List ℕ → List ℕ
in_time_order Forward path = path
in_time_order Backward path = reverse path

-- the side, and the path in time order
abbrev pub path_line : End → List ℕ → List (List ℕ)
path_line e path = side_word e ∷ map decimal (in_time_order e path)

-- `R`, the side, the label that is retired, and the one that retires it; or `C`, the side, and the label that is cut
abbrev pub mark_line : Mark → List (List ℕ)
mark_line (Retire e a b) = codes "R" ∷ side_word e ∷ decimal a ∷ decimal b ∷ []
mark_line (Cut e a) = codes "C" ∷ side_word e ∷ decimal a ∷ []

-- how many labels a log has
abbrev pub label_count : Log → ℕ
label_count log = length log.forward.items + length log.backward.items

-- the lines of all paths of a side
abbrev pub path_lines : Log → End → List (List (List ℕ))
path_lines log e = map (path_line e) (paths_in log e)

-- the lines of a log: the cut time, the forward labels, the backward ones, the marks, and `end`
abbrev pub log_lines : Log → List (List (List ℕ))
log_lines log =
    word_line (codes "log")
    ∷ number_line (codes "cut") log.cut
    ∷ (path_lines log Forward ++ (path_lines log Backward ++ (map mark_line log.marks.items ++ end_line ∷ [])))

-- the lines of an answer with its log
abbrev pub answer_lines : Log → List (List (List ℕ))
answer_lines log = front_lines (codes "Optimal") log.gain log.plan.items (label_count log) ++ log_lines log

-- a path within the ranges of a text
pub record IsPathInText (path : List ℕ) : Type 0 where
  pub some : 1 ≤ length path
  pub few : length path ≤ MAX_STRIPS
  pub each : All (λ x. x < 2 * MAX_STRIPS) path

-- a mark within them
abbrev pub IsMarkInText : Mark → Type 0
IsMarkInText (Retire e a b) = (a < MAX_LABELS) × (b < MAX_LABELS)
IsMarkInText (Cut e a) = a < MAX_LABELS

-- a log within them
pub record IsLogInText (log : Log) : Type 0 where
  pub gain : log.gain ≤ MAX_TOTAL_GAIN
  pub plan : IsPlanInText log.plan.items
  pub few : label_count log ≤ MAX_LABELS
  pub cut : log.cut ≤ MAX_HORIZON
  pub paths : (e : End) → All IsPathInText (paths_in log e)
  pub marks : All IsMarkInText log.marks.items

-- The bytes are the text of a log: it is within the ranges, and they spell it.
pub record IsLogText (bytes : List ℕ) (log : Log) : Type 0 where
  pub in_range : IsLogInText log
  pub spelling : bytes ≡ flat_map spelled_line (answer_lines log)

-- two logs that say the same
pub record AreSame (l m : Log) : Type 0 where
  pub cut : l.cut ≡ m.cut
  pub gain : l.gain ≡ m.gain
  pub plan : l.plan.items ≡ m.plan.items
  pub paths : (e : End) → paths_in l e ≡ paths_in m e
  pub marks : l.marks.items ≡ m.marks.items
