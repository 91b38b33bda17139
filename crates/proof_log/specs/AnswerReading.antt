-- What the parts of the reader of an answer's text find.
use Rattle.std.specs.Prelude.{◌≡◌, ℕ, ◌≤◌, ⊤, List, [], ◌∷◌, ◌++◌, length, map, All, codes, Option, None, Some}
use Rattle.std.specs.List.{flat_map}
use Rattle.std.specs.declared.vec.Vec.{Vec}
use Rattle.std.specs.declared.alloc.Global.{Global}
use Rattle.plan_check.specs.PlanText.{acquisition_line, end_line, IsAcquisitionInText, IsPlanInText}
use Rattle.plan_check.specs.Reading.{IsLineBegun}
use Rattle.proof_log.specs.AnswerRefusal.{Stage, AtStatus, AtLabels, AtLog, AtMarks, AtNothing, plan_stage, bytes_fault, cause_of}
use Rattle.proof_log.specs.AnswerText.{front_lines, path_line, mark_line, answer_lines, IsPathInText, IsMarkInText, IsLogInText}
use Rattle.proof_log.specs.declared.front.Front.{Front}
use Rattle.proof_log.specs.declared.log.Log.{Log}
use Rattle.proof_log.specs.declared.mark.Mark.{Mark}
use Rattle.proof_log.specs.declared.refusal.LogCause.{LogCause}
use Rattle.proof_log.specs.declared.unread.Unread.{Unread}
use Rattle.proof_log.specs.declared.unread.Unread.TheVariants.{Fault, Memory}
use Rattle.seq_io.specs.Line.{spelled_line}
use Rattle.seq_io.specs.StrictText.{Field, Rest, line_fault, unread}
use Rattle.strip_model.specs.declared.acquisition.Acquisition.{Acquisition}
use Rattle.strip_model.specs.declared.end.End.{End}
use Rattle.strip_model.specs.declared.limits.TheConstants.{MAX_TOTAL_GAIN}
use Rattle.proof_log.specs.declared.limits.TheConstants.{MAX_LABELS}

-- the first line that can't stand in what is left, from the beginning of a line on
unfoldable pub rest_fault : Stage → Rest → Option (ℕ × LogCause)
rest_fault stage rest = bytes_fault stage rest.line (unread rest)

-- These lines were read, and the next one begins: they are spelled there, and none of them is one that can't stand.
pub record Passes (from to : Stage) (lines : List (List (List ℕ))) (old new : Rest) : Type 0 where
  pub begun : IsLineBegun new
  pub same_fault : rest_fault from old ≡ rest_fault to new
  pub spelling : unread old ≡ flat_map spelled_line lines ++ unread new

-- a line can't stand, in which the reader was left, or memory ran out
abbrev pub IsUnread : Stage → Rest → Rest → Unread → Type 0
IsUnread stage old new (Fault fault) = rest_fault stage old ≡ Some (new.line, cause_of fault)
IsUnread stage old new Memory = ⊤

-- a line can't stand that must have these fields, or memory ran out within it
abbrev pub IsUnreadLine : List Field → Rest → Rest → Unread → Type 0
IsUnreadLine fields old new (Fault fault) = (Some fault ≡ line_fault fields old) × (new.line ≡ old.line)
IsUnreadLine fields old new Memory = ⊤

-- the lines before the log were read
pub record IsFrontRead (old new : Rest) (front : Front) : Type 0 where
  pub gain : front.gain ≤ MAX_TOTAL_GAIN
  pub plan : IsPlanInText front.plan.items
  pub labels : front.labels ≤ MAX_LABELS
  pub passes : Passes AtStatus (AtLog front.labels) (front_lines (codes "Optimal") front.gain front.plan.items front.labels) old new

-- so many acquisitions were read
pub record AreAcquisitionsRead (wanted : ℕ) (old new : Rest) (plan : List Acquisition) : Type 0 where
  pub all : length plan ≡ wanted
  pub in_range : All IsAcquisitionInText plan
  pub passes : Passes (plan_stage wanted) AtLabels (map acquisition_line plan) old new

-- paths as lists of directed strips
abbrev pub items_of : List (Vec ℕ Global) → List (List ℕ)
items_of paths = map (λ (path : Vec ℕ Global). path.items) paths

-- labels of a side were read: what stood before and what comes then are these stages
pub record ArePathsRead (e : End) (from to : Stage) (old new : Rest) (paths : List (Vec ℕ Global)) : Type 0 where
  pub in_range : All IsPathInText (items_of paths)
  pub passes : Passes from to (map (path_line e) (items_of paths)) old new

-- the marks were read, and `end`
pub record AreMarksRead (old new : Rest) (marks : List Mark) : Type 0 where
  pub in_range : All IsMarkInText marks
  pub passes : Passes AtMarks AtNothing (map mark_line marks ++ end_line ∷ []) old new

-- a whole text was read
pub record IsRead (old : Rest) (log : Log) : Type 0 where
  pub in_range : IsLogInText log
  pub no_fault : rest_fault AtStatus old ≡ None
  pub spelling : unread old ≡ flat_map spelled_line (answer_lines log)
