-- When labels are marked.
use Rattle.std.specs.Prelude.{◌≡◌, ℕ, ◌<◌, ◌≤◌, nat_lt, List, length, get_or, take, slice_get, Some}
use Rattle.log_check.specs.declared.times.Times.{Times}
use Rattle.proof_log.specs.Labels.{paths_in, is_marked}
use Rattle.proof_log.specs.Rules.{NamesLabels}
use Rattle.proof_log.specs.declared.log.Log.{Log}
use Rattle.proof_log.specs.declared.mark.Mark.{Mark}
use Rattle.strip_model.specs.declared.end.End.{End}
use Rattle.strip_model.specs.declared.end.End.TheVariants.{Forward, Backward}

-- The numbers tell when the labels of a side are marked: among the first j marks is one that marks a label exactly where
-- the label's number is below j.
pub record IsTimeTable (log : Log) (e : End) (times : List ℕ) : Type 0 where
  pub size : length times ≡ length (paths_in log e)
  pub each : (k j : ℕ) → k < length (paths_in log e) → j ≤ length log.marks.items
      → nat_lt (get_or times k 0) j ≡ is_marked e k (take j log.marks.items)

-- the numbers of a side
abbrev pub times_in : Times → End → List ℕ
times_in times Forward = times.forward.items
times_in times Backward = times.backward.items

-- both sides' numbers tell when labels are marked
abbrev pub AreTimes : Log → Times → Type 0
AreTimes log times = (e : End) → IsTimeTable log e (times_in times e)

-- each mark names labels that are there
abbrev pub AllNamed : Log → Type 0
AllNamed log = (j : ℕ) (m : Mark) → slice_get log.marks.items j ≡ Some m → NamesLabels log m
