-- The lines of a log's answer can stand, one after the other.
use Rattle.std.proofs.Common.{◌≡◌, ℕ, zero, suc, ◌+◌, ◌-◌, ◌*◌, ◌<◌, ◌≤◌, List, [], ◌∷◌, ◌++◌, codes, decimal, length, map, reverse, All, refl, sym, ◌∙◌, ap, subst, arith, None, IsTrue}
use Rattle.std.specs.Bool.{⊤}
use Rattle.std.specs.List.{flat_map}
use Rattle.std.proofs.lemmas.List.{append_assoc, append-nil, length-map}
use Rattle.std.proofs.lemmas.List.Elements.{All-head, All-tail}
use Rattle.plan_check.specs.PlanText.{count_line, acquisition_line, end_line, IsAcquisitionInText}
use Rattle.proof_log.proofs.LabelLines.{reversed_in_range}
use Rattle.proof_log.proofs.PathLines.{numbers_fields}
use Rattle.proof_log.proofs.Stages.{fault_behind}
use Rattle.proof_log.specs.AnswerReading.{items_of}
use Rattle.proof_log.specs.AnswerRefusal.{Stage, AtStatus, AtGain, AtStrips, AtPlan, AtLabels, AtLog, AtCut, AtPaths, AtMarks, AtNothing, plan_stage, paths_stage, stage_after, stage_fault, path_fields, bytes_fault, text_fault}
use Rattle.proof_log.specs.AnswerText.{word_line, number_line, gain_line, front_lines, in_time_order, path_line, mark_line, label_count, log_lines, answer_lines, IsPathInText, IsMarkInText, IsLogInText, IsLogText}
use Rattle.proof_log.specs.declared.limits.TheConstants.{MAX_LABELS, GAIN_UNIT}
use Rattle.proof_log.specs.declared.log.Log.{Log}
use Rattle.proof_log.specs.declared.mark.Mark.{Mark}
use Rattle.proof_log.specs.declared.mark.Mark.TheVariants.{Retire, Cut}
use Rattle.seq_io.proofs.Decimal.{number_value-decimal}
use Rattle.seq_io.proofs.Spelled.{at_line-spelled, is_token-decimal, is_token-ratio}
use Rattle.seq_io.proofs.StrictText.{number_stands, ratio_stands, word_stands}
use Rattle.seq_io.specs.Line.{LF, spelled_line}
use Rattle.seq_io.specs.StrictText.{Rest, ANumber, AreTokens, is_token, token_fault, tokens_fault}
use Rattle.strip_model.specs.Directed.{strip_of, direction_of}
use Rattle.strip_model.specs.declared.acquisition.Acquisition.{Acquisition}
use Rattle.strip_model.specs.declared.end.End.{End}
use Rattle.strip_model.specs.declared.end.End.TheVariants.{Forward, Backward}
use Rattle.strip_model.specs.declared.limits.TheConstants.{MAX_HORIZON, MAX_STRIPS, MAX_TOTAL_GAIN}

-- a line can stand at a stage
record StandsAt (stage : Stage) (tokens : List (List ℕ)) : Type 0 where
  tokens_are : AreTokens tokens
  no_fault : (n : ℕ) (bytes : List ℕ) → stage_fault stage (record { line = n; tokens = tokens; after = LF ∷ bytes }) ≡ None

-- lines can stand one after the other, from a stage to a stage
abbrev Runs : Stage → List (List (List ℕ)) → Stage → Type 0
Runs from [] to = from ≡ to
Runs from (line ∷ lines) to = StandsAt from line × Runs (stage_after from line) lines to

-- one behind the other
runs_on : (from between to : Stage) (lines more : List (List (List ℕ))) → Runs from lines between → Runs between more to → Runs from (lines ++ more) to
runs_on from between to [] more first second =
    let R : Stage → Type 0 = λ stage. Runs stage more to in
    subst R (sym first) second
runs_on from between to (line ∷ lines) more first second = (first.0, runs_on (stage_after from line) between to lines more first.1 second)

-- the first line that can't stand is behind them
run_fault : (from to : Stage) (n : ℕ) (lines : List (List (List ℕ))) (rest : List ℕ) → Runs from lines to
    → bytes_fault from n (flat_map spelled_line lines ++ rest) ≡ bytes_fault to (n + length lines) rest
run_fault from to n [] rest runs =
    ap (λ (stage : Stage). bytes_fault stage n rest) runs ∙ ap (λ (m : ℕ). bytes_fault to m rest) (omega arith)
run_fault from to n (line ∷ lines) rest runs =
    let left = flat_map spelled_line lines ++ rest in
    let here = at_line-spelled n line left runs.0.tokens_are in
    let next : n + 1 + length lines ≡ n + suc (length lines) = omega arith in
    ap (λ (bytes : List ℕ). bytes_fault from n bytes) (append_assoc (spelled_line line) (flat_map spelled_line lines) rest)
    ∙ fault_behind from n (spelled_line line ++ left) left line (ap (λ (rest : Rest). rest.tokens) here) (ap (λ (rest : Rest). rest.after) here)
    (ap (λ (rest : Rest). stage_fault from rest) here ∙ runs.0.no_fault n left)
    ∙ run_fault (stage_after from line) to (n + 1) lines rest runs.1
    ∙ ap (λ (m : ℕ). bytes_fault to m rest) next

-- ---- the lines before the log

status_stands : StandsAt AtStatus (word_line (codes "Optimal"))
status_stands = record { tokens_are = (refl, tt); no_fault = λ n bytes. rw (word_stands (codes "Optimal")) refl }

gain_stands : (gain : ℕ) → gain ≤ MAX_TOTAL_GAIN → StandsAt AtGain (gain_line gain)
gain_stands gain most = record {
  tokens_are = (refl, (is_token-ratio gain GAIN_UNIT (omega (arith, most)) (omega arith), tt));
  no_fault = λ n bytes. rw (word_stands (codes "gain"), ratio_stands gain MAX_TOTAL_GAIN GAIN_UNIT most (omega (arith, most)) (omega arith)) refl;
}

count_stands : (count : ℕ) → count ≤ MAX_STRIPS → StandsAt AtStrips (count_line count)
count_stands count most = record {
  tokens_are = (refl, (is_token-decimal count (omega (arith, most)), tt));
  no_fault = λ n bytes. rw (word_stands (codes "strips"), number_stands count MAX_STRIPS most (omega (arith, most))) refl;
}

acquisition_stands : (more : ℕ) (a : Acquisition) → IsAcquisitionInText a → StandsAt (AtPlan more) (acquisition_line a)
acquisition_stands more a h =
    let strip = strip_of a.at in
    let direction = direction_of a.at in
    record {
      tokens_are =
          (is_token-decimal a.start (omega (arith, h.start)), (is_token-decimal strip (omega (arith, h.strip)), (is_token-decimal direction (omega arith), tt)));
      no_fault = λ n bytes. rw (
        number_stands a.start MAX_HORIZON h.start (omega (arith, h.start)),
        number_stands strip (MAX_STRIPS - 1) (omega (arith, h.strip)) (omega (arith, h.strip)),
        number_stands direction 1 (omega arith) (omega arith),
      ) refl;
    }

plan_runs : (plan : List Acquisition) → All IsAcquisitionInText plan → Runs (plan_stage (length plan)) (map acquisition_line plan) AtLabels
plan_runs [] h = refl
plan_runs (a ∷ plan) h =
    let I : Acquisition → Type 0 = λ a. IsAcquisitionInText a in
    (acquisition_stands (length plan) a (All-head I a plan h), plan_runs plan (All-tail I a plan h))

labels_stand : (labels : ℕ) → labels ≤ MAX_LABELS → StandsAt AtLabels (number_line (codes "labels") labels)
labels_stand labels most = record {
  tokens_are = (refl, (is_token-decimal labels (omega (arith, most)), tt));
  no_fault = λ n bytes. rw (word_stands (codes "labels"), number_stands labels MAX_LABELS most (omega (arith, most))) refl;
}

front_runs : (gain : ℕ) (plan : List Acquisition) (labels : ℕ) → gain ≤ MAX_TOTAL_GAIN → length plan ≤ MAX_STRIPS → All IsAcquisitionInText plan
    → labels ≤ MAX_LABELS → Runs AtStatus (front_lines (codes "Optimal") gain plan labels) (AtLog labels)
front_runs gain plan labels most few h little =
    let counted : plan_stage (length plan) ≡ stage_after AtStrips (count_line (length plan)) =
    ap (λ (n : ℕ). plan_stage n) (sym (number_value-decimal (length plan) (omega (arith, few)))) in
    let numbered : stage_after AtLabels (number_line (codes "labels") labels) ≡ AtLog labels =
    ap (λ (n : ℕ). AtLog n) (number_value-decimal labels (omega (arith, little))) in
    let last = number_line (codes "labels") labels ∷ [] in
    let R : Stage → Type 0 = λ stage. Runs stage (map acquisition_line plan ++ last) (AtLog labels) in
    let rest = runs_on (plan_stage (length plan)) AtLabels (AtLog labels) (map acquisition_line plan) last (plan_runs plan h) (labels_stand labels little, numbered) in
    (status_stands, (gain_stands gain most, (count_stands (length plan) few, subst R counted rest)))

-- ---- the log

heading_stands : (labels : ℕ) → StandsAt (AtLog labels) (word_line (codes "log"))
heading_stands labels = record { tokens_are = (refl, tt); no_fault = λ n bytes. rw (word_stands (codes "log")) refl }

cut_stands : (labels cut : ℕ) → cut ≤ MAX_HORIZON → StandsAt (AtCut labels) (number_line (codes "cut") cut)
cut_stands labels cut most = record {
  tokens_are = (refl, (is_token-decimal cut (omega (arith, most)), tt));
  no_fault = λ n bytes. rw (word_stands (codes "cut"), number_stands cut MAX_HORIZON most (omega (arith, most))) refl;
}

-- the numbers of a path are tokens, and can stand
abbrev are_small : List ℕ → Type 0
are_small path = All (λ x. x < 2 * MAX_STRIPS) path

numbers_are_tokens : (path : List ℕ) → are_small path → AreTokens (map decimal path)
numbers_are_tokens [] h = tt
numbers_are_tokens (x ∷ path) h =
    let P : ℕ → Type 0 = λ x. x < 2 * MAX_STRIPS in
    (is_token-decimal x (omega (arith, All-head P x path h)), numbers_are_tokens path (All-tail P x path h))

numbers_stand : (most : ℕ) (path : List ℕ) (bytes : List ℕ) → length path ≤ most → are_small path
    → tokens_fault (numbers_fields most (map decimal path)) (map decimal path) (LF ∷ bytes) ≡ None
numbers_stand zero [] bytes few h = refl
numbers_stand (suc most) [] bytes few h = refl
numbers_stand zero (x ∷ path) bytes few h = absurd (omega arith)
numbers_stand (suc most) (x ∷ path) bytes few h =
    let P : ℕ → Type 0 = λ x. x < 2 * MAX_STRIPS in
    let head : x < 2 * MAX_STRIPS = All-head P x path h in
    rw (number_stands x (2 * MAX_STRIPS - 1) (omega (arith, head)) (omega (arith, head))) (numbers_stand most path bytes (omega arith) (All-tail P x path h))

path_stands : (path bytes : List ℕ) → IsPathInText path → tokens_fault (path_fields (map decimal path)) (map decimal path) (LF ∷ bytes) ≡ None
path_stands [] bytes h = absurd (omega (arith, h.some))
path_stands (x ∷ path) bytes h = numbers_stand MAX_STRIPS (x ∷ path) bytes h.few h.each

pub ordered_in_range : (e : End) (path : List ℕ) → IsPathInText path → IsPathInText (in_time_order e path)
ordered_in_range Forward path h = h
ordered_in_range Backward path h = reversed_in_range path (reverse path) refl h

forward_stands : (more : ℕ) (path : List ℕ) → IsPathInText path → StandsAt (AtPaths Forward more) (path_line Forward path)
forward_stands more path h = record {
  tokens_are = (refl, numbers_are_tokens path h.each);
  no_fault = λ n bytes. rw (word_stands (codes "F")) (path_stands path bytes h);
}

backward_stands : (side : End) (more : ℕ) (path : List ℕ) → IsPathInText path → StandsAt (AtPaths side more) (path_line Backward path)
backward_stands Forward more path h =
    let turned = ordered_in_range Backward path h in
    record { tokens_are = (refl, numbers_are_tokens (reverse path) turned.each); no_fault = λ n bytes. rw (word_stands (codes "B")) (path_stands (reverse path) bytes turned) }
backward_stands Backward more path h =
    let turned = ordered_in_range Backward path h in
    record { tokens_are = (refl, numbers_are_tokens (reverse path) turned.each); no_fault = λ n bytes. rw (word_stands (codes "B")) (path_stands (reverse path) bytes turned) }

forward_runs : (left : ℕ) (paths : List (List ℕ)) → All IsPathInText paths
    → Runs (paths_stage Forward (length paths + left)) (map (path_line Forward) paths) (paths_stage Forward left)
forward_runs left [] h = ap (λ (n : ℕ). paths_stage Forward n) (omega arith)
forward_runs left (path ∷ paths) h =
    let I : List ℕ → Type 0 = λ path. IsPathInText path in
    let one : suc (length paths + left) ≡ suc (length paths) + left = omega arith in
    let R : ℕ → Type 0 = λ n. Runs (paths_stage Forward n) (map (path_line Forward) (path ∷ paths)) (paths_stage Forward left) in
    subst R one (forward_stands (length paths + left) path (All-head I path paths h), forward_runs left paths (All-tail I path paths h))

backward_runs : (side : End) (paths : List (List ℕ)) → All IsPathInText paths → Runs (paths_stage side (length paths)) (map (path_line Backward) paths) AtMarks
backward_runs side [] h = refl
backward_runs Forward (path ∷ paths) h =
    let I : List ℕ → Type 0 = λ path. IsPathInText path in
    (backward_stands Forward (length paths) path (All-head I path paths h), backward_runs Backward paths (All-tail I path paths h))
backward_runs Backward (path ∷ paths) h =
    let I : List ℕ → Type 0 = λ path. IsPathInText path in
    (backward_stands Backward (length paths) path (All-head I path paths h), backward_runs Backward paths (All-tail I path paths h))

-- a mark
label_is_token : (a : ℕ) → a < MAX_LABELS → IsTrue (is_token (decimal a))
label_is_token a h = is_token-decimal a (omega (arith, h))

label_stands : (a : ℕ) → a < MAX_LABELS → token_fault (ANumber (MAX_LABELS - 1)) (decimal a) ≡ None
label_stands a h = number_stands a (MAX_LABELS - 1) (omega (arith, h)) (omega (arith, h))

mark_stands : (mark : Mark) → IsMarkInText mark → StandsAt AtMarks (mark_line mark)
mark_stands (Retire Forward a b) h = record {
  tokens_are = (refl, (refl, (label_is_token a h.0, (label_is_token b h.1, tt))));
  no_fault = λ n bytes. rw (word_stands (codes "R"), word_stands (codes "F"), label_stands a h.0, label_stands b h.1) refl;
}
mark_stands (Retire Backward a b) h = record {
  tokens_are = (refl, (refl, (label_is_token a h.0, (label_is_token b h.1, tt))));
  no_fault = λ n bytes. rw (word_stands (codes "R"), word_stands (codes "B"), label_stands a h.0, label_stands b h.1) refl;
}
mark_stands (Cut Forward a) h = record {
  tokens_are = (refl, (refl, (label_is_token a h, tt)));
  no_fault = λ n bytes. rw (word_stands (codes "C"), word_stands (codes "F"), label_stands a h) refl;
}
mark_stands (Cut Backward a) h = record {
  tokens_are = (refl, (refl, (label_is_token a h, tt)));
  no_fault = λ n bytes. rw (word_stands (codes "C"), word_stands (codes "B"), label_stands a h) refl;
}

mark_goes_on : (mark : Mark) → AtMarks ≡ stage_after AtMarks (mark_line mark)
mark_goes_on (Retire e a b) = refl
mark_goes_on (Cut e a) = refl

end_stands : StandsAt AtMarks end_line
end_stands = record { tokens_are = (refl, tt); no_fault = λ n bytes. rw (word_stands (codes "end")) refl }

marks_run : (marks : List Mark) → All IsMarkInText marks → Runs AtMarks (map mark_line marks ++ end_line ∷ []) AtNothing
marks_run [] h = (end_stands, refl)
marks_run (mark ∷ marks) h =
    let I : Mark → Type 0 = λ mark. IsMarkInText mark in
    let R : Stage → Type 0 = λ stage. Runs stage (map mark_line marks ++ end_line ∷ []) AtNothing in
    (mark_stands mark (All-head I mark marks h), subst R (mark_goes_on mark) (marks_run marks (All-tail I mark marks h)))

-- all lines
log_runs : (log : Log) → IsLogInText log → Runs (AtLog (label_count log)) (log_lines log) AtNothing
log_runs log h =
    let forward = items_of log.forward.items in
    let backward = items_of log.backward.items in
    let M = map mark_line log.marks.items ++ end_line ∷ [] in
    let B = map (path_line Backward) backward in
    let all : length forward + length backward ≡ label_count log =
    omega (arith, length-map log.forward.items (λ path. path.items), length-map log.backward.items (λ path. path.items)) in
    let behind = runs_on (paths_stage Forward (length backward)) AtMarks AtNothing B M (backward_runs Forward backward (h.paths Backward)) (marks_run log.marks.items h.marks) in
    let paths = runs_on (paths_stage Forward (length forward + length backward)) (paths_stage Forward (length backward)) AtNothing
    (map (path_line Forward) forward) (B ++ M) (forward_runs (length backward) forward (h.paths Forward)) behind in
    let R : ℕ → Type 0 = λ n. Runs (paths_stage Forward n) (map (path_line Forward) forward ++ (B ++ M)) AtNothing in
    (heading_stands (label_count log), (cut_stands (label_count log) log.cut h.cut, subst R all paths))

answer_runs : (log : Log) → IsLogInText log → Runs AtStatus (answer_lines log) AtNothing
answer_runs log h =
    runs_on AtStatus (AtLog (label_count log)) AtNothing (front_lines (codes "Optimal") log.gain log.plan.items (label_count log)) (log_lines log)
    (front_runs log.gain log.plan.items (label_count log) h.gain h.plan.few h.plan.each h.few) (log_runs log h)

-- so no line of a text is one that can't stand
pub no_text_fault : (bytes : List ℕ) (log : Log) → IsLogText bytes log → text_fault bytes ≡ None
no_text_fault bytes log text =
    let lines = answer_lines log in
    ap (λ (bytes : List ℕ). bytes_fault AtStatus 1 bytes) (text.spelling ∙ sym (append-nil (flat_map spelled_line lines)))
    ∙ run_fault AtStatus AtNothing 1 lines [] (answer_runs log text.in_range)

-- lines that can stand are of tokens
abbrev pub AreLines : List (List (List ℕ)) → Type 0
AreLines [] = ⊤
AreLines (line ∷ lines) = AreTokens line × AreLines lines

lines_of_run : (from to : Stage) (lines : List (List (List ℕ))) → Runs from lines to → AreLines lines
lines_of_run from to [] runs = tt
lines_of_run from to (line ∷ lines) runs = (runs.0.tokens_are, lines_of_run (stage_after from line) to lines runs.1)

pub answer_of_tokens : (log : Log) → IsLogInText log → AreLines (answer_lines log)
answer_of_tokens log h = lines_of_run AtStatus AtNothing (answer_lines log) (answer_runs log h)
