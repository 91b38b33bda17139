-- The lines of an answer's log, as they are read.
use Rattle.std.proofs.Common.{◌≡◌, ℕ, ◌≤◌, List, [], ◌∷◌, ◌++◌, codes, map, All, sym, ◌∙◌, ap, subst, None, Vec}
use Rattle.std.specs.List.{flat_map}
use Rattle.std.specs.declared.alloc.Global.{Global}
use Rattle.std.proofs.lemmas.List.{append_assoc, append-nil}
use Rattle.plan_check.proofs.ReadLines.{ended_text}
use Rattle.plan_check.specs.PlanText.{end_line, IsPlanInText}
use Rattle.proof_log.proofs.Parts.{line_passed, both_passed}
use Rattle.proof_log.specs.AnswerReading.{rest_fault, Passes, IsFrontRead, ArePathsRead, AreMarksRead, IsRead, items_of}
use Rattle.proof_log.specs.AnswerRefusal.{AtStatus, AtLog, AtCut, AtMarks, AtNothing, paths_stage, bytes_fault}
use Rattle.proof_log.specs.AnswerText.{front_lines, word_line, number_line, path_line, mark_line, label_count, log_lines, IsPathInText, IsMarkInText}
use Rattle.proof_log.specs.declared.limits.TheConstants.{MAX_LABELS}
use Rattle.proof_log.specs.Labels.{paths_in}
use Rattle.proof_log.specs.declared.front.Front.{Front}
use Rattle.proof_log.specs.declared.log.Log.{Log}
use Rattle.proof_log.specs.declared.mark.Mark.{Mark}
use Rattle.seq_io.specs.Line.{spelled_line}
use Rattle.seq_io.specs.StrictText.{Rest, TheWord, ANumber, IsLine, line_fault, end_fault, unread}
use Rattle.strip_model.specs.declared.end.End.{End}
use Rattle.strip_model.specs.declared.end.End.TheVariants.{Forward, Backward}
use Rattle.strip_model.specs.declared.acquisition.Acquisition.{Acquisition}
use Rattle.strip_model.specs.declared.limits.TheConstants.{MAX_HORIZON, MAX_TOTAL_GAIN}

-- the lines before the log, and those up to each part of it
abbrev pub lines_front : Front → List (List (List ℕ))
lines_front front = front_lines (codes "Optimal") front.gain front.plan.items front.labels

abbrev pub lines_heading : Front → List (List (List ℕ))
lines_heading front = lines_front front ++ word_line (codes "log") ∷ []

abbrev pub lines_cut : Front → ℕ → List (List (List ℕ))
lines_cut front cut = lines_heading front ++ number_line (codes "cut") cut ∷ []

abbrev pub lines_forward : Front → ℕ → List (List ℕ) → List (List (List ℕ))
lines_forward front cut forward = lines_cut front cut ++ map (path_line Forward) forward

abbrev pub lines_backward : Front → ℕ → List (List ℕ) → List (List ℕ) → List (List (List ℕ))
lines_backward front cut forward backward = lines_forward front cut forward ++ map (path_line Backward) backward

-- the heading of the log was read
pub heading_passed : (front : Front) (old middle new : Rest) → IsFrontRead old middle front → IsLine (word_line (codes "log")) middle new
    → None ≡ line_fault (TheWord (codes "log") ∷ []) middle → Passes AtStatus (AtCut front.labels) (lines_heading front) old new
heading_passed front old middle new read line stands =
    line_passed AtStatus (AtLog front.labels) (lines_front front) (word_line (codes "log")) old middle new read.passes line (sym stands)

-- the cut time was read
pub cut_passed : (front : Front) (cut : ℕ) (old middle new : Rest) → Passes AtStatus (AtCut front.labels) (lines_heading front) old middle
    → IsLine (number_line (codes "cut") cut) middle new → None ≡ line_fault (TheWord (codes "cut") ∷ ANumber MAX_HORIZON ∷ []) middle
    → Passes AtStatus (paths_stage Forward front.labels) (lines_cut front cut) old new
cut_passed front cut old middle new first line stands =
    line_passed AtStatus (AtCut front.labels) (lines_heading front) (number_line (codes "cut") cut) old middle new first line (sym stands)

-- the forward labels were read
pub forward_passed : (front : Front) (cut left : ℕ) (forward : List (Vec ℕ Global)) (old middle new : Rest)
    → Passes AtStatus (paths_stage Forward front.labels) (lines_cut front cut) old middle
    → ArePathsRead Forward (paths_stage Forward front.labels) (paths_stage Backward left) middle new forward
    → Passes AtStatus (paths_stage Backward left) (lines_forward front cut (items_of forward)) old new
forward_passed front cut left forward old middle new first read =
    both_passed AtStatus (paths_stage Forward front.labels) (paths_stage Backward left) (lines_cut front cut) (map (path_line Forward) (items_of forward))
    old middle new first read.passes

-- the backward labels were read
pub backward_passed : (front : Front) (cut left : ℕ) (forward backward : List (Vec ℕ Global)) (old middle new : Rest)
    → Passes AtStatus (paths_stage Backward left) (lines_forward front cut (items_of forward)) old middle
    → ArePathsRead Backward (paths_stage Backward left) AtMarks middle new backward
    → Passes AtStatus AtMarks (lines_backward front cut (items_of forward) (items_of backward)) old new
backward_passed front cut left forward backward old middle new first read =
    both_passed AtStatus (paths_stage Backward left) AtMarks (lines_forward front cut (items_of forward)) (map (path_line Backward) (items_of backward))
    old middle new first read.passes

-- the marks and `end` were read
pub marks_passed : (front : Front) (cut : ℕ) (forward backward : List (Vec ℕ Global)) (marks : List Mark) (old middle new : Rest)
    → Passes AtStatus AtMarks (lines_backward front cut (items_of forward) (items_of backward)) old middle
    → AreMarksRead middle new marks
    → Passes AtStatus AtNothing (lines_backward front cut (items_of forward) (items_of backward) ++ (map mark_line marks ++ end_line ∷ [])) old new
marks_passed front cut forward backward marks old middle new first read =
    both_passed AtStatus AtMarks AtNothing (lines_backward front cut (items_of forward) (items_of backward)) (map mark_line marks ++ end_line ∷ [])
    old middle new first read.passes

-- nothing follows
no_fault_at_end : (rest : Rest) → end_fault rest ≡ None → rest_fault AtNothing rest ≡ None
unfolding rest_fault
no_fault_at_end rest over = ap (λ (bytes : List ℕ). bytes_fault AtNothing rest.line bytes) (ended_text rest over)

-- the lines of the parts are those of the log
same_lines : (heading cut : List (List ℕ)) (front forward backward marks end : List (List (List ℕ)))
    → ((((front ++ heading ∷ []) ++ cut ∷ []) ++ forward) ++ backward) ++ (marks ++ end) ≡ front ++ (heading ∷ cut ∷ (forward ++ (backward ++ (marks ++ end))))
same_lines heading cut front forward backward marks end = simp append_assoc

-- so a whole text was read
pub whole_read : (front : Front) (log : Log) (old middle new : Rest) → IsFrontRead old middle front → log.gain ≡ front.gain → log.plan.items ≡ front.plan.items
    → label_count log ≡ front.labels → log.cut ≤ MAX_HORIZON
    → All IsPathInText (items_of log.forward.items) → All IsPathInText (items_of log.backward.items) → All IsMarkInText log.marks.items
    → Passes AtStatus AtNothing
    (lines_backward front log.cut (items_of log.forward.items) (items_of log.backward.items) ++ (map mark_line log.marks.items ++ end_line ∷ [])) old new
    → None ≡ end_fault new → IsRead old log
whole_read front log old middle new read gain plan labels cut forward backward marks passes over =
    let F = map (path_line Forward) (items_of log.forward.items) in
    let B = map (path_line Backward) (items_of log.backward.items) in
    let M = map mark_line log.marks.items in
    let lines = same_lines (word_line (codes "log")) (number_line (codes "cut") log.cut) (lines_front front) F B M (end_line ∷ []) in
    let fronts : lines_front front ≡ front_lines (codes "Optimal") log.gain log.plan.items (label_count log) =
    ap (λ (n : ℕ). front_lines (codes "Optimal") n front.plan.items front.labels) (sym gain)
    ∙ ap (λ (xs : List Acquisition). front_lines (codes "Optimal") log.gain xs front.labels) (sym plan)
    ∙ ap (λ (n : ℕ). front_lines (codes "Optimal") log.gain log.plan.items n) (sym labels) in
    let whole : unread old ≡ flat_map spelled_line (lines_backward front log.cut (items_of log.forward.items) (items_of log.backward.items) ++ (M ++ end_line ∷ [])) =
    passes.spelling ∙ nothing_left _ (unread new) (ended_text new (sym over)) in
    let G : ℕ → Type 0 = λ n. n ≤ MAX_TOTAL_GAIN in
    let P : List Acquisition → Type 0 = λ plan. IsPlanInText plan in
    let N : ℕ → Type 0 = λ n. n ≤ MAX_LABELS in
    record {
      in_range = record {
        gain = subst G (sym gain) read.gain;
        plan = subst P (sym plan) read.plan;
        few = subst N (sym labels) read.labels;
        cut = cut;
        paths = both_sides log forward backward;
        marks = marks;
      };
      no_fault = passes.same_fault ∙ no_fault_at_end new (sym over);
      spelling = whole ∙ ap (λ (lines : List (List (List ℕ))). flat_map spelled_line lines) (lines ∙ ap (λ (front : List (List (List ℕ))). front ++ log_lines log) fronts);
    }
  where
    both_sides : (log : Log) → All IsPathInText (items_of log.forward.items) → All IsPathInText (items_of log.backward.items) → (e : End) → All IsPathInText (paths_in log e)
    both_sides log forward backward Forward = forward
    both_sides log forward backward Backward = backward

    nothing_left : (text left : List ℕ) → left ≡ [] → text ++ left ≡ text
    nothing_left text left none = ap (λ (left : List ℕ). text ++ left) none ∙ append-nil text
