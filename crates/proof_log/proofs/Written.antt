-- Lines that were written one after the other.
use Rattle.std.proofs.Common.{◌≡◌, ℕ, List, [], ◌∷◌, ◌++◌, codes, map, sym, ◌∙◌, ap, Result, Ok, Err}
use Rattle.std.specs.List.{flat_map}
use Rattle.std.specs.Result.{OnOk, OnErr}
use Rattle.std.proofs.lemmas.List.{append_assoc, append-nil}
use Rattle.std.proofs.lemmas.List.Concat.{flat_map-append}
use Rattle.plan_check.specs.PlanText.{end_line}
use Rattle.proof_log.specs.AnswerReading.{items_of}
use Rattle.proof_log.specs.AnswerText.{word_line, number_line, path_line, mark_line, log_lines}
use Rattle.proof_log.specs.declared.log.Log.{Log}
use Rattle.seq_io.specs.Grew.{Grew}
use Rattle.seq_io.specs.Line.{spelled_line}
use Rattle.strip_model.specs.declared.end.End.TheVariants.{Forward, Backward}

-- lines as they are written
abbrev written : List (List (List ℕ)) → List ℕ
written lines = flat_map spelled_line lines

-- lines and then more lines
lines_more : (old between new : List ℕ) (lines more : List (List (List ℕ))) → between ≡ old ++ written lines → new ≡ between ++ written more
    → new ≡ old ++ written (lines ++ more)
lines_more old between new lines more first second =
    second
    ∙ ap (λ (front : List ℕ). front ++ written more) first
    ∙ append_assoc old (written lines) (written more)
    ∙ ap (λ (text : List ℕ). old ++ text) (sym (flat_map-append spelled_line lines more))

-- one line
one_line : (old new : List ℕ) (line : List (List ℕ)) → new ≡ old ++ spelled_line line → new ≡ old ++ written (line ∷ [])
one_line old new line e = e ∙ ap (λ (text : List ℕ). old ++ text) (sym (append-nil (spelled_line line)))

-- the lines of a log
pub log_written : (log : Log) (old heading cut forward backward marks new : List ℕ)
    → heading ≡ old ++ spelled_line (word_line (codes "log"))
    → cut ≡ heading ++ spelled_line (number_line (codes "cut") log.cut)
    → forward ≡ cut ++ written (map (path_line Forward) (items_of log.forward.items))
    → backward ≡ forward ++ written (map (path_line Backward) (items_of log.backward.items))
    → marks ≡ backward ++ written (map mark_line log.marks.items)
    → new ≡ marks ++ spelled_line end_line
    → new ≡ old ++ written (log_lines log)
log_written log old heading cut forward backward marks new h0 h1 h2 h3 h4 h5 =
    let F = map (path_line Forward) (items_of log.forward.items) in
    let B = map (path_line Backward) (items_of log.backward.items) in
    let M = map mark_line log.marks.items in
    let E = end_line ∷ [] in
    let from_marks = lines_more backward marks new M E h4 (one_line marks new end_line h5) in
    let from_backward = lines_more forward backward new B (M ++ E) h3 from_marks in
    let from_forward = lines_more cut forward new F (B ++ (M ++ E)) h2 from_backward in
    let from_cut = lines_more heading cut new (number_line (codes "cut") log.cut ∷ []) (F ++ (B ++ (M ++ E))) (one_line heading cut (number_line (codes "cut") log.cut) h1) from_forward in
    lines_more old heading new (word_line (codes "log") ∷ []) (number_line (codes "cut") log.cut ∷ (F ++ (B ++ (M ++ E)))) (one_line old heading (word_line (codes "log")) h0) from_cut

-- the last call tells the same of its own result
pub on_ok : {E : Type 0} (result : Result (Unit {0}) E) (P Q : Type 0) → OnOk result P → (P → Q) → OnOk result Q
on_ok (Ok u) P Q h f = f h
on_ok (Err e) P Q h f = tt

-- a line was appended, or nothing
pub grew_by_line : {E : Type 0} (result : Result (Unit {0}) E) (old new text : List ℕ) → OnOk result (new ≡ old ++ text) → OnErr result (new ≡ old) → Grew old new
grew_by_line (Ok u) old new text ok err = (text, ok)
grew_by_line (Err e) old new text ok err = ([], err ∙ sym (append-nil old))
