-- A text is that of one log.
use Rattle.std.proofs.Common.{◌≡◌, ◌≢◌, ℕ, ◌*◌, ◌<◌, ◌^◌, List, [], ◌∷◌, ◌++◌, codes, decimal, length, length-append, map, drop, get_or, reverse, All, refl, sym, ◌∙◌, ap, arith}
use Rattle.std.specs.List.{flat_map, join_with_byte}
use Rattle.std.proofs.lemmas.Fmt.{decimal_injective}
use Rattle.std.proofs.lemmas.List.{append_assoc, append_cancel_right, reverse-reverse}
use Rattle.std.proofs.lemmas.List.Elements.{All-head, All-tail}
use Rattle.plan_check.proofs.Lines.{same_acquisition}
use Rattle.plan_check.specs.PlanText.{acquisition_line, end_line, IsAcquisitionInText}
use Rattle.proof_log.proofs.Standing.{AreLines, answer_of_tokens, ordered_in_range}
use Rattle.proof_log.specs.AnswerReading.{items_of}
use Rattle.proof_log.specs.AnswerText.{number_line, gain_line, side_word, path_line, mark_line, label_count, log_lines, answer_lines, IsPathInText, IsMarkInText, IsLogText, AreSame}
use Rattle.proof_log.specs.Labels.{paths_in}
use Rattle.proof_log.specs.declared.limits.TheConstants.{MAX_LABELS, GAIN_UNIT}
use Rattle.proof_log.specs.declared.log.Log.{Log}
use Rattle.proof_log.specs.declared.mark.Mark.{Mark}
use Rattle.proof_log.specs.declared.mark.Mark.TheVariants.{Retire, Cut}
use Rattle.seq_io.proofs.Spelled.{at_line-spelled}
use Rattle.seq_io.specs.Line.{LF, BLANK, SLASH, spelled_line}
use Rattle.seq_io.specs.StrictText.{Rest, AreTokens, at_line}
use Rattle.strip_model.specs.declared.acquisition.Acquisition.{Acquisition}
use Rattle.strip_model.specs.declared.end.End.{End}
use Rattle.strip_model.specs.declared.end.End.TheVariants.{Forward, Backward}
use Rattle.strip_model.specs.declared.limits.TheConstants.{MAX_STRIPS}

-- lines of tokens are told by their bytes
same_line : (line other : List (List ℕ)) (rest more : List ℕ) → AreTokens line → AreTokens other
    → spelled_line line ++ rest ≡ spelled_line other ++ more → (line ≡ other) × (rest ≡ more)
same_line line other rest more hl ho e =
    let same : record { line = 0; tokens = line; after = LF ∷ rest } ≡ record { line = 0; tokens = other; after = LF ∷ more } =
    sym (at_line-spelled 0 line rest hl) ∙ ap (λ (bytes : List ℕ). at_line 0 bytes) e ∙ at_line-spelled 0 other more ho in
    (ap (λ (rest : Rest). rest.tokens) same, ap (λ (rest : Rest). drop 1 rest.after) same)

some_bytes : (line : List (List ℕ)) (rest : List ℕ) → spelled_line line ++ rest ≢ []
some_bytes line rest e =
    omega (arith, ap (λ (bytes : List ℕ). length bytes) e, length-append (spelled_line line) rest, length-append (join_with_byte BLANK line) (LF ∷ []))

pub same_lines : (lines others : List (List (List ℕ))) → AreLines lines → AreLines others → flat_map spelled_line lines ≡ flat_map spelled_line others → lines ≡ others
same_lines [] [] hl ho e = refl
same_lines [] (other ∷ others) hl ho e = absurd (some_bytes other (flat_map spelled_line others) (sym e))
same_lines (line ∷ lines) [] hl ho e = absurd (some_bytes line (flat_map spelled_line lines) e)
same_lines (line ∷ lines) (other ∷ others) hl ho e =
    let first = same_line line other (flat_map spelled_line lines) (flat_map spelled_line others) hl.0 ho.0 e in
    ap (λ (line : List (List ℕ)). line ∷ lines) first.0 ∙ ap (λ (lines : List (List (List ℕ))). other ∷ lines) (same_lines lines others hl.1 ho.1 first.1)

-- the first word of some lines
abbrev first_word : List (List (List ℕ)) → List ℕ
first_word lines = get_or (get_or lines 0 []) 0 []

-- the first of some lines, and the others
heads : (line other : List (List ℕ)) (lines others : List (List (List ℕ))) → line ∷ lines ≡ other ∷ others → (line ≡ other) × (lines ≡ others)
heads line other lines others e =
    (ap (λ (lines : List (List (List ℕ))). get_or lines 0 []) e, ap (λ (lines : List (List (List ℕ))). drop 1 lines) e)

-- the same number behind a word
pub same_number_line : (word : List ℕ) (m n : ℕ) → m < 2 ^ 64 → n < 2 ^ 64 → number_line word m ≡ number_line word n → m ≡ n
same_number_line word m n hm hn e = decimal_injective m n hm hn (ap (λ (line : List (List ℕ)). get_or line 1 []) e)

pub same_gain : (m n : ℕ) → m < 2 ^ 64 → n < 2 ^ 64 → gain_line m ≡ gain_line n → m ≡ n
same_gain m n hm hn e =
    decimal_injective m n hm hn (append_cancel_right (decimal m) (decimal n) (SLASH ∷ decimal GAIN_UNIT) (ap (λ (line : List (List ℕ)). get_or line 1 []) e))

-- as many acquisitions, and what follows them
pub same_plan : (plan other : List Acquisition) (rest more : List (List (List ℕ))) → length plan ≡ length other → All IsAcquisitionInText plan → All IsAcquisitionInText other
    → map acquisition_line plan ++ rest ≡ map acquisition_line other ++ more → (plan ≡ other) × (rest ≡ more)
same_plan [] [] rest more long hp ho e = (refl, e)
same_plan [] (b ∷ other) rest more long hp ho e = absurd (omega (arith, long))
same_plan (a ∷ plan) [] rest more long hp ho e = absurd (omega (arith, long))
same_plan (a ∷ plan) (b ∷ other) rest more long hp ho e =
    let I : Acquisition → Type 0 = λ a. IsAcquisitionInText a in
    let first = heads (acquisition_line a) (acquisition_line b) (map acquisition_line plan ++ rest) (map acquisition_line other ++ more) e in
    let same = same_acquisition a b [] [] (All-head I a plan hp) (All-head I b other ho) (ap (λ (line : List (List ℕ)). spelled_line line ++ []) first.0) in
    let others = same_plan plan other rest more (omega (arith, long)) (All-tail I a plan hp) (All-tail I b other ho) first.1 in
    (ap (λ (x : Acquisition). x ∷ plan) same.0 ∙ ap (λ (xs : List Acquisition). b ∷ xs) others.0, others.1)

-- a path is told by its line
same_numbers : (path other : List ℕ) → All (λ x. x < 2 * MAX_STRIPS) path → All (λ x. x < 2 * MAX_STRIPS) other → map decimal path ≡ map decimal other → path ≡ other
same_numbers [] [] hp ho e = refl
same_numbers [] (y ∷ other) hp ho e = absurd (omega (arith, ap (λ (tokens : List (List ℕ)). length tokens) e))
same_numbers (x ∷ path) [] hp ho e = absurd (omega (arith, ap (λ (tokens : List (List ℕ)). length tokens) e))
same_numbers (x ∷ path) (y ∷ other) hp ho e =
    let P : ℕ → Type 0 = λ x. x < 2 * MAX_STRIPS in
    let hx : x < 2 * MAX_STRIPS = All-head P x path hp in
    let hy : y < 2 * MAX_STRIPS = All-head P y other ho in
    let first = decimal_injective x y (omega (arith, hx)) (omega (arith, hy)) (ap (λ (tokens : List (List ℕ)). get_or tokens 0 []) e) in
    let others = same_numbers path other (All-tail P x path hp) (All-tail P y other ho) (ap (λ (tokens : List (List ℕ)). drop 1 tokens) e) in
    ap (λ (x : ℕ). x ∷ path) first ∙ ap (λ (path : List ℕ). y ∷ path) others

same_path : (e : End) (path other : List ℕ) → IsPathInText path → IsPathInText other → path_line e path ≡ path_line e other → path ≡ other
same_path Forward path other hp ho same = same_numbers path other hp.each ho.each (ap (λ (line : List (List ℕ)). drop 1 line) same)
same_path Backward path other hp ho same =
    let turned = same_numbers (reverse path) (reverse other) (ordered_in_range Backward path hp).each (ordered_in_range Backward other ho).each
    (ap (λ (line : List (List ℕ)). drop 1 line) same) in
    sym (reverse-reverse path) ∙ ap (λ (path : List ℕ). reverse path) turned ∙ reverse-reverse other

-- the paths of a side, where what follows them begins with another word
same_paths : (e : End) (paths others : List (List ℕ)) (rest more : List (List (List ℕ))) → first_word rest ≢ side_word e → first_word more ≢ side_word e
    → All IsPathInText paths → All IsPathInText others → map (path_line e) paths ++ rest ≡ map (path_line e) others ++ more → (paths ≡ others) × (rest ≡ more)
same_paths e [] [] rest more hr hm hp ho same = (refl, same)
same_paths e [] (q ∷ others) rest more hr hm hp ho same = absurd (hr (ap (λ (lines : List (List (List ℕ))). first_word lines) same))
same_paths e (p ∷ paths) [] rest more hr hm hp ho same = absurd (hm (ap (λ (lines : List (List (List ℕ))). first_word lines) (sym same)))
same_paths e (p ∷ paths) (q ∷ others) rest more hr hm hp ho same =
    let I : List ℕ → Type 0 = λ path. IsPathInText path in
    let first = heads (path_line e p) (path_line e q) (map (path_line e) paths ++ rest) (map (path_line e) others ++ more) same in
    let one = same_path e p q (All-head I p paths hp) (All-head I q others ho) first.0 in
    let left = same_paths e paths others rest more hr hm (All-tail I p paths hp) (All-tail I q others ho) first.1 in
    (ap (λ (path : List ℕ). path ∷ paths) one ∙ ap (λ (paths : List (List ℕ)). q ∷ paths) left.0, left.1)

-- marks and `end` begin with no letter of a side, and backward labels not with the letter of the forward one
other_word : (word other : List ℕ) → get_or word 0 0 ≢ get_or other 0 0 → word ≢ other
other_word word other differ e = differ (ap (λ (word : List ℕ). get_or word 0 0) e)

marks_word : (e : End) (marks : List Mark) → first_word (map mark_line marks ++ end_line ∷ []) ≢ side_word e
marks_word Forward [] = other_word (codes "end") (codes "F") (omega arith)
marks_word Backward [] = other_word (codes "end") (codes "B") (omega arith)
marks_word Forward (Retire f a b ∷ marks) = other_word (codes "R") (codes "F") (omega arith)
marks_word Backward (Retire f a b ∷ marks) = other_word (codes "R") (codes "B") (omega arith)
marks_word Forward (Cut f a ∷ marks) = other_word (codes "C") (codes "F") (omega arith)
marks_word Backward (Cut f a ∷ marks) = other_word (codes "C") (codes "B") (omega arith)

backward_word : (paths : List (List ℕ)) (marks : List Mark) → first_word (map (path_line Backward) paths ++ (map mark_line marks ++ end_line ∷ [])) ≢ side_word Forward
backward_word [] marks = marks_word Forward marks
backward_word (path ∷ paths) marks = other_word (codes "B") (codes "F") (omega arith)

-- a mark is told by its line
same_side : (e f : End) → side_word e ≡ side_word f → e ≡ f
same_side Forward Forward same = refl
same_side Backward Backward same = refl
same_side Forward Backward same = absurd (other_word (codes "F") (codes "B") (omega arith) same)
same_side Backward Forward same = absurd (other_word (codes "B") (codes "F") (omega arith) same)

same_label : (a b : ℕ) → a < MAX_LABELS → b < MAX_LABELS → decimal a ≡ decimal b → a ≡ b
same_label a b ha hb e = decimal_injective a b (omega (arith, ha)) (omega (arith, hb)) e

same_mark : (mark other : Mark) → IsMarkInText mark → IsMarkInText other → mark_line mark ≡ mark_line other → mark ≡ other
same_mark (Retire e a b) (Retire f c d) h k same =
    let side = same_side e f (ap (λ (line : List (List ℕ)). get_or line 1 []) same) in
    let first = same_label a c h.0 k.0 (ap (λ (line : List (List ℕ)). get_or line 2 []) same) in
    let second = same_label b d h.1 k.1 (ap (λ (line : List (List ℕ)). get_or line 3 []) same) in
    ap (λ (e : End). Retire e a b) side ∙ ap (λ (a : ℕ). Retire f a b) first ∙ ap (λ (b : ℕ). Retire f c b) second
same_mark (Cut e a) (Cut f b) h k same =
    let side = same_side e f (ap (λ (line : List (List ℕ)). get_or line 1 []) same) in
    let first = same_label a b h k (ap (λ (line : List (List ℕ)). get_or line 2 []) same) in
    ap (λ (e : End). Cut e a) side ∙ ap (λ (a : ℕ). Cut f a) first
same_mark (Retire e a b) (Cut f c) h k same = absurd (other_word (codes "R") (codes "C") (omega arith) (ap (λ (line : List (List ℕ)). get_or line 0 []) same))
same_mark (Cut f c) (Retire e a b) h k same = absurd (other_word (codes "C") (codes "R") (omega arith) (ap (λ (line : List (List ℕ)). get_or line 0 []) same))

mark_word : (mark : Mark) (lines : List (List (List ℕ))) → first_word (mark_line mark ∷ lines) ≢ codes "end"
mark_word (Retire e a b) lines = other_word (codes "R") (codes "end") (omega arith)
mark_word (Cut e a) lines = other_word (codes "C") (codes "end") (omega arith)

same_marks : (marks others : List Mark) → All IsMarkInText marks → All IsMarkInText others
    → map mark_line marks ++ end_line ∷ [] ≡ map mark_line others ++ end_line ∷ [] → marks ≡ others
same_marks [] [] hm ho e = refl
same_marks [] (n ∷ others) hm ho e = absurd (mark_word n (map mark_line others ++ end_line ∷ []) (ap (λ (lines : List (List (List ℕ))). first_word lines) (sym e)))
same_marks (m ∷ marks) [] hm ho e = absurd (mark_word m (map mark_line marks ++ end_line ∷ []) (ap (λ (lines : List (List (List ℕ))). first_word lines) e))
same_marks (m ∷ marks) (n ∷ others) hm ho e =
    let I : Mark → Type 0 = λ mark. IsMarkInText mark in
    let first = heads (mark_line m) (mark_line n) (map mark_line marks ++ end_line ∷ []) (map mark_line others ++ end_line ∷ []) e in
    ap (λ (mark : Mark). mark ∷ marks) (same_mark m n (All-head I m marks hm) (All-head I n others ho) first.0)
    ∙ ap (λ (marks : List Mark). n ∷ marks) (same_marks marks others (All-tail I m marks hm) (All-tail I n others ho) first.1)

-- a text is that of one log
pub one_log : (bytes : List ℕ) (l m : Log) → IsLogText bytes l → IsLogText bytes m → AreSame l m
one_log bytes l m hl hm =
    let lines = same_lines (answer_lines l) (answer_lines m) (answer_of_tokens l hl.in_range) (answer_of_tokens m hm.in_range) (sym hl.spelling ∙ hm.spelling) in
    let rl = hl.in_range in
    let rm = hm.in_range in
    let gains = same_gain l.gain m.gain (omega (arith, rl.gain)) (omega (arith, rm.gain)) (ap (λ (lines : List (List (List ℕ))). get_or lines 1 []) lines) in
    let counts = same_number_line (codes "strips") (length l.plan.items) (length m.plan.items) (omega (arith, rl.plan.few)) (omega (arith, rm.plan.few))
    (ap (λ (lines : List (List (List ℕ))). get_or lines 2 []) lines) in
    let labels = λ (log : Log). number_line (codes "labels") (label_count log) ∷ [] in
    let behind : (map acquisition_line l.plan.items ++ labels l) ++ log_lines l ≡ (map acquisition_line m.plan.items ++ labels m) ++ log_lines m =
    ap (λ (lines : List (List (List ℕ))). drop 3 lines) lines in
    let plans = same_plan l.plan.items m.plan.items (labels l ++ log_lines l) (labels m ++ log_lines m) counts rl.plan.each rm.plan.each
    (sym (append_assoc (map acquisition_line l.plan.items) (labels l) (log_lines l)) ∙ behind ∙ append_assoc (map acquisition_line m.plan.items) (labels m) (log_lines m)) in
    let cuts = same_number_line (codes "cut") l.cut m.cut (omega (arith, rl.cut)) (omega (arith, rm.cut)) (ap (λ (lines : List (List (List ℕ))). get_or lines 2 []) plans.1) in
    let F = λ (log : Log). map (path_line Forward) (items_of log.forward.items) in
    let B = λ (log : Log). map (path_line Backward) (items_of log.backward.items) in
    let M = λ (log : Log). map mark_line log.marks.items ++ end_line ∷ [] in
    let forwards = same_paths Forward (items_of l.forward.items) (items_of m.forward.items) (B l ++ M l) (B m ++ M m)
    (backward_word (items_of l.backward.items) l.marks.items) (backward_word (items_of m.backward.items) m.marks.items) (rl.paths Forward) (rm.paths Forward)
    (ap (λ (lines : List (List (List ℕ))). drop 3 lines) plans.1) in
    let backwards = same_paths Backward (items_of l.backward.items) (items_of m.backward.items) (M l) (M m)
    (marks_word Backward l.marks.items) (marks_word Backward m.marks.items) (rl.paths Backward) (rm.paths Backward) forwards.1 in
    record {
      cut = cuts;
      gain = gains;
      plan = plans.0;
      paths = both_sides l m forwards.0 backwards.0;
      marks = same_marks l.marks.items m.marks.items rl.marks rm.marks backwards.1;
    }
  where
    both_sides : (l m : Log) → items_of l.forward.items ≡ items_of m.forward.items → items_of l.backward.items ≡ items_of m.backward.items → (e : End) → paths_in l e ≡ paths_in m e
    both_sides l m forward backward Forward = forward
    both_sides l m forward backward Backward = backward
