-- The lines of the labels of a side.
use Rattle.std.proofs.Common.{◌≡◌, ℕ, zero, suc, ◌-◌, ◌<◌, ◌⊎◌, inl, inr, true, false, List, [], ◌∷◌, ◌++◌, codes, All, length, map, reverse, decimal, refl, sym, ◌∙◌, ap, subst, arith, None, Vec}
use Rattle.std.specs.declared.alloc.Global.{Global}
use Rattle.std.proofs.lemmas.List.{map-append, reverse-reverse, length-reverse, get_or-reverse}
use Rattle.std.proofs.lemmas.List.Elements.{All-push}
use Rattle.plan_check.specs.Reading.{IsLineBegun}
use Rattle.proof_log.proofs.Parts.{refused_line, passed_line, both_passed, rest_fault-at_line}
use Rattle.proof_log.proofs.Stages.{more_lines, first_and_more}
use Rattle.proof_log.specs.AnswerReading.{rest_fault, Passes, IsUnread, IsUnreadLine, ArePathsRead, items_of}
use Rattle.proof_log.specs.AnswerRefusal.{Stage, AtPaths, paths_stage, stage_after, lines_fault, bytes_fault, label_fields, label_side}
use Rattle.proof_log.specs.AnswerText.{side_word, path_line, IsPathInText}
use Rattle.proof_log.specs.declared.unread.Unread.{Unread}
use Rattle.proof_log.specs.declared.unread.Unread.TheVariants.{Fault, Memory}
use Rattle.seq_io.specs.StrictText.{Rest, IsLine, at_line, first_line, behind_line, line_tokens, unread, is_next, line_fault}
use Rattle.strip_model.specs.declared.end.End.{End}
use Rattle.strip_model.specs.declared.end.End.TheVariants.{Forward, Backward}

-- the line of a label can't stand
pub label_refused : (from : Stage) (e : End) (more : ℕ) (lines : List (List (List ℕ))) (old middle new : Rest) (unread : Unread)
    → Passes from (AtPaths e more) lines old middle → label_side e middle.tokens ≡ e
    → IsUnreadLine (label_fields e middle.tokens) middle new unread → IsUnread from old new unread
label_refused from e more lines old middle new (Fault fault) first side refused =
    first.same_fault
    ∙ refused_line (AtPaths e more) middle new fault first.begun (refused.0 ∙ ap (λ (e : End). line_fault (label_fields e middle.tokens) middle) (sym side)) refused.1
label_refused from e more lines old middle new Memory first side refused = tt

-- after the line of a label of a side no label of an earlier one comes
stage_behind : (e : End) (more : ℕ) (tokens : List (List ℕ)) → stage_after (AtPaths e more) (side_word e ∷ tokens) ≡ paths_stage e more
stage_behind Forward more tokens = refl
stage_behind Backward more tokens = refl

-- the line of a label was read
pub label_passed : (from : Stage) (e : End) (more : ℕ) (lines : List (List (List ℕ))) (path : List ℕ) (old middle new : Rest)
    → Passes from (AtPaths e more) lines old middle → label_side e middle.tokens ≡ e
    → IsLine (side_word e ∷ map decimal path) middle new → line_fault (label_fields e middle.tokens) middle ≡ None
    → Passes from (paths_stage e more) (lines ++ (side_word e ∷ map decimal path) ∷ []) old new
label_passed from e more lines path old middle new first side line stands =
    let tokens = side_word e ∷ map decimal path in
    let S : Stage → Type 0 = λ to. Passes from to (lines ++ tokens ∷ []) old new in
    subst S (stage_behind e more (map decimal path))
    (both_passed from (AtPaths e more) (stage_after (AtPaths e more) tokens) lines (tokens ∷ []) old middle new first
    (passed_line (AtPaths e more) tokens middle new first.begun line (ap (λ (e : End). line_fault (label_fields e middle.tokens) middle) side ∙ stands)))

-- one more label
pub one_more_path : (e : End) (from to : Stage) (old new : Rest) (paths all : List (Vec ℕ Global)) (path : Vec ℕ Global)
    → all ≡ paths ++ path ∷ [] → All IsPathInText (items_of paths) → IsPathInText path.items
    → Passes from to (map (path_line e) (items_of paths) ++ path_line e path.items ∷ []) old new → ArePathsRead e from to old new all
one_more_path e from to old new paths all path pushed in_range here passes =
    let I : List ℕ → Type 0 = λ path. IsPathInText path in
    let A : List (List ℕ) → Type 0 = λ paths. All I paths in
    let L : List (List (List ℕ)) → Type 0 = λ lines. Passes from to lines old new in
    let items : items_of all ≡ items_of paths ++ path.items ∷ [] =
    ap (λ (paths : List (Vec ℕ Global)). items_of paths) pushed ∙ map-append (λ (path : Vec ℕ Global). path.items) paths (path ∷ []) in
    record {
      in_range = subst A (sym items) (All-push I (items_of paths) path.items in_range here);
      passes = subst L (sym (map-append (path_line e) (items_of paths) (path.items ∷ [])) ∙ ap (λ (paths : List (List ℕ)). map (path_line e) paths) (sym items)) passes;
    }

-- a path turned round is within the ranges, and its line is that of the path in time order
pub reversed_in_range : (path turned : List ℕ) → turned ≡ reverse path → IsPathInText path → IsPathInText turned
reversed_in_range path turned e h =
    let I : List ℕ → Type 0 = λ path. IsPathInText path in
    let P : ℕ → Type 0 = λ x. x < 128 in
    subst I (sym e) (record {
      some = omega (arith, h.some, length-reverse path);
      few = omega (arith, h.few, length-reverse path);
      each = λ k d l.
          let inside : k < length path = omega (arith, l, length-reverse path) in
          subst P (sym (get_or-reverse path k d inside)) (h.each (length path - 1 - k) d (omega (arith, inside)));
    })

pub reversed_line : (path turned : List ℕ) → turned ≡ reverse path → side_word Backward ∷ map decimal path ≡ path_line Backward turned
reversed_line path turned e =
    ap (λ (path : List ℕ). side_word Backward ∷ map decimal path) (sym (reverse-reverse path) ∙ ap (λ (path : List ℕ). reverse path) (sym e))

-- where no forward label comes, a backward one must, or none
fault_of_turned : (more n : ℕ) (line behind : List ℕ) → is_next (codes "F") (line_tokens line) ≡ false
    → lines_fault (AtPaths Forward more) n (line ∷ more_lines behind) ≡ lines_fault (AtPaths Backward more) n (line ∷ more_lines behind)
fault_of_turned more n line [] other = rw other refl
fault_of_turned more n line (b ∷ bytes) other = rw (first_and_more bytes, other) refl

bytes_of_turned : (more n : ℕ) (bytes : List ℕ) → is_next (codes "F") (at_line n bytes).tokens ≡ false
    → bytes_fault (AtPaths Forward more) n bytes ≡ bytes_fault (AtPaths Backward more) n bytes
unfolding at_line
bytes_of_turned more n bytes other =
    ap (λ (lines : List (List ℕ)). lines_fault (AtPaths Forward more) n lines) (first_and_more bytes)
    ∙ fault_of_turned more n (first_line bytes) (behind_line bytes) other
    ∙ ap (λ (lines : List (List ℕ)). lines_fault (AtPaths Backward more) n lines) (sym (first_and_more bytes))

pub none_forward : (left : ℕ) (rest : Rest) → IsLineBegun rest → (left ≡ 0) ⊎ (is_next (codes "F") rest.tokens ≡ false)
    → rest_fault (paths_stage Forward left) rest ≡ rest_fault (paths_stage Backward left) rest
none_forward left rest begun (inl none) =
    ap (λ (n : ℕ). rest_fault (paths_stage Forward n) rest) none ∙ ap (λ (n : ℕ). rest_fault (paths_stage Backward n) rest) (sym none)
none_forward zero rest begun (inr other) = refl
none_forward (suc more) rest begun (inr other) =
    let bytes = unread rest in
    let other_at : is_next (codes "F") (at_line rest.line bytes).tokens ≡ false = ap (λ (rest : Rest). is_next (codes "F") rest.tokens) (sym begun) ∙ other in
    ap (λ (rest : Rest). rest_fault (AtPaths Forward more) rest) begun
    ∙ rest_fault-at_line (AtPaths Forward more) rest.line bytes
    ∙ bytes_of_turned more rest.line bytes other_at
    ∙ sym (rest_fault-at_line (AtPaths Backward more) rest.line bytes)
    ∙ ap (λ (rest : Rest). rest_fault (AtPaths Backward more) rest) (sym begun)

-- a forward label comes
pub forward_side : (tokens : List (List ℕ)) → is_next (codes "F") tokens ≡ true → label_side Forward tokens ≡ Forward
forward_side tokens next = rw next refl
