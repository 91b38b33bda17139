-- The numbers of a path's line.
use Rattle.std.proofs.Common.{◌≡◌, ℕ, zero, suc, ◌+◌, ◌-◌, ◌*◌, ◌<◌, ◌⊎◌, inl, inr, List, [], ◌∷◌, ◌++◌, length, length-append, map, take, decimal, refl, sym, ◌∙◌, ap, arith, None, Some}
use Rattle.std.proofs.lemmas.List.{append_assoc, append-nil, map-append}
use Rattle.std.proofs.lemmas.List.Elements.{All-push}
use Rattle.proof_log.specs.AnswerRefusal.{path_fields}
use Rattle.proof_log.specs.AnswerText.{IsPathInText}
use Rattle.seq_io.proofs.Spelled.{line_fault-passes}
use Rattle.seq_io.specs.StrictText.{Field, Rest, ANumber, IsLine, at_line, first_fault, line_fault, tokens_fault, with_token}
use Rattle.seq_io.specs.declared.line_fault.LineFault.{LineFault}
use Rattle.strip_model.specs.declared.limits.TheConstants.{MAX_STRIPS}

-- the number of a directed strip
abbrev number : Field
number = ANumber (2 * MAX_STRIPS - 1)

-- as many numbers as stand there, and at most so many
abbrev pub numbers_fields : ℕ → List (List ℕ) → List Field
numbers_fields most tokens = map (λ _. ANumber (2 * MAX_STRIPS - 1)) (take most tokens)

-- one of them was read
pub number_passes : (most left : ℕ) (token : List ℕ) (old new : Rest) → most ≡ suc left → None ≡ first_fault number old.tokens → old ≡ with_token token new
    → line_fault (numbers_fields most old.tokens) old ≡ line_fault (numbers_fields left new.tokens) new
number_passes most left token old new one stands e =
    ap (λ (n : ℕ). line_fault (numbers_fields n old.tokens) old) one
    ∙ ap (λ (tokens : List (List ℕ)). line_fault (numbers_fields (suc left) tokens) old) (ap (λ (rest : Rest). rest.tokens) e)
    ∙ line_fault-passes number (numbers_fields left new.tokens) token old new (sym stands) e

-- one can't stand
pub number_stops : (most left : ℕ) (old : Rest) (fault : LineFault) → most ≡ suc left → 0 < length old.tokens → Some fault ≡ first_fault number old.tokens
    → Some fault ≡ line_fault (numbers_fields most old.tokens) old
number_stops most left old fault one some faulty =
    by_tokens old.tokens some faulty ∙ ap (λ (n : ℕ). line_fault (numbers_fields n old.tokens) old) (sym one)
  where
    by_tokens : (tokens : List (List ℕ)) → 0 < length tokens → Some fault ≡ first_fault number tokens
        → Some fault ≡ tokens_fault (numbers_fields (suc left) tokens) tokens old.after
    by_tokens [] some faulty = absurd (omega arith)
    by_tokens (token ∷ tokens) some faulty = rw (← faulty) refl

-- no more of them can be read
pub numbers_over : (most : ℕ) (rest : Rest) → (rest.tokens ≡ []) ⊎ (most ≡ 0) → line_fault (numbers_fields most rest.tokens) rest ≡ line_fault [] rest
numbers_over most rest (inl none) = ap (λ (fields : List Field). line_fault fields rest) (ap (λ (tokens : List (List ℕ)). numbers_fields most tokens) none ∙ no_fields most)
  where
    no_fields : (most : ℕ) → numbers_fields most [] ≡ []
    no_fields zero = refl
    no_fields (suc most) = refl
numbers_over most rest (inr none) = ap (λ (n : ℕ). line_fault (numbers_fields n rest.tokens) rest) none

-- the first was read
pub first_passes : (token : List ℕ) (old new : Rest) → None ≡ first_fault number old.tokens → old ≡ with_token token new
    → line_fault (path_fields old.tokens) old ≡ line_fault (numbers_fields (MAX_STRIPS - 1) new.tokens) new
first_passes token old new stands e =
    ap (λ (tokens : List (List ℕ)). line_fault (path_fields tokens) old) (ap (λ (rest : Rest). rest.tokens) e)
    ∙ line_fault-passes number (numbers_fields (MAX_STRIPS - 1) new.tokens) token old new (sym stands) e

-- the first can't stand
pub first_stops : (old : Rest) (fault : LineFault) → Some fault ≡ first_fault number old.tokens → Some fault ≡ line_fault (path_fields old.tokens) old
first_stops old fault faulty = by_tokens old.tokens faulty where
  by_tokens : (tokens : List (List ℕ)) → Some fault ≡ first_fault number tokens → Some fault ≡ tokens_fault (path_fields tokens) tokens old.after
  by_tokens [] faulty = faulty
  by_tokens (token ∷ tokens) faulty = rw (← faulty) refl

-- tokens were read, and then the end of their line
pub tokens_read : (tokens : List (List ℕ)) (old middle new : Rest) → old.tokens ≡ tokens ++ middle.tokens → old.after ≡ middle.after
    → old.line ≡ middle.line → IsLine [] middle new → IsLine tokens old new
tokens_read tokens old middle new e after line ended = record {
  tokens_are = e ∙ ap (λ (rest : List (List ℕ)). tokens ++ rest) ended.tokens_are ∙ append-nil tokens;
  bytes = ended.bytes;
  ends = after ∙ ended.ends;
  next = ended.next ∙ ap (λ (n : ℕ). at_line (n + 1) ended.bytes) (sym line);
}

-- one more token of the line was read
pub tokens_more : (path : List ℕ) (x : ℕ) (tokens : List (List ℕ)) (middle new : Rest) → tokens ≡ map decimal path ++ middle.tokens
    → middle ≡ with_token (decimal x) new → tokens ≡ map decimal (path ++ x ∷ []) ++ new.tokens
tokens_more path x tokens middle new e read =
    e
    ∙ ap (λ (rest : Rest). map decimal path ++ rest.tokens) read
    ∙ sym (append_assoc (map decimal path) (decimal x ∷ []) new.tokens)
    ∙ ap (λ (front : List (List ℕ)). front ++ new.tokens) (sym (map-append decimal path (x ∷ [])))

-- a path of one directed strip is within the ranges, and so is one with one more
pub one_in_range : (x : ℕ) → x < 2 * MAX_STRIPS → IsPathInText (x ∷ [])
one_in_range x small = record {
  some = omega arith;
  few = omega arith;
  each = All-push (λ x. x < 2 * MAX_STRIPS) [] x (λ k d l. absurd (omega (arith, l))) small;
}

pub more_in_range : (path : List ℕ) (x : ℕ) → IsPathInText path → length path < MAX_STRIPS → x < 2 * MAX_STRIPS → IsPathInText (path ++ x ∷ [])
more_in_range path x h room small = record {
  some = omega (arith, length-append path (x ∷ []));
  few = omega (arith, length-append path (x ∷ []));
  each = All-push (λ x. x < 2 * MAX_STRIPS) path x h.each small;
}
