-- What a line that was read, or that can't stand, says of the bytes.
use Rattle.std.proofs.Common.{◌≡◌, ℕ, ◌+◌, ◌-◌, ◌<◌, ◌≤◌, List, [], ◌∷◌, ◌++◌, codes, length, refl, sym, ◌∙◌, ap, subst, arith, Option, None, Some}
use Rattle.plan_check.proofs.Lines.{IsFound, IsFirstBadLine-first, IsFirstBadLine-after, IsFirstBadLine-past_end, IsPlanText-found}
use Rattle.plan_check.specs.PlanText.{count_line, acquisition_line, end_line, IsPlanText}
use Rattle.plan_check.specs.Reading.{count_fields, acquisition_fields, end_fields, IsLineBegun, HasNoCount, HasNoAcquisition, HasRead}
use Rattle.plan_check.specs.Refusal.{IsFirstBadLine}
use Rattle.seq_io.proofs.Spelled.{unread-at_line, at_line-spelled, IsLine-spelled, is_token-decimal}
use Rattle.seq_io.proofs.StrictText.{number_stands, word_stands}
use Rattle.seq_io.specs.Line.{LF, spelled_line}
use Rattle.seq_io.specs.StrictText.{Field, Rest, IsLine, AreTokens, at_line, unread, line_fault, tokens_fault, end_fault}
use Rattle.seq_io.specs.declared.line_fault.LineFault.{LineFault}
use Rattle.strip_model.specs.Directed.{strip_of, direction_of}
use Rattle.strip_model.specs.declared.acquisition.Acquisition.{Acquisition}
use Rattle.strip_model.specs.declared.limits.TheConstants.{MAX_HORIZON, MAX_STRIPS}

-- a text from the beginning of a line on stands at the beginning of a line
pub IsLineBegun-at_line : (number : ℕ) (bytes : List ℕ) → IsLineBegun (at_line number bytes)
unfolding at_line
IsLineBegun-at_line number bytes = ap (λ (all : List ℕ). at_line number all) (sym (unread-at_line number bytes))

pub begun-from : (number : ℕ) (bytes : List ℕ) (old : Rest) → old ≡ at_line number bytes → IsLineBegun old
begun-from number bytes old start =
    let B : Rest → Type 0 = λ r. IsLineBegun r in
    subst B (sym start) (IsLineBegun-at_line number bytes)

pub unread-from : (number : ℕ) (bytes : List ℕ) (old : Rest) → old ≡ at_line number bytes → unread old ≡ bytes
unread-from number bytes old start = ap (λ (r : Rest). unread r) start ∙ unread-at_line number bytes

-- a line was read from its beginning: it was spelled, and the next one begins
pub record AfterLine (tokens : List (List ℕ)) (old new : Rest) : Type 0 where
  pub begun : IsLineBegun new
  pub spelling : unread old ≡ spelled_line tokens ++ unread new

pub after_line : (tokens : List (List ℕ)) (old new : Rest) → IsLineBegun old → IsLine tokens old new → AfterLine tokens old new
after_line tokens old new begun line =
    let L : Rest → Type 0 = λ r. IsLine tokens r new in
    let B : Rest → Type 0 = λ r. IsLineBegun r in
    let s = IsLine-spelled old.line (unread old) tokens new (subst L begun line) in
    let left : unread new ≡ s.rest = ap (λ (r : Rest). unread r) s.next ∙ unread-at_line (old.line + 1) s.rest in
    record {
      begun = subst B (sym s.next) (IsLineBegun-at_line (old.line + 1) s.rest);
      spelling = s.spelling ∙ ap (λ (rest : List ℕ). spelled_line tokens ++ rest) (sym left);
    }

-- a spelled line has no fault if its tokens can stand
stands : (fields : List Field) (tokens : List (List ℕ)) (rest : List ℕ) (old : Rest) → AreTokens tokens → tokens_fault fields tokens (LF ∷ rest) ≡ None
    → IsLineBegun old → unread old ≡ spelled_line tokens ++ rest → line_fault fields old ≡ None
stands fields tokens rest old are stand begun e =
    let F : Rest → Option LineFault = λ r. line_fault fields r in
    ap F (begun ∙ ap (λ (bytes : List ℕ). at_line old.line bytes) e ∙ at_line-spelled old.line tokens rest are) ∙ stand

-- where the first line has a fault, it isn't one that says how many acquisitions come
pub no_count : (old : Rest) (fault : LineFault) → IsLineBegun old → Some fault ≡ line_fault count_fields old → HasNoCount (unread old)
no_count old fault begun faulty count rest few e =
    let small = is_token-decimal count (omega (arith, few)) in
    let none : line_fault count_fields old ≡ None =
    stands count_fields (count_line count) rest old (refl, (small, tt))
    (rw (word_stands (codes "strips"), number_stands count MAX_STRIPS few (omega (arith, few))) refl) begun e in
    absurd (cc)

-- where a line has a fault, it is that of no acquisition
pub no_acquisition_read : (old : Rest) (fault : LineFault) → IsLineBegun old → Some fault ≡ line_fault acquisition_fields old → HasNoAcquisition (unread old)
no_acquisition_read old fault begun faulty a rest in_range e =
    let start = a.start in
    let strip = strip_of a.at in
    let direction = direction_of a.at in
    let none : line_fault acquisition_fields old ≡ None =
    stands acquisition_fields (acquisition_line a) rest old
    (is_token-decimal start (omega (arith, in_range.start)), (is_token-decimal strip (omega (arith, in_range.strip)), (is_token-decimal direction (omega arith), tt)))
    (rw (
      number_stands start MAX_HORIZON in_range.start (omega (arith, in_range.start)),
      number_stands strip (MAX_STRIPS - 1) (omega (arith, in_range.strip)) (omega (arith, in_range.strip)),
      number_stands direction 1 (omega arith) (omega arith),
    ) refl) begun e in
    absurd (cc)

-- where the last line has a fault, it isn't `end`
pub no_end_read : (old : Rest) (fault : LineFault) → IsLineBegun old → Some fault ≡ line_fault end_fields old
    → (more : List ℕ) → unread old ≡ codes "end\n" ++ more → ⊥
no_end_read old fault begun faulty more e =
    let none : line_fault end_fields old ≡ None = stands end_fields end_line more old (refl, tt) (rw (word_stands (codes "end")) refl) begun e in
    cc

-- the text ends where nothing is left
pub ended_text : (old : Rest) → end_fault old ≡ None → unread old ≡ []
ended_text old e = by_parts old.tokens old.after e where
  by_parts : (tokens : List (List ℕ)) (after : List ℕ) → end_fault (record { line = old.line; tokens = tokens; after = after }) ≡ None
      → unread (record { line = old.line; tokens = tokens; after = after }) ≡ []
  by_parts [] [] e = refl
  by_parts [] (b ∷ after) e = absurd (cc)
  by_parts (token ∷ tokens) after e = absurd (cc)

-- and it doesn't where something is
end_of_none : (number : ℕ) → end_fault (at_line number []) ≡ None
unfolding at_line
end_of_none number = refl

pub more_text : (old : Rest) (fault : LineFault) → IsLineBegun old → Some fault ≡ end_fault old → unread old ≡ [] → ⊥
more_text old fault begun faulty e =
    let F : Rest → Option LineFault = λ r. end_fault r in
    let none : end_fault old ≡ None = ap F (begun ∙ ap (λ (bytes : List ℕ). at_line old.line bytes) e) ∙ end_of_none old.line in
    cc

-- ---- the parts of a plan's text, as they are read

-- the first line was read, and the next one begins
pub record IsCounted (bytes : List ℕ) (count : ℕ) (new : Rest) : Type 0 where
  pub begun : IsLineBegun new
  pub first : bytes ≡ spelled_line (count_line count) ++ unread new

pub counted : (bytes : List ℕ) (count : ℕ) (old new : Rest) → old ≡ at_line 1 bytes → IsLine (count_line count) old new → IsCounted bytes count new
counted bytes count old new start line =
    let s = after_line (count_line count) old new (begun-from 1 bytes old start) line in
    record { begun = s.begun; first = sym (unread-from 1 bytes old start) ∙ s.spelling }

-- the first line can't stand
pub bad_first : (bytes : List ℕ) (old : Rest) (fault : LineFault) → old ≡ at_line 1 bytes → Some fault ≡ line_fault count_fields old → IsFirstBadLine bytes 1
bad_first bytes old fault start faulty =
    let N : List ℕ → Type 0 = λ bytes. HasNoCount bytes in
    IsFirstBadLine-first bytes (subst N (unread-from 1 bytes old start) (no_count old fault (begun-from 1 bytes old start) faulty))

-- what was found up to the line after the acquisitions
pub is_found : (bytes : List ℕ) (count : ℕ) (plan : List Acquisition) (old new : Rest) → count ≤ MAX_STRIPS → IsCounted bytes count old
    → (read : HasRead count old plan new) → IsFound bytes count plan read.rest
is_found bytes count plan old new few first read =
    record { few = few; after = unread old; first = first.first; acquisitions = read.found }

-- an acquisition is missing
pub bad_acquisition : (bytes : List ℕ) (count : ℕ) (plan : List Acquisition) (old new : Rest) (n : ℕ) → count ≤ MAX_STRIPS → IsCounted bytes count old
    → HasRead count old plan new → length plan < count → n ≡ length plan + 2 → IsFirstBadLine bytes n
bad_acquisition bytes count plan old new n few first read less line =
    IsFirstBadLine-after bytes count plan read.rest n (is_found bytes count plan old new few first read) (λ all. absurd (omega (arith, all, less))) line

-- `end` is missing
pub bad_end : (bytes : List ℕ) (count : ℕ) (plan : List Acquisition) (old new : Rest) (n : ℕ) (fault : LineFault) → count ≤ MAX_STRIPS
    → IsCounted bytes count old → HasRead count old plan new → Some fault ≡ line_fault end_fields new → n ≡ length plan + 2 → IsFirstBadLine bytes n
bad_end bytes count plan old new n fault few first read faulty line =
    IsFirstBadLine-after bytes count plan read.rest n (is_found bytes count plan old new few first read)
    (λ all more e.
    let start = read.next all in
    no_end_read new fault (begun-from new.line read.rest new start) faulty more (unread-from new.line read.rest new start ∙ e))
    line

-- `end` was read after all acquisitions
pub end_read : (count : ℕ) (plan : List Acquisition) (old new last : Rest) → (read : HasRead count old plan new) → length plan ≡ count
    → IsLine end_line new last → read.rest ≡ codes "end\n" ++ unread last
end_read count plan old new last read all line =
    let start = read.next all in
    sym (unread-from new.line read.rest new start) ∙ (after_line end_line new last (begun-from new.line read.rest new start) line).spelling

-- something follows `end`
pub bad_rest : (bytes : List ℕ) (count : ℕ) (plan : List Acquisition) (old new last : Rest) (n : ℕ) (fault : LineFault) → count ≤ MAX_STRIPS
    → IsCounted bytes count old → HasRead count old plan new → length plan ≡ count → IsLine end_line new last → Some fault ≡ end_fault last
    → n ≡ length plan + 3 → IsFirstBadLine bytes n
bad_rest bytes count plan old new last n fault few first read all line faulty at =
    let start = read.next all in
    let begun = (after_line end_line new last (begun-from new.line read.rest new start) line).begun in
    IsFirstBadLine-past_end bytes count plan read.rest (unread last) n (is_found bytes count plan old new few first read) all
    (end_read count plan old new last read all line) (more_text last fault begun faulty) at

-- nothing follows `end`
pub whole_text : (bytes : List ℕ) (count : ℕ) (plan : List Acquisition) (old new last : Rest) → count ≤ MAX_STRIPS
    → IsCounted bytes count old → HasRead count old plan new → length plan ≡ count → IsLine end_line new last → end_fault last ≡ None
    → IsPlanText bytes plan
whole_text bytes count plan old new last few first read all line none =
    IsPlanText-found bytes count plan read.rest (is_found bytes count plan old new few first read) all
    (end_read count plan old new last read all line ∙ ap (λ (more : List ℕ). codes "end\n" ++ more) (ended_text last none))
