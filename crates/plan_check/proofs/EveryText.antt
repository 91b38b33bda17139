-- A text is that of one plan, or else one line is the first that can't stand.
use Rattle.std.proofs.Common.{◌≡◌, ◌⊎◌, ℕ, zero, suc, ◌+◌, ◌-◌, ◌*◌, ◌<◌, ◌≤◌, List, [], ◌∷◌, ◌++◌, All, codes, decimal, length, map, refl, sym, ◌∙◌, ap, subst, inl, inr, arith, Option, None, Some}
use Rattle.std.proofs.lemmas.Bool.{cases_lt}
use Rattle.std.proofs.lemmas.List.{append_assoc, append-nil}
use Rattle.std.proofs.lemmas.List.Concat.{flat_map-append}
use Rattle.std.proofs.lemmas.List.Elements.{All-nil, All-cons}
use Rattle.std.specs.List.{flat_map}
use Rattle.plan_check.proofs.Lines.{IsFound, spelled, found_text, IsFirstBadLine-first, IsFirstBadLine-after, IsFirstBadLine-past_end, IsPlanText-found}
use Rattle.plan_check.proofs.ReadLines.{begun-from, no_count, no_acquisition_read, no_end_read}
use Rattle.plan_check.proofs.Stood.{word_stood, number_stood, first_stood, last_stood, line_stood}
use Rattle.plan_check.specs.PlanText.{count_line, acquisition_line, end_line, IsAcquisitionInText, IsPlanText}
use Rattle.plan_check.specs.Reading.{count_fields, acquisition_fields, end_fields, HasNoCount, HasNoAcquisition, BeginWith}
use Rattle.plan_check.specs.Refusal.{IsFirstBadLine}
use Rattle.seq_io.proofs.Spelled.{unread-at_line}
use Rattle.seq_io.specs.Line.{spelled_line}
use Rattle.seq_io.specs.StrictText.{TheWord, ANumber, at_line, unread, line_fault}
use Rattle.seq_io.specs.declared.line_fault.LineFault.{LineFault}
use Rattle.strip_model.specs.Directed.{strip_of, direction_of}
use Rattle.strip_model.specs.declared.acquisition.Acquisition.{Acquisition}
use Rattle.strip_model.specs.declared.limits.TheConstants.{MAX_HORIZON, MAX_STRIPS}

-- ---- a text is that of one plan

-- what is found in the text of a plan
found_in_text : (bytes : List ℕ) (plan : List Acquisition) → IsPlanText bytes plan → IsFound bytes (length plan) plan (codes "end\n")
found_in_text bytes plan text = record {
  few = text.in_range.few;
  after = spelled plan ++ codes "end\n";
  first = text.spelling
      ∙ ap (λ (rest : List ℕ). spelled_line (count_line (length plan)) ++ rest) (flat_map-append spelled_line (map acquisition_line plan) (end_line ∷ []));
  acquisitions = record {
    few = omega arith;
    in_range = text.in_range.each;
    lines = refl;
    stop = λ less. absurd (omega (arith, less));
  };
}

pub one_plan : (bytes : List ℕ) (one other : List Acquisition) → IsPlanText bytes one → IsPlanText bytes other → one ≡ other
one_plan bytes one other first second = (found_text bytes (length one) one (codes "end\n") (found_in_text bytes one first) other second).1

-- and none of its lines is one that can't stand
pub no_bad_line : (bytes : List ℕ) (plan : List Acquisition) (n : ℕ) → IsPlanText bytes plan → IsFirstBadLine bytes n → ⊥
no_bad_line bytes plan n text bad = bad.unfinished plan text

-- ---- the first line of some bytes

-- it says how many acquisitions come
record BeginsWithCount (bytes : List ℕ) : Type 0 where
  pub count : ℕ
  pub rest : List ℕ
  pub few : count ≤ MAX_STRIPS
  pub spelling : bytes ≡ spelled_line (count_line count) ++ rest

has_count : (bytes : List ℕ) → line_fault count_fields (at_line 1 bytes) ≡ None → BeginsWithCount bytes
has_count bytes stands =
    let line = at_line 1 bytes in
    let word = first_stood (TheWord (codes "strips")) (ANumber MAX_STRIPS ∷ []) line.tokens line.after stands in
    let number = first_stood (ANumber MAX_STRIPS) [] word.more line.after word.others in
    let last = last_stood number.more line.after number.others in
    let n = number_stood MAX_STRIPS number.token (omega arith) number.stands in
    let L : List ℕ → List (List ℕ) → List (List ℕ) = λ token tokens. token ∷ tokens in
    let tokens : line.tokens ≡ count_line n.number =
    word.is
    ∙ ap (λ (token : List ℕ). L token word.more) (word_stood (codes "strips") word.token word.stands)
    ∙ ap (λ (tokens : List (List ℕ)). L (codes "strips") tokens)
    (number.is ∙ ap (λ (token : List ℕ). L token number.more) n.spelling ∙ ap (λ (tokens : List (List ℕ)). L (decimal n.number) tokens) last.none) in
    record { count = n.number; rest = last.more; few = n.within; spelling = line_stood bytes (count_line n.number) last.byte last.more tokens last.over }

count_or_none : (bytes : List ℕ) → BeginsWithCount bytes ⊎ HasNoCount bytes
count_or_none bytes = by_fault (line_fault count_fields (at_line 1 bytes)) refl where
  by_fault : (found : Option LineFault) → line_fault count_fields (at_line 1 bytes) ≡ found → BeginsWithCount bytes ⊎ HasNoCount bytes
  by_fault None e = inl (has_count bytes e)
  by_fault (Some fault) e =
      let N : List ℕ → Type 0 = λ bytes. HasNoCount bytes in
      inr (subst N (unread-at_line 1 bytes) (no_count (at_line 1 bytes) fault (begun-from 1 bytes (at_line 1 bytes) refl) (sym e)))

-- it is that of an acquisition
record BeginsWithAcquisition (bytes : List ℕ) : Type 0 where
  pub acquisition : Acquisition
  pub rest : List ℕ
  pub in_range : IsAcquisitionInText acquisition
  pub spelling : bytes ≡ spelled_line (acquisition_line acquisition) ++ rest

has_acquisition : (bytes : List ℕ) → line_fault acquisition_fields (at_line 1 bytes) ≡ None → BeginsWithAcquisition bytes
has_acquisition bytes stands =
    let line = at_line 1 bytes in
    let start = first_stood (ANumber MAX_HORIZON) (ANumber (MAX_STRIPS - 1) ∷ ANumber 1 ∷ []) line.tokens line.after stands in
    let strip = first_stood (ANumber (MAX_STRIPS - 1)) (ANumber 1 ∷ []) start.more line.after start.others in
    let direction = first_stood (ANumber 1) [] strip.more line.after strip.others in
    let last = last_stood direction.more line.after direction.others in
    let s = number_stood MAX_HORIZON start.token (omega arith) start.stands in
    let i = number_stood (MAX_STRIPS - 1) strip.token (omega arith) strip.stands in
    let d = number_stood 1 direction.token (omega arith) direction.stands in
    let a : Acquisition = record { start = s.number; at = 2 * i.number + d.number } in
    let of_strip : i.number ≡ strip_of a.at = omega (arith, d.within) in
    let of_direction : d.number ≡ direction_of a.at = omega (arith, d.within) in
    let L : List ℕ → List (List ℕ) → List (List ℕ) = λ token tokens. token ∷ tokens in
    let tokens : line.tokens ≡ acquisition_line a =
    start.is
    ∙ ap (λ (token : List ℕ). L token start.more) s.spelling
    ∙ ap (λ (tokens : List (List ℕ)). L (decimal s.number) tokens) strip.is
    ∙ ap (λ (token : List ℕ). L (decimal s.number) (L token strip.more)) (i.spelling ∙ ap (λ (n : ℕ). decimal n) of_strip)
    ∙ ap (λ (tokens : List (List ℕ)). L (decimal s.number) (L (decimal (strip_of a.at)) tokens)) direction.is
    ∙ ap (λ (token : List ℕ). L (decimal s.number) (L (decimal (strip_of a.at)) (L token direction.more))) (d.spelling ∙ ap (λ (n : ℕ). decimal n) of_direction)
    ∙ ap (λ (tokens : List (List ℕ)). L (decimal s.number) (L (decimal (strip_of a.at)) (L (decimal (direction_of a.at)) tokens))) last.none in
    record {
      acquisition = a;
      rest = last.more;
      in_range = record { start = s.within; strip = omega (arith, of_strip, i.within) };
      spelling = line_stood bytes (acquisition_line a) last.byte last.more tokens last.over;
    }

acquisition_or_none : (bytes : List ℕ) → BeginsWithAcquisition bytes ⊎ HasNoAcquisition bytes
acquisition_or_none bytes = by_fault (line_fault acquisition_fields (at_line 1 bytes)) refl where
  by_fault : (found : Option LineFault) → line_fault acquisition_fields (at_line 1 bytes) ≡ found → BeginsWithAcquisition bytes ⊎ HasNoAcquisition bytes
  by_fault None e = inl (has_acquisition bytes e)
  by_fault (Some fault) e =
      let N : List ℕ → Type 0 = λ bytes. HasNoAcquisition bytes in
      inr (subst N (unread-at_line 1 bytes) (no_acquisition_read (at_line 1 bytes) fault (begun-from 1 bytes (at_line 1 bytes) refl) (sym e)))

-- it is `end`
record BeginsWithEnd (bytes : List ℕ) : Type 0 where
  pub rest : List ℕ
  pub spelling : bytes ≡ codes "end\n" ++ rest

abbrev HasNoEnd : List ℕ → Type 0
HasNoEnd bytes = (more : List ℕ) → bytes ≡ codes "end\n" ++ more → ⊥

has_end : (bytes : List ℕ) → line_fault end_fields (at_line 1 bytes) ≡ None → BeginsWithEnd bytes
has_end bytes stands =
    let line = at_line 1 bytes in
    let word = first_stood (TheWord (codes "end")) [] line.tokens line.after stands in
    let last = last_stood word.more line.after word.others in
    let tokens : line.tokens ≡ end_line =
    word.is
    ∙ ap (λ (token : List ℕ). token ∷ word.more) (word_stood (codes "end") word.token word.stands)
    ∙ ap (λ (tokens : List (List ℕ)). codes "end" ∷ tokens) last.none in
    record { rest = last.more; spelling = line_stood bytes end_line last.byte last.more tokens last.over }

end_or_none : (bytes : List ℕ) → BeginsWithEnd bytes ⊎ HasNoEnd bytes
end_or_none bytes = by_fault (line_fault end_fields (at_line 1 bytes)) refl where
  by_fault : (found : Option LineFault) → line_fault end_fields (at_line 1 bytes) ≡ found → BeginsWithEnd bytes ⊎ HasNoEnd bytes
  by_fault None e = inl (has_end bytes e)
  by_fault (Some fault) e =
      inr (λ more same. no_end_read (at_line 1 bytes) fault (begun-from 1 bytes (at_line 1 bytes) refl) (sym e) more (unread-at_line 1 bytes ∙ same))

-- ---- the whole

-- the acquisitions that some bytes begin with, so many at most
record Acquisitions (wanted : ℕ) (bytes : List ℕ) : Type 0 where
  pub plan : List Acquisition
  pub rest : List ℕ
  pub found : BeginWith wanted bytes plan rest

no_acquisitions : (wanted : ℕ) (bytes : List ℕ) → (0 < wanted → HasNoAcquisition bytes) → Acquisitions wanted bytes
no_acquisitions wanted bytes none = record {
  plan = [];
  rest = bytes;
  found = record { few = omega arith; in_range = All-nil (λ a. IsAcquisitionInText a); lines = refl; stop = none };
}

one_more : (wanted : ℕ) (bytes : List ℕ) → (first : BeginsWithAcquisition bytes) → Acquisitions wanted first.rest → Acquisitions (suc wanted) bytes
one_more wanted bytes first more =
    let a = first.acquisition in
    record {
      plan = a ∷ more.plan;
      rest = more.rest;
      found = record {
        few = omega (arith, more.found.few);
        in_range = All-cons (λ a. IsAcquisitionInText a) a more.plan first.in_range more.found.in_range;
        lines = first.spelling
            ∙ ap (λ (rest : List ℕ). spelled_line (acquisition_line a) ++ rest) more.found.lines
            ∙ sym (append_assoc (spelled_line (acquisition_line a)) (spelled more.plan) more.rest);
        stop = λ less. more.found.stop (omega (arith, less));
      };
    }

acquisitions : (wanted : ℕ) (bytes : List ℕ) → Acquisitions wanted bytes
acquisitions zero bytes = no_acquisitions 0 bytes (λ some. absurd (omega (arith, some)))
acquisitions (suc wanted) bytes = elim (acquisition_or_none bytes) [
  | inl first ↦ one_more wanted bytes first (acquisitions wanted first.rest)
  | inr none ↦ no_acquisitions (suc wanted) bytes (λ _. none)
]

-- the bytes are the text of a plan, or one of their lines is the first that can't stand
abbrev IsSettled : List ℕ → Type 0
IsSettled bytes = ((plan : List Acquisition) × IsPlanText bytes plan) ⊎ ((n : ℕ) × IsFirstBadLine bytes n)

-- after all acquisitions and `end`
ended : (bytes : List ℕ) (count : ℕ) (plan : List Acquisition) (rest more : List ℕ) → IsFound bytes count plan rest → length plan ≡ count
    → rest ≡ codes "end\n" ++ more → IsSettled bytes
ended bytes count plan rest [] found all ends = inl (plan, IsPlanText-found bytes count plan rest found all (ends ∙ append-nil (codes "end\n")))
ended bytes count plan rest (b ∷ more) found all ends =
    inr (length plan + 3, IsFirstBadLine-past_end bytes count plan rest (b ∷ more) (length plan + 3) found all ends (λ none. cc) refl)

-- after the acquisitions
after_acquisitions : (bytes : List ℕ) (count : ℕ) (plan : List Acquisition) (rest : List ℕ) → IsFound bytes count plan rest → IsSettled bytes
after_acquisitions bytes count plan rest found = elim (end_or_none rest) [
  | inr none ↦ inr (length plan + 2, IsFirstBadLine-after bytes count plan rest (length plan + 2) found (λ _. none) refl)
  | inl end ↦ elim (cases_lt (length plan) count) [
    | inl less ↦
        inr (length plan + 2, IsFirstBadLine-after bytes count plan rest (length plan + 2) found (λ all. absurd (omega (arith, all, less))) refl)
    | inr most ↦ ended bytes count plan rest end.rest found (omega (arith, found.acquisitions.few, most)) end.spelling
  ]
]

pub settled : (bytes : List ℕ) → IsSettled bytes
settled bytes = elim (count_or_none bytes) [
  | inr none ↦ inr (1, IsFirstBadLine-first bytes none)
  | inl first ↦
      let found = acquisitions first.count first.rest in
      after_acquisitions bytes first.count found.plan found.rest
      (record { few = first.few; after = first.rest; first = first.spelling; acquisitions = found.found })
]
