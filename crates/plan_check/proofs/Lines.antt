-- The lines of a plan's text, read from the front.
use Rattle.std.proofs.Common.{◌≡◌, ℕ, zero, suc, ◌+◌, ◌<◌, ◌≤◌, List, [], ◌∷◌, ◌++◌, length, map, get_or, All, decimal, codes, refl, sym, ◌∙◌, ap, inl, inr, arith, length-append}
use Rattle.std.proofs.lemmas.Bool.{cases_lt}
use Rattle.std.proofs.lemmas.Fmt.{decimal_injective}
use Rattle.std.proofs.lemmas.List.{append_assoc, append-nil, append_cancel_left, length-map}
use Rattle.std.proofs.lemmas.List.Concat.{flat_map-append}
use Rattle.std.proofs.lemmas.List.Elements.{All-head, All-tail}
use Rattle.std.specs.List.{flat_map}
use Rattle.plan_check.specs.PlanText.{count_line, acquisition_line, end_line, IsAcquisitionInText, IsPlanText}
use Rattle.plan_check.specs.Reading.{HasNoCount, HasNoAcquisition, BeginWith}
use Rattle.plan_check.specs.Refusal.{IsAcquisitionLine, StandAfter, IsFirstBadLine}
use Rattle.seq_io.proofs.Fronts.{same_number}
use Rattle.seq_io.specs.Line.{spelled_line}
use Rattle.strip_model.specs.Directed.{strip_of, direction_of}
use Rattle.strip_model.specs.declared.acquisition.Acquisition.{Acquisition}
use Rattle.strip_model.specs.declared.limits.TheConstants.{MAX_HORIZON, MAX_STRIPS}

-- the parts of an acquisition's line, each with what follows it
acquisition_parts : (a : Acquisition) (rest : List ℕ)
    → spelled_line (acquisition_line a) ++ rest
    ≡ decimal a.start ++ 32 ∷ (decimal (strip_of a.at) ++ 32 ∷ (decimal (direction_of a.at) ++ 10 ∷ rest))
acquisition_parts a rest = simp append_assoc

-- what follows the start
after_start : (bytes rest more : List ℕ) (start : ℕ) (a : Acquisition) → bytes ≡ decimal start ++ 32 ∷ rest → start ≤ MAX_HORIZON
    → IsAcquisitionInText a → bytes ≡ spelled_line (acquisition_line a) ++ more
    → (start ≡ a.start) × (rest ≡ decimal (strip_of a.at) ++ 32 ∷ (decimal (direction_of a.at) ++ 10 ∷ more))
after_start bytes rest more start a read small h e =
    same_number start a.start 32 rest _ (omega arith) (omega (arith, h.start)) (omega arith) (sym read ∙ e ∙ acquisition_parts a more)

-- what follows the strip
after_strip : (bytes rest more : List ℕ) (strip direction x : ℕ) → bytes ≡ decimal strip ++ 32 ∷ rest → strip < MAX_STRIPS → strip_of x < MAX_STRIPS
    → bytes ≡ decimal (strip_of x) ++ 32 ∷ (decimal direction ++ 10 ∷ more) → (strip ≡ strip_of x) × (rest ≡ decimal direction ++ 10 ∷ more)
after_strip bytes rest more strip direction x read small h e =
    same_number strip (strip_of x) 32 rest _ (omega arith) (omega arith) (omega arith) (sym read ∙ e)

-- a line of an acquisition within the ranges is that of one alone
pub same_acquisition : (a b : Acquisition) (rest more : List ℕ) → IsAcquisitionInText a → IsAcquisitionInText b
    → spelled_line (acquisition_line a) ++ rest ≡ spelled_line (acquisition_line b) ++ more → (a ≡ b) × (rest ≡ more)
same_acquisition a b rest more ha hb e =
    let starts = after_start _ _ more a.start b (acquisition_parts a rest) ha.start hb e in
    let strips = after_strip _ _ more (strip_of a.at) (direction_of b.at) b.at refl ha.strip hb.strip starts.1 in
    let directions = same_number (direction_of a.at) (direction_of b.at) 10 rest more (omega arith) (omega arith) (omega arith) strips.1 in
    let made : ℕ → ℕ → Acquisition = λ start at. record { start = start; at = at } in
    let at : a.at ≡ b.at = omega (arith, strips.0, directions.0) in
    (ap (λ (start : ℕ). made start a.at) starts.0 ∙ ap (λ (at : ℕ). made b.start at) at, directions.1)

-- a first line is that of one number alone
pub same_count : (m n : ℕ) (rest more : List ℕ) → m ≤ MAX_STRIPS → n ≤ MAX_STRIPS
    → spelled_line (count_line m) ++ rest ≡ spelled_line (count_line n) ++ more → (m ≡ n) × (rest ≡ more)
same_count m n rest more hm hn e =
    same_number m n 10 rest more (omega arith) (omega arith) (omega arith)
    (append_cancel_left (codes "strips ") _ _ (sym (count_parts m rest) ∙ e ∙ count_parts n more))
  where
    count_parts : (n : ℕ) (rest : List ℕ) → spelled_line (count_line n) ++ rest ≡ codes "strips " ++ (decimal n ++ 10 ∷ rest)
    count_parts n rest = simp append_assoc

-- equal first lines have equal numbers
pub count_line_same : (m n : ℕ) → m ≤ MAX_STRIPS → n ≤ MAX_STRIPS → count_line m ≡ count_line n → m ≡ n
count_line_same m n hm hn e = decimal_injective m n (omega arith) (omega arith) (ap (λ (line : List (List ℕ)). get_or line 1 []) e)

-- the lines of acquisitions
abbrev pub spelled : List Acquisition → List ℕ
spelled plan = flat_map spelled_line (map acquisition_line plan)

-- the acquisitions that a text begins with are those of a plan whose lines it begins with
same_acquisitions : (plan other : List Acquisition) (rest more : List ℕ) → All IsAcquisitionInText plan → All IsAcquisitionInText other
    → length plan ≤ length other → (length plan < length other → HasNoAcquisition rest)
    → spelled plan ++ rest ≡ spelled other ++ more → (plan ≡ other) × (rest ≡ more)
same_acquisitions [] [] rest more hp ho few stop e = (refl, e)
same_acquisitions [] (b ∷ other) rest more hp ho few stop e =
    absurd (stop (omega arith) b (spelled other ++ more) (All-head IsAcquisitionInText b other ho) (e ∙ append_assoc (spelled_line (acquisition_line b)) (spelled other) more))
same_acquisitions (a ∷ plan) [] rest more hp ho few stop e = absurd (omega arith)
same_acquisitions (a ∷ plan) (b ∷ other) rest more hp ho few stop e =
    let P : Acquisition → Type 0 = λ a. IsAcquisitionInText a in
    let heads = same_acquisition a b (spelled plan ++ rest) (spelled other ++ more) (All-head P a plan hp) (All-head P b other ho)
    (sym (append_assoc (spelled_line (acquisition_line a)) (spelled plan) rest) ∙ e ∙ append_assoc (spelled_line (acquisition_line b)) (spelled other) more) in
    let tails = same_acquisitions plan other rest more (All-tail P a plan hp) (All-tail P b other ho) (omega arith) (λ l. stop (omega arith)) heads.1 in
    (ap (λ (x : Acquisition). x ∷ plan) heads.0 ∙ ap (λ (xs : List Acquisition). b ∷ xs) tails.0, tails.1)

-- what the reader finds, up to the line after the acquisitions
pub record IsFound (bytes : List ℕ) (count : ℕ) (plan : List Acquisition) (rest : List ℕ) : Type 0 where
  pub few : count ≤ MAX_STRIPS
  pub after : List ℕ
  pub first : bytes ≡ spelled_line (count_line count) ++ after
  pub acquisitions : BeginWith count after plan rest

-- it finds the plan of a text
pub found_text : (bytes : List ℕ) (count : ℕ) (plan : List Acquisition) (rest : List ℕ) → IsFound bytes count plan rest
    → (other : List Acquisition) → IsPlanText bytes other → (length plan ≡ count) × (plan ≡ other) × (rest ≡ codes "end\n")
found_text bytes count plan rest f other text =
    let end = end_line ∷ [] in
    let counts = same_count count (length other) f.after _ f.few text.in_range.few (sym f.first ∙ text.spelling) in
    let lines : f.after ≡ spelled other ++ codes "end\n" =
    counts.1 ∙ flat_map-append spelled_line (map acquisition_line other) end in
    let found = f.acquisitions in
    let same = same_acquisitions plan other rest (codes "end\n") found.in_range text.in_range.each (omega (arith, found.few, counts.0))
    (λ l. found.stop (omega (arith, l, counts.0))) (sym found.lines ∙ lines) in
    (ap (λ (xs : List Acquisition). length xs) same.0 ∙ sym counts.0, same.0, same.1)

stand_after : (count : ℕ) (plan : List Acquisition) → length plan ≤ count → All IsAcquisitionInText plan → StandAfter count (map acquisition_line plan)
stand_after count [] few h = stand_none count
  where
    stand_none : (count : ℕ) → StandAfter count []
    stand_none zero = tt
    stand_none (suc count) = tt
stand_after zero (a ∷ plan) few h = absurd (omega arith)
stand_after (suc count) (a ∷ plan) few h =
    ((a, All-head IsAcquisitionInText a plan h, refl), stand_after count plan (omega arith) (All-tail IsAcquisitionInText a plan h))

stand_to_end : (count : ℕ) (plan : List Acquisition) → length plan ≡ count → All IsAcquisitionInText plan
    → StandAfter count (map acquisition_line plan ++ end_line ∷ [])
stand_to_end zero [] few h = (refl, refl)
stand_to_end (suc count) [] few h = absurd (omega arith)
stand_to_end zero (a ∷ plan) few h = absurd (omega arith)
stand_to_end (suc count) (a ∷ plan) few h =
    ((a, All-head IsAcquisitionInText a plan h, refl), stand_to_end count plan (omega arith) (All-tail IsAcquisitionInText a plan h))

-- what can stand after acquisitions: one more, or `end` after all of them
next_line : (count : ℕ) (plan : List Acquisition) (line : List (List ℕ)) → length plan ≤ count → StandAfter count (map acquisition_line plan ++ line ∷ [])
    → (length plan < count → IsAcquisitionLine line) × (length plan ≡ count → line ≡ end_line)
next_line zero [] line few h = (λ l. absurd (omega arith), λ _. h.0)
next_line (suc count) [] line few h = (λ _. h.0, λ e. absurd (omega arith))
next_line zero (a ∷ plan) line few h = absurd (omega arith)
next_line (suc count) (a ∷ plan) line few h =
    let rest = next_line count plan line (omega arith) h.1 in
    (λ l. rest.0 (omega arith), λ e. rest.1 (omega arith))

-- nothing can stand after `end`
nothing_after_end : (count : ℕ) (plan : List Acquisition) (line : List (List ℕ)) → length plan ≡ count
    → StandAfter count (map acquisition_line plan ++ end_line ∷ [] ++ line ∷ []) → ⊥
nothing_after_end zero [] line e h = let none = h.1 in absurd (cc)
nothing_after_end (suc count) [] line e h = omega arith
nothing_after_end zero (a ∷ plan) line e h = omega arith
nothing_after_end (suc count) (a ∷ plan) line e h = nothing_after_end count plan line (omega arith) h.1

-- the line after the acquisitions is the first that can't stand if it isn't `end` after all of them
pub IsFirstBadLine-after : (bytes : List ℕ) (count : ℕ) (plan : List Acquisition) (rest : List ℕ) (n : ℕ) → IsFound bytes count plan rest
    → (length plan ≡ count → (more : List ℕ) → rest ≡ codes "end\n" ++ more → ⊥) → n ≡ length plan + 2 → IsFirstBadLine bytes n
IsFirstBadLine-after bytes count plan rest n f no_end line =
    let found = f.acquisitions in
    record {
      lines = count_line count ∷ map acquisition_line plan;
      rest = rest;
      number = omega (arith, length-map plan acquisition_line);
      split = f.first ∙ ap (λ (after : List ℕ). spelled_line (count_line count) ++ after) found.lines ∙ sym (append_assoc (spelled_line (count_line count)) (spelled plan) rest);
      stand = (count, f.few, refl, stand_after count plan found.few found.in_range);
      stop = λ line more e stand.
          let same = count_line_same count stand.0 f.few stand.1 stand.2 in
          let after : StandAfter count (map acquisition_line plan ++ line ∷ []) = rw same stand.3 in
          let next = next_line count plan line found.few after in
          elim (cases_lt (length plan) count) [
            | inl lt ↦
                let acquisition = next.0 lt in
                found.stop lt acquisition.0 more acquisition.1 (e ∙ ap (λ (line : List (List ℕ)). spelled_line line ++ more) acquisition.2)
            | inr le ↦
                let all : length plan ≡ count = omega (arith, found.few, le) in
                no_end all more (e ∙ ap (λ (line : List (List ℕ)). spelled_line line ++ more) (next.1 all))
          ];
      unfinished = λ other text.
          let whole = found_text bytes count plan rest f other text in
          no_end whole.0 [] whole.2;
    }

-- the line after `end` can't stand
pub IsFirstBadLine-past_end : (bytes : List ℕ) (count : ℕ) (plan : List Acquisition) (rest more : List ℕ) (n : ℕ) → IsFound bytes count plan rest
    → length plan ≡ count → rest ≡ codes "end\n" ++ more → (more ≡ [] → ⊥) → n ≡ length plan + 3 → IsFirstBadLine bytes n
IsFirstBadLine-past_end bytes count plan rest more n f all ends some line =
    let found = f.acquisitions in
    let end = end_line ∷ [] in
    record {
      lines = count_line count ∷ (map acquisition_line plan ++ end);
      rest = more;
      number = omega (arith, length-append (map acquisition_line plan) end, length-map plan acquisition_line);
      split = f.first
          ∙ ap (λ (after : List ℕ). spelled_line (count_line count) ++ after) (found.lines ∙ ap (λ (rest : List ℕ). spelled plan ++ rest) ends)
          ∙ regroup (spelled_line (count_line count)) (spelled plan) (codes "end\n") more
          ∙ ap (λ (lines : List ℕ). spelled_line (count_line count) ++ lines ++ more) (sym (flat_map-append spelled_line (map acquisition_line plan) end));
      stand = (count, f.few, refl, stand_to_end count plan all found.in_range);
      stop = λ line after e stand.
          let same = count_line_same count stand.0 f.few stand.1 stand.2 in
          nothing_after_end count plan line all (rw same stand.3);
      unfinished = λ other text.
          let whole = found_text bytes count plan rest f other text in
          some (append_cancel_left (codes "end\n") more [] (sym ends ∙ whole.2));
    }
  where
    regroup : (a b c d : List ℕ) → a ++ (b ++ (c ++ d)) ≡ a ++ (b ++ c) ++ d
    regroup a b c d = simp append_assoc

-- a text whose first line says no number of acquisitions is bad from the first line on
pub IsFirstBadLine-first : (bytes : List ℕ) → HasNoCount bytes → IsFirstBadLine bytes 1
IsFirstBadLine-first bytes none = record {
  lines = [];
  rest = bytes;
  number = refl;
  split = refl;
  stand = tt;
  stop = λ line more e stand.
      none stand.0 more stand.1 (e ∙ ap (λ (line : List (List ℕ)). spelled_line line ++ more) stand.2);
  unfinished = λ other text. none (length other) _ text.in_range.few text.spelling;
}

-- where `end` comes after all acquisitions, and nothing after it, the text is that of the plan
pub IsPlanText-found : (bytes : List ℕ) (count : ℕ) (plan : List Acquisition) (rest : List ℕ) → IsFound bytes count plan rest
    → length plan ≡ count → rest ≡ codes "end\n" → IsPlanText bytes plan
IsPlanText-found bytes count plan rest f all ends =
    let found = f.acquisitions in
    record {
      in_range = record { few = omega (arith, all, f.few); each = found.in_range };
      spelling = f.first
          ∙ ap (λ (n : ℕ). spelled_line (count_line n) ++ f.after) (sym all)
          ∙ ap (λ (after : List ℕ). spelled_line (count_line (length plan)) ++ after)
          (found.lines ∙ ap (λ (rest : List ℕ). spelled plan ++ rest) ends ∙ sym (flat_map-append spelled_line (map acquisition_line plan) (end_line ∷ [])));
    }

-- the lines of acquisitions with one more
pub spelled_more : (bytes : List ℕ) (plan more : List Acquisition) (a : Acquisition) (rest after : List ℕ) → more ≡ plan ++ a ∷ []
    → bytes ≡ spelled plan ++ rest → rest ≡ spelled_line (acquisition_line a) ++ after → bytes ≡ spelled more ++ after
spelled_more bytes plan more a rest after e lines line =
    lines
    ∙ ap (λ (rest : List ℕ). spelled plan ++ rest) line
    ∙ push plan
    ∙ ap (λ (plan : List Acquisition). spelled plan ++ after) (sym e)
  where
    one : List ℕ
    one = spelled_line (acquisition_line a)

    push : (plan : List Acquisition) → spelled plan ++ (one ++ after) ≡ spelled (plan ++ a ∷ []) ++ after
    push [] = ap (λ (front : List ℕ). front ++ after) (sym (append-nil one))
    push (b ∷ plan) =
        let front = spelled_line (acquisition_line b) in
        append_assoc front (spelled plan) (one ++ after)
        ∙ ap (λ (rest : List ℕ). front ++ rest) (push plan)
        ∙ sym (append_assoc front (spelled (plan ++ a ∷ [])) after)
