-- Texts in front of other bytes: whole lines, of which none but the last is `end`.
use Rattle.std.proofs.Common.{◌≡◌, ℕ, zero, suc, ◌-◌, ◌<◌, Bool, true, false, cond, eqb, List, [], ◌∷◌, ◌++◌, length, take, get_or, refl, sym, ap, subst, ◌∙◌, append_assoc, append-nil, arith, inl, inr}
use Rattle.std.specs.Prelude.{◌⊎◌}
use Rattle.std.specs.List.{AllByRecursion}
use Rattle.std.proofs.lemmas.List.{append_cancel_right, length-append, take_at, take_all, get_or_at, length_push, nil_from_length}
use Rattle.instance_text.specs.Lines.{LF, onto_first_line, text_lines, IsCut}
use Rattle.instance_text.specs.Text.{IsEnd, last_line, lines_before_last, IsLookedAt}

-- ---- lines of joined bytes

pub text_lines_some : (bs : List ℕ) → 0 < length bs → 0 < length (text_lines bs)
text_lines_some [] h = absurd (omega arith)
text_lines_some (b ∷ bs) h = some (eqb b LF) b (text_lines bs) where
  first : (b : ℕ) (ls : List (List ℕ)) → 0 < length (onto_first_line b ls)
  first b [] = omega arith
  first b (l ∷ ls) = omega arith

  some : (t : Bool) (b : ℕ) (ls : List (List ℕ)) → 0 < length (cond t ([] ∷ ls) (onto_first_line b ls))
  some true b ls = omega arith
  some false b ls = first b ls

onto-append : (b : ℕ) (ls ms : List (List ℕ)) → 0 < length ls → onto_first_line b (ls ++ ms) ≡ onto_first_line b ls ++ ms
onto-append b [] ms h = absurd (omega arith)
onto-append b (l ∷ ls) ms h = refl

-- where the first bytes end with LF, the lines are theirs and those of the others
text_lines-append : (init back : List ℕ) → text_lines ((init ++ LF ∷ []) ++ back) ≡ text_lines (init ++ LF ∷ []) ++ text_lines back
text_lines-append [] back = refl
text_lines-append (b ∷ init) back = joined (eqb b LF) b (text_lines-append init back) where
  joined : (t : Bool) (b : ℕ) → text_lines ((init ++ LF ∷ []) ++ back) ≡ text_lines (init ++ LF ∷ []) ++ text_lines back
      → cond t ([] ∷ text_lines ((init ++ LF ∷ []) ++ back)) (onto_first_line b (text_lines ((init ++ LF ∷ []) ++ back))) ≡ cond t ([] ∷ text_lines (init ++ LF ∷ [])) (onto_first_line b (text_lines (init ++ LF ∷ []))) ++ text_lines back
  joined true b e = ap (λ (ls : List (List ℕ)). [] ∷ ls) e
  joined false b e =
      ap (λ (ls : List (List ℕ)). onto_first_line b ls) e
      ∙ onto-append b (text_lines (init ++ LF ∷ [])) (text_lines back) (text_lines_some (init ++ LF ∷ []) (omega (arith, length_push init LF)))

-- bytes that are whole lines: none, or the last is LF
pub data IsWhole : List ℕ → Type 0 where
  Nothing : IsWhole []
  EndsWithLF : (init : List ℕ) → IsWhole (init ++ LF ∷ [])

pub whole-append : (front back : List ℕ) → IsWhole front → text_lines (front ++ back) ≡ text_lines front ++ text_lines back
whole-append front back h = elim h as (λ f h. text_lines (f ++ back) ≡ text_lines f ++ text_lines back) [ Nothing ↦ refl | EndsWithLF init ↦ text_lines-append init back ]

-- ---- the lines so far

abbrev pub NoEnd : List (List ℕ) → Type 0
NoEnd lines = AllByRecursion (λ line. ¬ IsEnd line) lines

NoEnd-push : (ls : List (List ℕ)) (l : List ℕ) → NoEnd ls → ¬ IsEnd l → NoEnd (ls ++ l ∷ [])
NoEnd-push [] l h n = (n, tt)
NoEnd-push (m ∷ ls) l h n = (h.0, NoEnd-push ls l h.1 n)

-- the bytes before the rest are whole lines, and none of them is `end`
pub record NoEndBefore (bytes rest : List ℕ) : Type 0 where
  pub front : List ℕ
  pub parts : bytes ≡ front ++ rest
  pub whole : IsWhole front ⊎ (rest ≡ [])
  pub none : NoEnd (text_lines front)

pub no_end_yet : (bytes : List ℕ) → NoEndBefore bytes bytes
no_end_yet bytes = record { front = []; parts = refl; whole = inl Nothing; none = tt }

-- the next line, cut off
pub record Next (bytes line after : List ℕ) (front : List ℕ) : Type 0 where
  pub parts : bytes ≡ front ++ after
  pub whole : (IsWhole front × (get_or bytes (length front - 1) 0 ≡ LF)) ⊎ (after ≡ [])
  pub before : List (List ℕ)
  pub lines : text_lines front ≡ before ++ line ∷ []
  pub none : NoEnd before

next_LF : (bytes front line after : List ℕ) → bytes ≡ front ++ (line ++ LF ∷ after) → IsWhole front → NoEnd (text_lines front) → text_lines (line ++ LF ∷ after) ≡ line ∷ text_lines after
    → Next bytes line after ((front ++ line) ++ LF ∷ [])
next_LF bytes front line after parts whole none lines =
    let joined : front ++ (line ++ LF ∷ after) ≡ (front ++ line) ++ LF ∷ after = sym (append_assoc front line (LF ∷ after)) in
    let regrouped : (front ++ line) ++ LF ∷ after ≡ ((front ++ line) ++ LF ∷ []) ++ after = sym (append_assoc (front ++ line) (LF ∷ []) after) in
    let line_regrouped : line ++ LF ∷ after ≡ (line ++ LF ∷ []) ++ after = sym (append_assoc line (LF ∷ []) after) in
    let one : text_lines (line ++ LF ∷ []) ≡ line ∷ [] =
    append_cancel_right (text_lines (line ++ LF ∷ [])) (line ∷ []) (text_lines after) (sym (text_lines-append line after) ∙ ap text_lines (sym line_regrouped) ∙ lines) in
    let len : length ((front ++ line) ++ LF ∷ []) - 1 ≡ length (front ++ line) = omega (arith, length_push (front ++ line) LF) in
    record {
      parts = parts ∙ joined ∙ regrouped;
      whole = inl (EndsWithLF (front ++ line), rw len (ap (λ (bs : List ℕ). get_or bs (length (front ++ line)) 0) (parts ∙ joined) ∙ get_or_at (front ++ line) LF after 0 (length (front ++ line)) refl));
      before = text_lines front;
      lines = ap text_lines (append_assoc front line (LF ∷ [])) ∙ whole-append front (line ++ LF ∷ []) whole ∙ ap (λ (ls : List (List ℕ)). text_lines front ++ ls) one;
      none = none;
    }

next_last : (bytes front line : List ℕ) → bytes ≡ front ++ line → IsWhole front → NoEnd (text_lines front) → text_lines line ≡ line ∷ [] → Next bytes line [] (front ++ line)
next_last bytes front line parts whole none lines = record {
  parts = parts ∙ sym (append-nil (front ++ line));
  whole = inr refl;
  before = text_lines front;
  lines = whole-append front line whole ∙ ap (λ (ls : List (List ℕ)). text_lines front ++ ls) lines;
  none = none;
}

whole_before : (front rest : List ℕ) → 0 < length rest → IsWhole front ⊎ (rest ≡ []) → IsWhole front
whole_before front rest some (inl h) = h
whole_before front rest some (inr h) = absurd (omega (arith, ap length h))

next : (bytes rest line after : List ℕ) → NoEndBefore bytes rest → 0 < length rest → IsCut rest line after → text_lines rest ≡ line ∷ text_lines after → (front : List ℕ) × Next bytes line after front
next bytes rest line after h some (inl cut) lines = (
  (h.front ++ line) ++ LF ∷ [],
  next_LF bytes h.front line after (h.parts ∙ ap (λ (bs : List ℕ). h.front ++ bs) cut) (whole_before h.front rest some h.whole) h.none (ap text_lines (sym cut) ∙ lines),
)
next bytes rest line after h some (inr (all, none)) lines = (
  h.front ++ line,
  subst (λ (after : List ℕ). Next bytes line after (h.front ++ line)) (sym none)
      (next_last bytes h.front line (h.parts ∙ ap (λ (bs : List ℕ). h.front ++ bs) all) (whole_before h.front rest some h.whole) h.none (ap text_lines (sym all) ∙ lines ∙ ap (λ (bs : List ℕ). line ∷ text_lines bs) none)),
)

only_whole : (bytes front after : List ℕ) → (IsWhole front × (get_or bytes (length front - 1) 0 ≡ LF)) ⊎ (after ≡ []) → IsWhole front ⊎ (after ≡ [])
only_whole bytes front after (inl h) = inl h.0
only_whole bytes front after (inr h) = inr h

pub passes_line : (bytes rest line after : List ℕ) → NoEndBefore bytes rest → 0 < length rest → IsCut rest line after → text_lines rest ≡ line ∷ text_lines after → ¬ IsEnd line → NoEndBefore bytes after
passes_line bytes rest line after h some cut lines isnt =
    let n = next bytes rest line after h some cut lines in
    record {
      front = n.0;
      parts = n.1.parts;
      whole = only_whole bytes n.0 after n.1.whole;
      none = subst (λ (ls : List (List ℕ)). NoEnd ls) (sym n.1.lines) (NoEnd-push n.1.before line n.1.none isnt);
    }

last_of : (front line : List ℕ) (before : List (List ℕ)) → text_lines front ≡ before ++ line ∷ [] → last_line front ≡ line
last_of front line before e =
    let len : length (text_lines front) - 1 ≡ length before = omega (arith, ap length e, length_push before line) in
    rw len (ap (λ (ls : List (List ℕ)). get_or ls (length before) []) e ∙ get_or_at before line [] [] (length before) refl)

before_of : (front line : List ℕ) (before : List (List ℕ)) → text_lines front ≡ before ++ line ∷ [] → lines_before_last front ≡ before
before_of front line before e =
    let len : length (text_lines front) - 1 ≡ length before = omega (arith, ap length e, length_push before line) in
    rw len (ap (λ (ls : List (List ℕ)). take (length before) ls) e ∙ take_at before (line ∷ []) (length before) refl)

over_of : (bytes front line after : List ℕ) → Next bytes line after front → IsEnd (last_line front) → (IsWhole front × (get_or bytes (length front - 1) 0 ≡ LF)) ⊎ (after ≡ [])
    → (length front ≡ length bytes) ⊎ (IsEnd (last_line front) × (get_or bytes (length front - 1) 0 ≡ LF))
over_of bytes front line after n is (inl h) = inr (is, h.1)
over_of bytes front line after n is (inr h) = inl (omega (arith, ap length n.parts, length-append front after, ap length h))

-- the first line `end` was cut off
pub finds_end : (bytes rest line after : List ℕ) (k : ℕ) → NoEndBefore bytes rest → 0 < length rest → IsCut rest line after → text_lines rest ≡ line ∷ text_lines after → IsEnd line
    → k ≡ length bytes - length after → IsLookedAt bytes k
finds_end bytes rest line after k h some cut lines is count =
    let found = next bytes rest line after h some cut lines in
    let front : List ℕ = found.0 in
    let n : Next bytes line after front = found.1 in
    let len : k ≡ length front = omega (arith, ap length n.parts, length-append front after) in
    let taken : take k bytes ≡ front = ap (λ (bs : List ℕ). take k bs) n.parts ∙ take_at front after k (sym len) in
    let last : last_line front ≡ line = last_of front line n.before n.lines in
    let over = over_of bytes front line after n (subst IsEnd (sym last) is) n.whole in
    record {
      within = omega arith;
      first = rw taken (rw (before_of front line n.before n.lines) n.none);
      over = rw (taken, len) over;
    }

-- no line is `end`
pub NoEnd-take : (n : ℕ) (ls : List (List ℕ)) → NoEnd ls → NoEnd (take n ls)
NoEnd-take zero ls h = tt
NoEnd-take (suc n) [] h = tt
NoEnd-take (suc n) (l ∷ ls) h = (h.0, NoEnd-take n ls h.1)

pub finds_none : (bytes rest : List ℕ) (k : ℕ) → NoEndBefore bytes rest → length rest ≡ 0 → k ≡ length bytes → IsLookedAt bytes k
finds_none bytes rest k h none count =
    let all : bytes ≡ h.front = h.parts ∙ ap (λ (bs : List ℕ). h.front ++ bs) (nil_from_length rest none) ∙ append-nil h.front in
    let taken : take k bytes ≡ h.front = take_all k bytes (omega arith) ∙ all in
    record {
      within = omega arith;
      first = rw taken (NoEnd-take (length (text_lines h.front) - 1) (text_lines h.front) h.none);
      over = inl count;
    }
