-- An instance text has its front, and the front is one with anything behind it.
use Rattle.std.proofs.Common.{◌≡◌, ℕ, zero, suc, ◌+◌, ◌-◌, ◌==◌, ◌<◌, ◌≤◌, Bool, true, false, cond, List, [], ◌∷◌, ◌++◌, length, take, drop, get_or, codes, refl, sym, ap, subst, ◌∙◌, append_assoc, append-nil, arith, inl, inr, true≢false}
use Rattle.std.specs.Prelude.{◌⊎◌}
use Rattle.std.proofs.lemmas.Bool.{cases_Bool, cond-true, cond-false, eqb-true}
use Rattle.std.proofs.lemmas.List.{length-append, length_push, length-take, take_at, take_all, take_more, take-append-drop, get_or_at}
use Rattle.std.proofs.lemmas.Slice.Eq.{bytes_eq-Decides}
use Rattle.std.specs.Str.{bytes_eq}
use Rattle.strip_model.specs.Orbit.{Orbit}
use Rattle.instance_text.proofs.FrontLaws.{IsOther, Others, body_of, lines_of-body, body_other, words_from, words_in, words_from-cons, words_from-push, words_in-end, others_from_no_end, split_last, front_from_text, looked_at, front_text}
use Rattle.instance_text.proofs.Fronts.{IsWhole, EndsWithLF, whole-append, text_lines_some, NoEnd, NoEndBefore, no_end_yet, passes_line, finds_end, finds_none}
use Rattle.instance_text.proofs.OneValue.{equal_from_text}
use Rattle.instance_text.proofs.Only.{in_form}
use Rattle.instance_text.specs.LineEnds.{ends_with_LF, with_line_end}
use Rattle.instance_text.specs.Lines.{LF, onto_first_line, text_lines, tokens_of, IsCut, lines_from}
use Rattle.instance_text.specs.Spelling.{lines_of}
use Rattle.instance_text.specs.Text.{IsText, IsEnd, last_line, lines_before_last, IsFront, IsLookedAt}

-- the tokens of a line `end`
abbrev end_words : List (List ℕ)
end_words = codes "end" ∷ []

-- ---- the first line

record FirstLine (bytes : List ℕ) : Type 0 where
  line : List ℕ
  after : List ℕ
  cut : IsCut bytes line after
  lines : text_lines bytes ≡ line ∷ text_lines after
  shorter : length after < length bytes

longer_cut : (b : ℕ) (bytes line after : List ℕ) → IsCut bytes line after → IsCut (b ∷ bytes) (b ∷ line) after
longer_cut b bytes line after (inl h) = inl (ap (λ (bs : List ℕ). b ∷ bs) h)
longer_cut b bytes line after (inr h) = inr (ap (λ (bs : List ℕ). b ∷ bs) h.0, h.1)

-- an LF is the whole first line
first_LF : (b : ℕ) (bytes : List ℕ) → (b == LF) ≡ true → FirstLine (b ∷ bytes)
first_LF b bytes is = record {
  line = [];
  after = bytes;
  cut = inl (ap (λ (c : ℕ). c ∷ bytes) (eqb-true b LF is));
  lines = cond-true (b == LF) ([] ∷ text_lines bytes) (onto_first_line b (text_lines bytes)) is;
  shorter = omega arith;
}

-- a single byte
first_alone : (b : ℕ) → (b == LF) ≡ false → FirstLine (b ∷ [])
first_alone b other = record {
  line = b ∷ [];
  after = [];
  cut = inr (refl, refl);
  lines = cond-false (b == LF) ([] ∷ []) ((b ∷ []) ∷ []) other;
  shorter = omega arith;
}

-- one byte before a first line
first_more : (b c : ℕ) (bytes : List ℕ) → (b == LF) ≡ false → FirstLine (c ∷ bytes) → FirstLine (b ∷ c ∷ bytes)
first_more b c bytes other rest = record {
  line = b ∷ rest.line;
  after = rest.after;
  cut = longer_cut b (c ∷ bytes) rest.line rest.after rest.cut;
  lines =
      cond-false (b == LF) ([] ∷ text_lines (c ∷ bytes)) (onto_first_line b (text_lines (c ∷ bytes))) other
      ∙ ap (λ (ls : List (List ℕ)). onto_first_line b ls) rest.lines;
  shorter = omega (arith, rest.shorter);
}

first_line : (b : ℕ) (bytes : List ℕ) → FirstLine (b ∷ bytes)
first_line b [] = elim (cases_Bool (b == LF)) [ inl is ↦ first_LF b [] is | inr other ↦ first_alone b other ]
first_line b (c ∷ bytes) =
    let rest : FirstLine (c ∷ bytes) = first_line c bytes in
    elim (cases_Bool (b == LF)) [ inl is ↦ first_LF b (c ∷ bytes) is | inr other ↦ first_more b c bytes other rest ]

-- ---- what is looked at

is_end_cases : (tokens : List (List ℕ)) → (tokens ≡ end_words) ⊎ ¬ (tokens ≡ end_words)
is_end_cases [] = inr (λ e. omega (arith, ap length e))
is_end_cases (token ∷ more ∷ tokens) = inr (λ e. omega (arith, ap length e))
is_end_cases (token ∷ []) =
    let d = bytes_eq-Decides token (codes "end") in
    elim (cases_Bool (bytes_eq token (codes "end"))) [
      | inl same ↦ inl (ap (λ (t : List ℕ). t ∷ []) (d.0 same))
      | inr other ↦ inr (λ e. absurd (true≢false (sym (d.1 (ap (λ (words : List (List ℕ)). get_or words 0 []) e)) ∙ other)))
    ]

look : (bytes rest : List ℕ) (most : ℕ) → length rest ≤ most → NoEndBefore bytes rest → (n : ℕ) × IsLookedAt bytes n
look bytes [] most short before = (length bytes, finds_none bytes [] (length bytes) before refl refl)
look bytes (b ∷ rest) zero short before = absurd (omega (arith, short))
look bytes (b ∷ rest) (suc most) short before =
    let first : FirstLine (b ∷ rest) = first_line b rest in
    let some : 0 < length (b ∷ rest) = omega arith in
    elim (is_end_cases (tokens_of first.line)) [
      | inl is ↦ (
        length bytes - length first.after,
        finds_end bytes (b ∷ rest) first.line first.after (length bytes - length first.after) before some first.cut first.lines is refl,
      )
      | inr isnt ↦
          look bytes first.after most (omega (arith, short, first.shorter))
          (passes_line bytes (b ∷ rest) first.line first.after before some first.cut first.lines isnt)
    ]

-- ---- what is looked at is an instance text, where the whole is

words_number : (n m : ℕ) (lines : List (List ℕ)) → words_from n lines ≡ words_from m lines
words_number n m [] = refl
words_number n m (line ∷ lines) =
    words_from-cons n line lines
    ∙ ap (λ (ws : List (List (List ℕ))). words_in line ++ ws) (words_number (suc n) (suc m) lines)
    ∙ sym (words_from-cons m line lines)

words_append : (n : ℕ) (xs ys : List (List ℕ)) → words_from n (xs ++ ys) ≡ words_from n xs ++ words_from n ys
words_append n [] ys = refl
words_append n (x ∷ xs) ys =
    words_from-cons n x (xs ++ ys)
    ∙ ap (λ (ws : List (List (List ℕ))). words_in x ++ ws) (words_append (suc n) xs ys)
    ∙ sym (append_assoc (words_in x) (words_from (suc n) xs) (words_from (suc n) ys))
    ∙ ap (λ (ws : List (List (List ℕ))). ws ++ words_from (suc n) ys) (sym (words_from-cons n x xs))
    ∙ ap (λ (ws : List (List (List ℕ))). words_from n (x ∷ xs) ++ ws) (words_number (suc n) n ys)

-- nothing comes after the only `end`
only_end : (before body after : List (List (List ℕ))) → Others before → Others body → before ++ end_words ∷ after ≡ body ++ end_words ∷ [] → after ≡ []
only_end [] [] after hb hd e = ap (λ (lines : List (List (List ℕ))). drop 1 lines) e
only_end [] (w ∷ body) after hb hd e = absurd (hd.0 (sym (ap (λ (lines : List (List (List ℕ))). get_or lines 0 []) e)))
only_end (w ∷ before) [] after hb hd e = absurd (hb.0 (ap (λ (lines : List (List (List ℕ))). get_or lines 0 []) e))
only_end (w ∷ before) (v ∷ body) after hb hd e = only_end before body after hb.1 hd.1 (ap (λ (lines : List (List (List ℕ))). drop 1 lines) e)

some_bytes : (bytes : List ℕ) → IsEnd (last_line bytes) → 0 < length bytes
some_bytes [] is = absurd (omega (arith, ap length is))
some_bytes (b ∷ bytes) is = omega arith

-- bytes up to an LF are whole lines
whole_front : (bytes : List ℕ) (n : ℕ) → n ≤ length bytes → 0 < n → get_or bytes (n - 1) 0 ≡ LF → IsWhole (take n bytes)
whole_front bytes zero within some byte = absurd (omega arith)
whole_front bytes (suc k) within some byte =
    let e : suc k ≡ k + 1 = omega arith in
    let place : k ≡ suc k - 1 = omega arith in
    let here : take (suc k) bytes ≡ take k bytes ++ LF ∷ [] =
    ap (λ (j : ℕ). take j bytes) e ∙ take_more bytes k 0 (omega (arith, within))
    ∙ ap (λ (b : ℕ). take k bytes ++ b ∷ []) (ap (λ (j : ℕ). get_or bytes j 0) place ∙ byte) in
    subst IsWhole (sym here) (EndsWithLF (take k bytes))

front_lines_are : (front back : List ℕ) (J : Orbit) → IsText (front ++ back) J → IsWhole front → IsEnd (last_line front) → NoEnd (lines_before_last front)
    → words_from 1 (text_lines front) ≡ lines_of J
front_lines_are front back J t whole is none =
    let before : List (List (List ℕ)) = words_from 1 (lines_before_last front) in
    let after : List (List (List ℕ)) = words_from 1 (text_lines back) in
    let ends : words_from 1 (text_lines front) ≡ words_from 1 (lines_before_last front) ++ end_words ∷ [] =
    ap (λ (ls : List (List ℕ)). words_from 1 ls) (split_last (text_lines front) (text_lines_some front (some_bytes front is)))
    ∙ words_from-push 1 (lines_before_last front) (last_line front)
    ∙ ap (λ (ws : List (List (List ℕ))). words_from 1 (lines_before_last front) ++ ws) (words_in-end (last_line front) is) in
    let both : words_from 1 (text_lines front) ++ words_from 1 (text_lines back) ≡ lines_of J =
    sym (words_append 1 (text_lines front) (text_lines back))
    ∙ ap (λ (ls : List (List ℕ)). words_from 1 ls) (sym (whole-append front back whole)) ∙ t.lines in
    let with_end : words_from 1 (lines_before_last front) ++ end_words ∷ words_from 1 (text_lines back) ≡ body_of J ++ end_words ∷ [] =
    sym (append_assoc (words_from 1 (lines_before_last front)) (end_words ∷ []) (words_from 1 (text_lines back)))
    ∙ ap (λ (ws : List (List (List ℕ))). ws ++ words_from 1 (text_lines back)) (sym ends) ∙ both ∙ lines_of-body J in
    let nothing : words_from 1 (text_lines back) ≡ [] =
    only_end (words_from 1 (lines_before_last front)) (body_of J) (words_from 1 (text_lines back))
    (others_from_no_end 1 (lines_before_last front) none) (body_other J (in_form (front ++ back) J t)) with_end in
    sym (append-nil (words_from 1 (text_lines front)))
    ∙ ap (λ (ws : List (List (List ℕ))). words_from 1 (text_lines front) ++ ws) (sym nothing) ∙ both

text_of_front : (bytes : List ℕ) (n : ℕ) (J : Orbit) → IsText bytes J → IsLookedAt bytes n
    → (n ≡ length bytes) ⊎ (IsEnd (last_line (take n bytes)) × (get_or bytes (n - 1) 0 ≡ LF)) → IsText (take n bytes) J
text_of_front bytes n J t looked (inl all) =
    subst (λ (bs : List ℕ). IsText bs J) (sym (take_all n bytes (omega (arith, all)))) t
text_of_front bytes n J t looked (inr (is, byte)) =
    let some : 0 < n = omega (arith, some_bytes (take n bytes) is, length-take n bytes) in
    let whole : IsText (take n bytes ++ drop n bytes) J = subst (λ (bs : List ℕ). IsText bs J) (sym (take-append-drop n bytes)) t in
    record {
      sound = t.sound;
      windows = t.windows;
      lines =
          front_lines_are (take n bytes) (drop n bytes) J whole (whole_front bytes n looked.within some byte) is looked.first;
    }

-- an instance text has its front
pub front_of_text : (bytes : List ℕ) (J : Orbit) → IsText bytes J → (n : ℕ) × IsFront bytes n J
front_of_text bytes J t =
    let found = look bytes bytes (length bytes) (omega arith) (no_end_yet bytes) in
    (found.0, front_from_text bytes found.0 J found.1 (text_of_front bytes found.0 J t found.1 found.1.over))

-- ---- the front with anything behind it

-- bytes that end with LF
ends_split : (bytes : List ℕ) → ends_with_LF bytes ≡ true → (init : List ℕ) × (bytes ≡ init ++ LF ∷ [])
ends_split [] ends = absurd (true≢false (sym ends))
ends_split (b ∷ []) ends = ([], ap (λ (c : ℕ). c ∷ []) (eqb-true b LF ends))
ends_split (b ∷ c ∷ bytes) ends = let more = ends_split (c ∷ bytes) ends in (b ∷ more.0, ap (λ (bs : List ℕ). b ∷ bs) more.1)

-- one LF more after a line without it changes no line
lines_with_LF : (bytes : List ℕ) → 0 < length bytes → ends_with_LF bytes ≡ false → text_lines (bytes ++ LF ∷ []) ≡ text_lines bytes
lines_with_LF [] some ends = absurd (omega arith)
lines_with_LF (b ∷ []) some ends =
    cond-false (b == LF) ([] ∷ text_lines (LF ∷ [])) ((b ∷ []) ∷ []) ends ∙ sym (cond-false (b == LF) ([] ∷ []) ((b ∷ []) ∷ []) ends)
lines_with_LF (b ∷ c ∷ bytes) some ends =
    ap (λ (ls : List (List ℕ)). cond (b == LF) ([] ∷ ls) (onto_first_line b ls)) (lines_with_LF (c ∷ bytes) (omega arith) ends)

-- what is needed of the bytes with their last LF
record HasLineEnd (bytes : List ℕ) : Type 0 where
  init : List ℕ
  is : with_line_end bytes ≡ init ++ LF ∷ []
  lines : text_lines (with_line_end bytes) ≡ text_lines bytes

has_line_end : (bytes : List ℕ) → 0 < length bytes → HasLineEnd bytes
has_line_end bytes some = elim (cases_Bool (ends_with_LF bytes)) [
  | inl ends ↦
      let whole : with_line_end bytes ≡ bytes = cond-true (ends_with_LF bytes) bytes (bytes ++ LF ∷ []) ends in
      record {
        init = (ends_split bytes ends).0;
        is = whole ∙ (ends_split bytes ends).1;
        lines = ap (λ (bs : List ℕ). text_lines bs) whole;
      }
  | inr lacks ↦
      let more : with_line_end bytes ≡ bytes ++ LF ∷ [] = cond-false (ends_with_LF bytes) bytes (bytes ++ LF ∷ []) lacks in
      record {
        init = bytes;
        is = more;
        lines = ap (λ (bs : List ℕ). text_lines bs) more ∙ lines_with_LF bytes some lacks;
      }
]

-- the text with its last LF is the front of itself with anything behind it
pub front_before : (front more : List ℕ) (J : Orbit) → IsText front J → IsEnd (last_line front)
    → IsFront (with_line_end front ++ more) (length (with_line_end front)) J
front_before front more J t is =
    let end : HasLineEnd front = has_line_end front (some_bytes front is) in
    let taken : take (length (with_line_end front)) (with_line_end front ++ more) ≡ with_line_end front =
    take_at (with_line_end front) more (length (with_line_end front)) refl in
    let text : IsText (with_line_end front) J = record {
      sound = t.sound;
      windows = t.windows;
      lines = ap (λ (ls : List (List ℕ)). words_from 1 ls) end.lines ∙ t.lines;
    } in
    let last : last_line (with_line_end front) ≡ last_line front =
    ap (λ (ls : List (List ℕ)). get_or ls (length ls - 1) []) end.lines in
    let joined : with_line_end front ++ more ≡ end.init ++ LF ∷ more =
    ap (λ (bs : List ℕ). bs ++ more) end.is ∙ append_assoc end.init (LF ∷ []) more in
    let place : length (with_line_end front) - 1 ≡ length end.init = omega (arith, ap length end.is, length_push end.init LF) in
    record {
      within = omega (arith, length-append (with_line_end front) more);
      text = subst (λ (bs : List ℕ). IsText bs J) (sym taken) text;
      ends = subst (λ (bs : List ℕ). IsEnd (last_line bs)) (sym taken) (subst (λ (line : List ℕ). IsEnd line) (sym last) is);
      whole =
          inr (ap (λ (k : ℕ). get_or (with_line_end front ++ more) k 0) place
          ∙ ap (λ (bs : List ℕ). get_or bs (length end.init) 0) joined ∙ get_or_at end.init LF more 0 (length end.init) refl);
    }

-- bytes have one front
pub one_front : (bytes : List ℕ) (m n : ℕ) (I J : Orbit) → IsFront bytes m I → IsFront bytes n J → (m ≡ n) × (I ≡ J)
one_front bytes m n I J first second =
    let same = front_text bytes m n J (looked_at bytes m I first) second in
    (same.0, equal_from_text (take m bytes) I J first.text same.1)
