-- A front is an instance text, and has one length.
use Rattle.std.proofs.Common.{◌≡◌, ◌≢◌, ℕ, zero, suc, ◌+◌, ◌-◌, ◌^◌, ◌<◌, ◌≤◌, Bool, true, false, cond, List, [], ◌∷◌, ◌++◌, length, map, take, drop, get_or, decimal, codes, All, refl, sym, ap, subst, ◌∙◌, append_assoc, arith, inl, inr}
use Rattle.std.specs.Prelude.{◌⊎◌}
use Rattle.std.specs.List.{AllByRecursion}
use Rattle.std.proofs.lemmas.Bool.{cases_order}
use Rattle.std.proofs.lemmas.List.{length-append, length-take, length-drop, take_at, take_more, take-take, take-append-drop, drop_more, drop_all, same_from_push}
use Rattle.std.proofs.lemmas.List.Elements.{All-head, All-take, All-drop}
use Rattle.manoeuvre.specs.declared.limits.TheConstants.{MAX_MANOEUVRE}
use Rattle.seq_io.specs.Number.{is_number}
use Rattle.seq_io.proofs.Decimal.{IsNumber-decimal}
use Rattle.strip_model.specs.Orbit.{Orbit}
use Rattle.strip_model.specs.declared.request.Request.{Request}
use Rattle.strip_model.specs.declared.strip.Strip.{Strip}
use Rattle.instance_text.specs.Lines.{LF, text_lines, tokens_of, is_passed_over, lines_from}
use Rattle.instance_text.specs.Spelling.{request_line, strip_line, rows_of, table_lines, lines_of}
use Rattle.instance_text.specs.Text.{IsInForm, IsText, IsEnd, last_line, lines_before_last, IsFront, IsLookedAt}
use Rattle.instance_text.proofs.Fronts.{IsWhole, EndsWithLF, whole-append, text_lines_some, NoEnd, NoEnd-take}
use Rattle.instance_text.proofs.Only.{in_form}

-- ---- the lines of an instance before the last

-- tokens of a line that isn't `end`
abbrev pub IsOther : List (List ℕ) → Type 0
IsOther words = words ≢ codes "end" ∷ []

abbrev pub Others : List (List (List ℕ)) → Type 0
Others lines = AllByRecursion IsOther lines

two_tokens : (a b : List ℕ) (words : List (List ℕ)) → IsOther (a ∷ b ∷ words)
two_tokens a b words e = omega (arith, ap length e)

pub Others-append : (xs ys : List (List (List ℕ))) → Others xs → Others ys → Others (xs ++ ys)
Others-append [] ys hx hy = hy
Others-append (x ∷ xs) ys hx hy = (hx.0, Others-append xs ys hx.1 hy)

requests_other : (rs : List Request) → Others (map request_line rs)
requests_other [] = tt
requests_other (r ∷ rs) = (two_tokens _ _ [], requests_other rs)

strips_other : (ss : List Strip) → Others (map strip_line ss)
strips_other [] = tt
strips_other (s ∷ ss) = (λ e. omega (arith, ap length e), strips_other ss)

no_number : (n : ℕ) → n < 2 ^ 64 → decimal n ≡ codes "end" → ⊥
no_number n small e = let number = IsNumber-decimal n small in let same : is_number (decimal n) ≡ false = ap is_number e in cc

row_other : (row : List ℕ) → All (λ m. m ≤ MAX_MANOEUVRE) row → IsOther (map (λ m. decimal m) row)
row_other [] h e = omega (arith, ap length e)
row_other (m ∷ []) h e = no_number m (omega (arith, All-head (λ m. m ≤ MAX_MANOEUVRE) m [] h)) (ap (λ (words : List (List ℕ)). get_or words 0 []) e)
row_other (m ∷ k ∷ row) h e = omega (arith, ap length e)

rows_other : (n size : ℕ) (entries : List ℕ) → All (λ m. m ≤ MAX_MANOEUVRE) entries → Others (map (λ row. map (λ m. decimal m) row) (rows_of n size entries))
rows_other zero size entries h = tt
rows_other (suc n) size entries h =
    (row_other (take size entries) (All-take (λ m. m ≤ MAX_MANOEUVRE) size entries h), rows_other n size (drop size entries) (All-drop (λ m. m ≤ MAX_MANOEUVRE) size entries h))

pub body_of : Orbit → List (List (List ℕ))
body_of J =
    (codes "orbit" ∷ decimal 1 ∷ []) ∷ (codes "requests" ∷ decimal (length J.requests) ∷ [])
    ∷ (map request_line J.requests ++ ((codes "strips" ∷ decimal (length J.strips) ∷ []) ∷ (map strip_line J.strips ++ ((codes "manoeuvres" ∷ []) ∷ table_lines J.table))))

pub lines_of-body : (J : Orbit) → lines_of J ≡ body_of J ++ (codes "end" ∷ []) ∷ []
unfolding body_of
lines_of-body J = simp append_assoc

other_word : (codes "manoeuvres" ∷ []) ≢ (codes "end" ∷ [])
other_word e = omega (arith, ap (λ (words : List (List ℕ)). length (get_or words 0 [])) e)

pub body_other : (J : Orbit) → IsInForm J → Others (body_of J)
unfolding body_of
body_other J h = (
  two_tokens _ _ [],
  (
    two_tokens _ _ [],
    Others-append (map request_line J.requests) _ (requests_other J.requests)
        (two_tokens _ _ [], Others-append (map strip_line J.strips) _ (strips_other J.strips) (other_word, rows_other J.table.size J.table.size J.table.entries h.entries)),
  ),
)

-- ---- lines of bytes and lines that count

abbrev pub words_from : ℕ → List (List ℕ) → List (List (List ℕ))
words_from n lines = map (λ line. line.tokens) (lines_from n lines)

-- what one line more says
abbrev pub words_in : List ℕ → List (List (List ℕ))
words_in line = cond (is_passed_over (tokens_of line)) [] (tokens_of line ∷ [])

pub words_from-cons : (n : ℕ) (line : List ℕ) (lines : List (List ℕ)) → words_from n (line ∷ lines) ≡ words_in line ++ words_from (suc n) lines
words_from-cons n line lines = by_test (is_passed_over (tokens_of line)) where
  by_test : (t : Bool) → map (λ l. l.tokens) (cond t (lines_from (suc n) lines) (record { number = n; tokens = tokens_of line } ∷ lines_from (suc n) lines)) ≡ cond t [] (tokens_of line ∷ []) ++ words_from (suc n) lines
  by_test true = refl
  by_test false = refl

pub words_from-push : (n : ℕ) (lines : List (List ℕ)) (line : List ℕ) → words_from n (lines ++ line ∷ []) ≡ words_from n lines ++ words_in line
words_from-push n [] line = words_from-cons n line [] ∙ append_nil_right (words_in line) where
  append_nil_right : (ws : List (List (List ℕ))) → ws ++ [] ≡ ws
  append_nil_right [] = refl
  append_nil_right (w ∷ ws) = ap (λ (vs : List (List (List ℕ))). w ∷ vs) (append_nil_right ws)
words_from-push n (l ∷ lines) line =
    words_from-cons n l (lines ++ line ∷ [])
    ∙ ap (λ (ws : List (List (List ℕ))). words_in l ++ ws) (words_from-push (suc n) lines line)
    ∙ sym (append_assoc (words_in l) (words_from (suc n) lines) (words_in line))
    ∙ ap (λ (ws : List (List (List ℕ))). ws ++ words_in line) (sym (words_from-cons n l lines))

pub words_in-end : (line : List ℕ) → IsEnd line → words_in line ≡ (codes "end" ∷ []) ∷ []
words_in-end line is = ap (λ (tokens : List (List ℕ)). cond (is_passed_over tokens) [] (tokens ∷ [])) is

Others-right : (xs ys : List (List (List ℕ))) → Others (xs ++ ys) → Others ys
Others-right [] ys h = h
Others-right (x ∷ xs) ys h = Others-right xs ys h.1

-- lines that say nothing but others are no `end`
no_end_from_others : (n : ℕ) (lines : List (List ℕ)) → Others (words_from n lines) → NoEnd lines
no_end_from_others n [] h = tt
no_end_from_others n (line ∷ lines) h =
    let all : Others (words_in line ++ words_from (suc n) lines) = subst Others (words_from-cons n line lines) h in (
      λ is. (subst (λ (ws : List (List (List ℕ))). Others (ws ++ words_from (suc n) lines)) (words_in-end line is) all).0 refl,
      no_end_from_others (suc n) lines (Others-right (words_in line) (words_from (suc n) lines) all),
    )

-- and lines that are no `end` say nothing but others
pub others_from_no_end : (n : ℕ) (lines : List (List ℕ)) → NoEnd lines → Others (words_from n lines)
others_from_no_end n [] h = tt
others_from_no_end n (line ∷ lines) h =
    subst Others (sym (words_from-cons n line lines)) (Others-append (words_in line) (words_from (suc n) lines) (one (is_passed_over (tokens_of line)) line h.0) (others_from_no_end (suc n) lines h.1)) where
      one : (t : Bool) (line : List ℕ) → ¬ IsEnd line → Others (cond t [] (tokens_of line ∷ []))
      one true line isnt = tt
      one false line isnt = (isnt, tt)

-- ---- the last line

pub split_last : (lines : List (List ℕ)) → 0 < length lines → lines ≡ take (length lines - 1) lines ++ get_or lines (length lines - 1) [] ∷ []
split_last lines some =
    let last : drop (length lines - 1) lines ≡ get_or lines (length lines - 1) [] ∷ drop (length lines - 1 + 1) lines = drop_more lines (length lines - 1) [] (omega arith) in
    let none : drop (length lines - 1 + 1) lines ≡ [] = drop_all (length lines - 1 + 1) lines (omega arith) in
    sym (take-append-drop (length lines - 1) lines) ∙ ap (λ (ls : List (List ℕ)). take (length lines - 1) lines ++ ls) (last ∙ ap (λ (ls : List (List ℕ)). get_or lines (length lines - 1) [] ∷ ls) none)

-- what the bytes of an instance text say, line by line
pub record Said (bytes : List ℕ) : Type 0 where
  pub body : List (List (List ℕ))
  pub others : Others body
  pub words : words_from 1 (lines_before_last bytes) ++ words_in (last_line bytes) ≡ body ++ (codes "end" ∷ []) ∷ []

some_lines : (lines : List (List ℕ)) (body : List (List (List ℕ))) → words_from 1 lines ≡ body ++ (codes "end" ∷ []) ∷ [] → 0 < length lines
some_lines [] body e = omega (arith, ap length e, length-append body ((codes "end" ∷ []) ∷ []))
some_lines (l ∷ lines) body e = omega arith

said : (bytes : List ℕ) (J : Orbit) → IsText bytes J → Said bytes
said bytes J t =
    let words : words_from 1 (text_lines bytes) ≡ body_of J ++ (codes "end" ∷ []) ∷ [] = t.lines ∙ lines_of-body J in
    let some : 0 < length (text_lines bytes) = some_lines (text_lines bytes) (body_of J) words in
    record {
      body = body_of J;
      others = body_other J (in_form bytes J t);
      words = sym (words_from-push 1 (lines_before_last bytes) (last_line bytes)) ∙ ap (λ (ls : List (List ℕ)). words_from 1 ls) (sym (split_last (text_lines bytes) some)) ∙ words;
    }

pub last_is_end : (bytes : List ℕ) (J : Orbit) → IsText bytes J → NoEnd (lines_before_last bytes) → IsEnd (last_line bytes)
last_is_end bytes J t none = by_test (is_passed_over (tokens_of (last_line bytes))) s.words where
  s : Said bytes
  s = said bytes J t

  by_test : (b : Bool) → words_from 1 (lines_before_last bytes) ++ cond b [] (tokens_of (last_line bytes) ∷ []) ≡ s.body ++ (codes "end" ∷ []) ∷ [] → IsEnd (last_line bytes)
  by_test true e =
      let h : Others (words_from 1 (lines_before_last bytes) ++ []) = Others-append (words_from 1 (lines_before_last bytes)) [] (others_from_no_end 1 (lines_before_last bytes) none) tt in
      absurd ((Others-right s.body ((codes "end" ∷ []) ∷ []) (subst Others e h)).0 refl)
  by_test false e = (same_from_push (words_from 1 (lines_before_last bytes)) s.body (tokens_of (last_line bytes)) (codes "end" ∷ []) e).1

pub none_before : (bytes : List ℕ) (J : Orbit) → IsText bytes J → IsEnd (last_line bytes) → NoEnd (lines_before_last bytes)
none_before bytes J t is =
    let s = said bytes J t in
    let words : words_from 1 (lines_before_last bytes) ++ (codes "end" ∷ []) ∷ [] ≡ s.body ++ (codes "end" ∷ []) ∷ [] =
    ap (λ (ws : List (List (List ℕ))). words_from 1 (lines_before_last bytes) ++ ws) (sym (words_in-end (last_line bytes) is)) ∙ s.words in
    let same = same_from_push (words_from 1 (lines_before_last bytes)) s.body (codes "end" ∷ []) (codes "end" ∷ []) words in
    no_end_from_others 1 (lines_before_last bytes) (subst Others (sym same.0) s.others)

-- ---- fronts

whole_of : (bytes : List ℕ) (n : ℕ) → (n ≡ length bytes) ⊎ (IsEnd (last_line (take n bytes)) × (get_or bytes (n - 1) 0 ≡ LF)) → (n ≡ length bytes) ⊎ (get_or bytes (n - 1) 0 ≡ LF)
whole_of bytes n (inl h) = inl h
whole_of bytes n (inr h) = inr h.1

pub front_from_text : (bytes : List ℕ) (n : ℕ) (J : Orbit) → IsLookedAt bytes n → IsText (take n bytes) J → IsFront bytes n J
front_from_text bytes n J looked text = record {
  within = looked.within;
  text = text;
  ends = last_is_end (take n bytes) J text looked.first;
  whole = whole_of bytes n looked.over;
}

over_from : (bytes : List ℕ) (n : ℕ) → IsEnd (last_line (take n bytes)) → (n ≡ length bytes) ⊎ (get_or bytes (n - 1) 0 ≡ LF) → (n ≡ length bytes) ⊎ (IsEnd (last_line (take n bytes)) × (get_or bytes (n - 1) 0 ≡ LF))
over_from bytes n is (inl h) = inl h
over_from bytes n is (inr h) = inr (is, h)

pub looked_at : (bytes : List ℕ) (n : ℕ) (J : Orbit) → IsFront bytes n J → IsLookedAt bytes n
looked_at bytes n J front = record {
  within = front.within;
  first = none_before (take n bytes) J front.text front.ends;
  over = over_from bytes n front.ends front.whole;
}

NoEnd-right : (xs ys : List (List ℕ)) → NoEnd (xs ++ ys) → NoEnd ys
NoEnd-right [] ys h = h
NoEnd-right (x ∷ xs) ys h = NoEnd-right xs ys h.1

-- whole lines of which the last is `end` are all that is looked at
no_longer : (bytes front back : List ℕ) → IsWhole front → 0 < length front → IsEnd (last_line front) → 0 < length back → NoEnd (lines_before_last (front ++ back)) → ⊥
no_longer bytes front back whole some is more none =
    let joined : text_lines (front ++ back) ≡ text_lines front ++ text_lines back = whole-append front back whole in
    let count : ℕ = length (text_lines (front ++ back)) - 1 in
    let long : length (text_lines front) ≤ count = omega (arith, ap length joined, length-append (text_lines front) (text_lines back), text_lines_some back more) in
    let first : NoEnd (take (length (text_lines front)) (lines_before_last (front ++ back))) = NoEnd-take (length (text_lines front)) (lines_before_last (front ++ back)) none in
    let same : take (length (text_lines front)) (lines_before_last (front ++ back)) ≡ text_lines front =
    take-take (length (text_lines front)) count (text_lines (front ++ back)) long ∙ ap (λ (ls : List (List ℕ)). take (length (text_lines front)) ls) joined ∙ take_at (text_lines front) (text_lines back) (length (text_lines front)) refl in
    let all : NoEnd (take (length (text_lines front) - 1) (text_lines front) ++ last_line front ∷ []) = subst NoEnd (same ∙ split_last (text_lines front) (text_lines_some front some)) first in
    (NoEnd-right (take (length (text_lines front) - 1) (text_lines front)) (last_line front ∷ []) all).0 is

shorter : (bytes : List ℕ) (m n : ℕ) → IsLookedAt bytes m → IsLookedAt bytes n → m < n → ⊥
shorter bytes m n hm hn lt = by_end m hm.over lt where
  by_end : (m : ℕ) → (m ≡ length bytes) ⊎ (IsEnd (last_line (take m bytes)) × (get_or bytes (m - 1) 0 ≡ LF)) → m < n → ⊥
  by_end m (inl all) lt = omega (arith, hn.within)
  by_end zero (inr (is, byte)) lt = omega (arith, ap length is)
  by_end (suc k) (inr (is, byte)) lt =
      let e : suc k ≡ k + 1 = omega arith in
      let place : k ≡ suc k - 1 = omega arith in
      let front : List ℕ = take (suc k) bytes in
      let here : take (suc k) bytes ≡ take k bytes ++ LF ∷ [] =
      ap (λ (j : ℕ). take j bytes) e ∙ take_more bytes k 0 (omega (arith, hn.within)) ∙ ap (λ (b : ℕ). take k bytes ++ b ∷ []) (ap (λ (j : ℕ). get_or bytes j 0) place ∙ byte) in
      let whole : IsWhole front = subst IsWhole (sym here) (EndsWithLF (take k bytes)) in
      let parts : take n bytes ≡ front ++ drop (suc k) (take n bytes) = sym (take-append-drop (suc k) (take n bytes)) ∙ ap (λ (bs : List ℕ). bs ++ drop (suc k) (take n bytes)) (take-take (suc k) n bytes (omega arith)) in
      no_longer bytes front (drop (suc k) (take n bytes)) whole (omega (arith, length-take (suc k) bytes, hn.within)) is
      (omega (arith, length-drop (suc k) (take n bytes), length-take n bytes, hn.within)) (subst (λ (bs : List ℕ). NoEnd (lines_before_last bs)) parts hn.first)

pub same_length : (bytes : List ℕ) (m n : ℕ) → IsLookedAt bytes m → IsLookedAt bytes n → m ≡ n
same_length bytes m n hm hn =
    elim (cases_order m n) [
      | inl e ↦ e
      | inr (inl lt) ↦ absurd (shorter bytes m n hm hn lt)
      | inr (inr lt) ↦ absurd (shorter bytes n m hn hm lt)
    ]

-- the text of a front is what is looked at
pub front_text : (bytes : List ℕ) (m n : ℕ) (J : Orbit) → IsLookedAt bytes m → IsFront bytes n J → (m ≡ n) × IsText (take m bytes) J
front_text bytes m n J looked front =
    let same = same_length bytes m n looked (looked_at bytes n J front) in
    (same, subst (λ (k : ℕ). IsText (take k bytes) J) (sym same) front.text)
