-- A text that begins with a spelled line is read as that line, and what is read as a line was spelled.
use Rattle.std.proofs.Common.{◌≡◌, ℕ, suc, ◌+◌, ◌<◌, ◌^◌, ◌==◌, Bool, true, false, not, List, [], ◌∷◌, ◌++◌, length, take, drop, get_or, refl, ap, sym, ◌∙◌, arith, append_assoc, length-append, take-append-drop, IsTrue, None, Some, decimal}
use Rattle.std.specs.List.{All, join_with_byte, list_all, position_or_len, slice_split}
use Rattle.std.specs.Char.{is_ascii_digit}
use Rattle.std.proofs.lemmas.Bool.Decides.{nat_tests}
use Rattle.std.proofs.lemmas.Fmt.{digits_decimal, decimal_nonempty}
use Rattle.std.proofs.lemmas.List.{take_at, drop_at}
use Rattle.std.proofs.lemmas.List.Folds.{list_all-append}
use Rattle.std.proofs.lemmas.List.Sums.{AllPass-from_list_all, list_all-from_AllPass}
use Rattle.std.proofs.lemmas.List.Splits.{join_with_byte-slice_split, slice_split_at, slice_split_none}
use Rattle.seq_io.specs.Line.{LF, BLANK, SLASH, spelled_line}
use Rattle.seq_io.specs.StrictText.{Field, Rest, IsLine, AreTokens, is_plain, is_token, at_line, unread, end_fault, with_token, line_tokens, first_line, behind_line, first_fault, line_fault, token_fault, tokens_fault}
use Rattle.seq_io.specs.Token.{ratio}
use Rattle.seq_io.specs.declared.line_fault.LineFault.{LineFault}
use Rattle.seq_io.specs.declared.line_fault.LineFault.TheVariants.{Extra}
use Rattle.seq_io.proofs.Decimal.{own}
use Rattle.seq_io.proofs.FrontTokens.{position-no}

-- the tokens of a line, joined, are the line
joined_line : (line : List ℕ) → join_with_byte BLANK (line_tokens line) ≡ line
joined_line [] = refl
joined_line (b ∷ bytes) = join_with_byte-slice_split BLANK (b ∷ bytes)

-- a text from the beginning of a line on is its bytes
pub unread-at_line : (number : ℕ) (bytes : List ℕ) → unread (at_line number bytes) ≡ bytes
unfolding at_line
unread-at_line number bytes =
    ap (λ (line : List ℕ). line ++ behind_line bytes) (joined_line (first_line bytes))
    ∙ take-append-drop (position_or_len (λ b. b == LF) bytes) bytes

-- the first that passes, behind some that don't
first_behind : (p : ℕ → Bool) (xs : List ℕ) (y : ℕ) (ys : List ℕ) → list_all (λ x. not (p x)) xs ≡ true → p y ≡ true
    → position_or_len p (xs ++ y ∷ ys) ≡ length xs
first_behind p [] y ys none here = rw here refl
first_behind p (x ∷ xs) y ys none here = by_first (p x) refl (first_behind p xs y ys) where
  by_first : (first : Bool) → p x ≡ first → (list_all (λ x. not (p x)) xs ≡ true → p y ≡ true → position_or_len p (xs ++ y ∷ ys) ≡ length xs)
      → position_or_len p ((x ∷ xs) ++ y ∷ ys) ≡ length (x ∷ xs)
  by_first true h rest = absurd (both (rw h at none))
    where
      both : false ≡ true → ⊥
      both e = cc
  by_first false h rest = position-no p x (xs ++ y ∷ ys) h ∙ ap suc (rest (rw h at none) here)

-- a plain byte is no blank and no LF
plain-blank : (b : ℕ) → is_plain b ≡ true → (b == BLANK) ≡ false
plain-blank b plain = grind (arith, nat_tests)

plain-LF : (b : ℕ) → is_plain b ≡ true → not (b == LF) ≡ true
plain-LF b plain = grind (arith, nat_tests)

plain_token : (token : List ℕ) → IsTrue (is_token token) → list_all is_plain token ≡ true
plain_token [] h = refl
plain_token (b ∷ bytes) h = h

no_blank : (token : List ℕ) → IsTrue (is_token token) → All (λ b. (b == BLANK) ≡ false) token
no_blank token h = λ k d l. plain-blank (get_or token k d) (AllPass-from_list_all is_plain token (plain_token token h) k d l)

no_LF : (token : List ℕ) → IsTrue (is_token token) → list_all (λ b. not (b == LF)) token ≡ true
no_LF token h =
    list_all-from_AllPass (λ b. not (b == LF)) token (λ k d l. plain-LF (get_or token k d) (AllPass-from_list_all is_plain token (plain_token token h) k d l))

-- nor is one between the tokens of a line
joined-no_LF : (tokens : List (List ℕ)) → AreTokens tokens → list_all (λ b. not (b == LF)) (join_with_byte BLANK tokens) ≡ true
joined-no_LF [] h = refl
joined-no_LF (token ∷ []) h = no_LF token h.0
joined-no_LF (token ∷ next ∷ tokens) h =
    rw (list_all-append (λ b. not (b == LF)) token (BLANK ∷ join_with_byte BLANK (next ∷ tokens)), no_LF token h.0) (joined-no_LF (next ∷ tokens) h.1)

-- the blanks of a line are those between its tokens
split-joined : (token : List ℕ) (tokens : List (List ℕ)) → AreTokens (token ∷ tokens)
    → slice_split (λ b. b == BLANK) (join_with_byte BLANK (token ∷ tokens)) ≡ token ∷ tokens
split-joined token [] h = slice_split_none (λ b. b == BLANK) token (no_blank token h.0)
split-joined token (next ∷ tokens) h =
    slice_split_at (λ b. b == BLANK) token BLANK (join_with_byte BLANK (next ∷ tokens)) (no_blank token h.0) refl
    ∙ ap (λ rest. token ∷ rest) (split-joined next tokens h.1)

tokens-joined : (tokens : List (List ℕ)) → AreTokens tokens → line_tokens (join_with_byte BLANK tokens) ≡ tokens
tokens-joined [] h = refl
tokens-joined ([] ∷ tokens) h = absurd (none h.0) where
  none : IsTrue false → ⊥
  none e = cc
tokens-joined ((b ∷ bytes) ∷ []) h = split-joined (b ∷ bytes) [] h
tokens-joined ((b ∷ bytes) ∷ next ∷ tokens) h = split-joined (b ∷ bytes) (next ∷ tokens) h

-- what is spelled is read: the line at the front has these tokens, and the other bytes follow its LF
pub at_line-spelled : (number : ℕ) (tokens : List (List ℕ)) (bytes : List ℕ) → AreTokens tokens
    → at_line number (spelled_line tokens ++ bytes) ≡ record { line = number; tokens = tokens; after = LF ∷ bytes }
unfolding at_line
at_line-spelled number tokens bytes h =
    let joined = join_with_byte BLANK tokens in
    let text : spelled_line tokens ++ bytes ≡ joined ++ LF ∷ bytes = append_assoc joined (LF ∷ []) bytes in
    let place : position_or_len (λ b. b == LF) (joined ++ LF ∷ bytes) ≡ length joined = first_behind (λ b. b == LF) joined LF bytes (joined-no_LF tokens h) refl in
    let line : first_line (joined ++ LF ∷ bytes) ≡ joined =
    ap (λ n. take n (joined ++ LF ∷ bytes)) place ∙ take_at joined (LF ∷ bytes) (length joined) refl in
    let behind : behind_line (joined ++ LF ∷ bytes) ≡ LF ∷ bytes =
    ap (λ n. drop n (joined ++ LF ∷ bytes)) place ∙ drop_at joined (LF ∷ bytes) (length joined) refl in
    let view : List ℕ → List ℕ → Rest = λ front after. record { line = number; tokens = line_tokens front; after = after } in
    let whole : List (List ℕ) → Rest = λ parts. record { line = number; tokens = parts; after = LF ∷ bytes } in
    ap (λ all. at_line number all) text
    ∙ ap (λ front. view front (behind_line (joined ++ LF ∷ bytes))) line
    ∙ ap (λ after. view joined after) behind
    ∙ ap whole (tokens-joined tokens h)

-- what is read as a line was spelled
pub record IsSpelled (number : ℕ) (bytes : List ℕ) (tokens : List (List ℕ)) (new : Rest) : Type 0 where
  pub rest : List ℕ
  pub spelling : bytes ≡ spelled_line tokens ++ rest
  pub next : new ≡ at_line (number + 1) rest

pub IsLine-spelled : (number : ℕ) (bytes : List ℕ) (tokens : List (List ℕ)) (new : Rest) → IsLine tokens (at_line number bytes) new → IsSpelled number bytes tokens new
unfolding at_line
IsLine-spelled number bytes tokens new line =
    let joined = join_with_byte BLANK tokens in
    record {
      rest = line.bytes;
      spelling = sym (unread-at_line number bytes)
          ∙ ap (λ parts. join_with_byte BLANK parts ++ (at_line number bytes).after) line.tokens_are
          ∙ ap (λ (after : List ℕ). joined ++ after) line.ends
          ∙ sym (append_assoc joined (LF ∷ []) line.bytes);
      next = line.next;
    }

-- a decimal number is a token, and so is one over its unit
digit_plain : (b : ℕ) → is_ascii_digit b ≡ true → is_plain b ≡ true
digit_plain b digit = grind (arith, nat_tests)

digits_plain : (token : List ℕ) → list_all is_ascii_digit token ≡ true → list_all is_plain token ≡ true
digits_plain token digits =
    list_all-from_AllPass is_plain token (λ k d l. digit_plain (get_or token k d) (AllPass-from_list_all is_ascii_digit token digits k d l))

some_plain : (token : List ℕ) → 0 < length token → list_all is_plain token ≡ true → IsTrue (is_token token)
some_plain [] some plain = absurd (omega arith)
some_plain (b ∷ bytes) some plain = plain

pub is_token-decimal : (n : ℕ) → n < 2 ^ 64 → IsTrue (is_token (decimal n))
is_token-decimal n small = some_plain (decimal n) (decimal_nonempty n small) (digits_plain (decimal n) (digits_decimal own n small))

pub is_token-ratio : (n unit : ℕ) → n < 2 ^ 64 → unit < 2 ^ 64 → IsTrue (is_token (ratio n unit))
is_token-ratio n unit small unit_small =
    some_plain (ratio n unit) (omega (arith, length-append (decimal n) (SLASH ∷ decimal unit)))
    (rw (list_all-append is_plain (decimal n) (SLASH ∷ decimal unit), digits_plain (decimal n) (digits_decimal own n small), digits_plain (decimal unit) (digits_decimal own unit unit_small)) refl)

-- a line's fault is its first token's, or that of what follows the token
pub line_fault-stops : (field : Field) (fields : List Field) (old : Rest) (fault : LineFault) → first_fault field old.tokens ≡ Some fault → line_fault (field ∷ fields) old ≡ Some fault
line_fault-stops field fields old fault first = by_tokens old.tokens first where
  by_tokens : (tokens : List (List ℕ)) → first_fault field tokens ≡ Some fault → tokens_fault (field ∷ fields) tokens old.after ≡ Some fault
  by_tokens [] first = first
  by_tokens (token ∷ tokens) first = rw first refl

pub line_fault-passes : (field : Field) (fields : List Field) (token : List ℕ) (old new : Rest) → first_fault field old.tokens ≡ None → old ≡ with_token token new → line_fault (field ∷ fields) old ≡ line_fault fields new
line_fault-passes field fields token old new first e = rw e (by_token (rw e at first)) where
  by_token : token_fault field token ≡ None → line_fault (field ∷ fields) (with_token token new) ≡ line_fault fields new
  by_token stands = rw stands refl

-- a text ends where no bytes are left, and nowhere else
pub end_fault-none : (number : ℕ) → end_fault (at_line number []) ≡ None
unfolding at_line
end_fault-none number = refl

pub end_fault-some : (number b : ℕ) (bytes : List ℕ) → end_fault (at_line number (b ∷ bytes)) ≡ Some Extra
end_fault-some number b bytes =
    let rest = at_line number (b ∷ bytes) in
    by_parts rest.tokens rest.after (unread-at_line number (b ∷ bytes)) where
      by_parts : (tokens : List (List ℕ)) (after : List ℕ) → join_with_byte BLANK tokens ++ after ≡ b ∷ bytes → end_fault (record { line = number; tokens = tokens; after = after }) ≡ Some Extra
      by_parts [] [] e = absurd (nothing e) where
        nothing : [] ≡ b ∷ bytes → ⊥
        nothing e = cc
      by_parts [] (c ∷ after) e = refl
      by_parts (token ∷ tokens) after e = refl
