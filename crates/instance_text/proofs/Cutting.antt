-- Lines as they are spelled are cut into the same lines and tokens again.
use Rattle.std.proofs.Common.{◌≡◌, ℕ, suc, ◌==◌, ◌≤◌, true, false, nat_lt, if◌then◌else◌, List, [], ◌∷◌, ◌++◌, length, map, filter, refl, ◌∙◌, ap, append_assoc}
use Rattle.std.specs.List.{All, flat_map, join_with_byte, slice_split}
use Rattle.std.proofs.lemmas.List.Elements.{All-nil, All-cons, All-head, All-tail, All-append, All-weaker}
use Rattle.std.proofs.lemmas.List.Splits.{slice_split_none, slice_split_at}
use Rattle.instance_text.specs.Lines.{LF, Line, is_separator, text_lines, tokens_of, is_passed_over, lines_from, lines_that_count}
use Rattle.seq_io.specs.Line.{spelled_line}

-- a byte that can stand in a token
pub record IsPlain (b : ℕ) : Type 0 where
  pub no_separator : is_separator b ≡ false
  pub no_end : (b == LF) ≡ false

-- a token of at most ten bytes
pub record IsToken (token : List ℕ) : Type 0 where
  pub some : nat_lt 0 (length token) ≡ true
  pub plain : All IsPlain token
  pub short : length token ≤ 10

-- the tokens of a line that counts
pub record IsLine (tokens : List (List ℕ)) : Type 0 where
  pub counts : is_passed_over tokens ≡ false
  pub each : All IsToken tokens

-- a text begins with the bytes before its first LF
text_lines-append : (line rest : List ℕ) → All (λ b. (b == LF) ≡ false) line → text_lines (line ++ 10 ∷ rest) ≡ line ∷ text_lines rest
text_lines-append [] rest h = refl
text_lines-append (b ∷ line) rest h = rw (All-head (λ c. (c == LF) ≡ false) b line h, text_lines-append line rest (All-tail (λ c. (c == LF) ≡ false) b line h)) refl

filter-kept : (token : List ℕ) (tokens : List (List ℕ)) → nat_lt 0 (length token) ≡ true → filter (λ t. nat_lt 0 (length t)) (token ∷ tokens) ≡ token ∷ filter (λ t. nat_lt 0 (length t)) tokens
filter-kept token tokens h = rw h refl

-- tokens with one blank between them are cut into these tokens
tokens_of-join : (tokens : List (List ℕ)) → All IsToken tokens → tokens_of (join_with_byte 32 tokens) ≡ tokens
tokens_of-join [] h = refl
tokens_of-join (token ∷ []) h =
    let is = All-head IsToken token [] h in
    ap (filter (λ t. nat_lt 0 (length t))) (slice_split_none is_separator token (All-weaker IsPlain (λ b. is_separator b ≡ false) (λ b p. p.no_separator) token is.plain))
    ∙ filter-kept token [] is.some
tokens_of-join (token ∷ next ∷ tokens) h =
    let is = All-head IsToken token (next ∷ tokens) h in
    ap (filter (λ t. nat_lt 0 (length t))) (slice_split_at is_separator token 32 (join_with_byte 32 (next ∷ tokens)) (All-weaker IsPlain (λ b. is_separator b ≡ false) (λ b p. p.no_separator) token is.plain) refl)
    ∙ filter-kept token (slice_split is_separator (join_with_byte 32 (next ∷ tokens))) is.some
    ∙ ap (λ ts. token ∷ ts) (tokens_of-join (next ∷ tokens) (All-tail IsToken token (next ∷ tokens) h))

-- no LF stands in them
join-on_line : (tokens : List (List ℕ)) → All IsToken tokens → All (λ b. (b == LF) ≡ false) (join_with_byte 32 tokens)
join-on_line [] h = All-nil (λ b. (b == LF) ≡ false)
join-on_line (token ∷ []) h = All-weaker IsPlain (λ b. (b == LF) ≡ false) (λ b p. p.no_end) token (All-head IsToken token [] h).plain
join-on_line (token ∷ next ∷ tokens) h =
    All-append (λ b. (b == LF) ≡ false) token (32 ∷ join_with_byte 32 (next ∷ tokens))
    (All-weaker IsPlain (λ b. (b == LF) ≡ false) (λ b p. p.no_end) token (All-head IsToken token (next ∷ tokens) h).plain)
    (All-cons (λ b. (b == LF) ≡ false) 32 (join_with_byte 32 (next ∷ tokens)) refl (join-on_line (next ∷ tokens) (All-tail IsToken token (next ∷ tokens) h)))

-- the tokens of lines that count
abbrev pub tokens_in : List Line → List (List (List ℕ))
tokens_in lines = map (λ line. line.tokens) lines

counted : (n : ℕ) (found tokens : List (List ℕ)) (passed rest : List Line) → found ≡ tokens → is_passed_over tokens ≡ false → tokens_in (if is_passed_over found then passed else (record { number = n; tokens = found } ∷ rest)) ≡ tokens ∷ tokens_in rest
counted n found tokens passed rest e h = rw e (rw h refl)

lines_from-spelled : (n : ℕ) (lines : List (List (List ℕ))) → All IsLine lines → tokens_in (lines_from n (text_lines (flat_map spelled_line lines))) ≡ lines
lines_from-spelled n [] h = refl
lines_from-spelled n (tokens ∷ lines) h =
    let is = All-head IsLine tokens lines h in
    let line = join_with_byte 32 tokens in
    let rest = flat_map spelled_line lines in
    ap (λ bytes. tokens_in (lines_from n (text_lines bytes))) (append_assoc line (10 ∷ []) rest)
    ∙ ap (λ cut. tokens_in (lines_from n cut)) (text_lines-append line rest (join-on_line tokens is.each))
    ∙ counted n (tokens_of line) tokens (lines_from (suc n) (text_lines rest)) (lines_from (suc n) (text_lines rest)) (tokens_of-join tokens is.each) is.counts
    ∙ ap (λ ts. tokens ∷ ts) (lines_from-spelled (suc n) lines (All-tail IsLine tokens lines h))

-- what is spelled is cut into the same lines
pub lines_that_count-spelled : (lines : List (List (List ℕ))) → All IsLine lines → tokens_in (lines_that_count (flat_map spelled_line lines)) ≡ lines
lines_that_count-spelled lines h = lines_from-spelled 1 lines h
