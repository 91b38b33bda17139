-- Lines that are put together token by token.
use Rattle.std.proofs.Common.{◌≡◌, ℕ, ◌+◌, ◌-◌, ◌<◌, ◌≤◌, List, [], ◌∷◌, ◌++◌, length, take, ap, sym, ◌∙◌, append_assoc, append-nil, length-append, arith}
use Rattle.std.specs.List.{flat_map, join_with_byte}
use Rattle.std.proofs.lemmas.List.{take_at}
use Rattle.std.proofs.lemmas.List.Concat.{flat_map-append}
use Rattle.std.proofs.Math.Seq.{take-append-add}
use Rattle.seq_io.specs.Grew.{Grew}
use Rattle.seq_io.specs.Line.{BLANK, LF, spelled_line}
use Rattle.seq_io.specs.Token.{ended}

-- what grew twice grew
pub Grew-append : (old between new more : List ℕ) → between ≡ old ++ more → Grew between new → Grew old new
Grew-append old between new more e grew =
    (more ++ grew.0, grew.1 ∙ ap (λ front. front ++ grew.0) e ∙ append_assoc old more grew.0)

-- tokens with a blank each are the joined tokens with a blank
pub ended_tokens : (token : List ℕ) (tokens : List (List ℕ)) → flat_map ended (token ∷ tokens) ≡ join_with_byte BLANK (token ∷ tokens) ++ BLANK ∷ []
ended_tokens token [] = append-nil (token ++ BLANK ∷ [])
ended_tokens token (next ∷ tokens) =
    ap (λ rest. (token ++ BLANK ∷ []) ++ rest) (ended_tokens next tokens) ∙ simp append_assoc

-- where the tokens with a blank each are some bytes, the last of them is a blank
pub cut_last : (text items : List ℕ) (tokens : List (List ℕ)) → items ≡ text ++ flat_map ended tokens → length text < length items
    → take (length items - 1) items ≡ text ++ join_with_byte BLANK tokens
cut_last text items [] e some = absurd (omega (arith, ap length e, length-append text []))
cut_last text items (token ∷ tokens) e some =
    let front = text ++ join_with_byte BLANK (token ∷ tokens) in
    let whole : items ≡ front ++ BLANK ∷ [] =
    e ∙ ap (λ rest. text ++ rest) (ended_tokens token tokens) ∙ sym (append_assoc text (join_with_byte BLANK (token ∷ tokens)) (BLANK ∷ [])) in
    let last : length items - 1 ≡ length front = omega (arith, ap length whole, length-append front (BLANK ∷ [])) in
    ap (λ xs. take (length items - 1) xs) whole ∙ take_at front (BLANK ∷ []) (length items - 1) (sym last)

-- and else there are none
pub cut_none : (text items : List ℕ) (tokens : List (List ℕ)) → items ≡ text ++ flat_map ended tokens → length items ≤ length text
    → items ≡ text ++ join_with_byte BLANK tokens
cut_none text items [] e none = e
cut_none text items (token ∷ tokens) e none =
    let front = join_with_byte BLANK (token ∷ tokens) in
    absurd (omega (arith, ap length e, length-append text (flat_map ended (token ∷ tokens)), ap length (ended_tokens token tokens), length-append front (BLANK ∷ [])))

-- what stands behind a text may lose its last byte
pub Grew-cut : (text items : List ℕ) → Grew text items → length text < length items → Grew text (take (length items - 1) items)
Grew-cut text items grew some =
    let more = grew.0 in
    let n = length more - 1 in
    let last : length items - 1 ≡ length text + n = omega (arith, ap length grew.1, length-append text more) in
    (take n more, rw (last, grew.1) (take-append-add text more n))

-- tokens and then more tokens were appended
pub joined_tokens : (old between new : List ℕ) (tokens more : List (List ℕ)) → between ≡ old ++ flat_map ended tokens → new ≡ between ++ flat_map ended more
    → new ≡ old ++ flat_map ended (tokens ++ more)
joined_tokens old between new tokens more first second =
    second ∙ rw (first, flat_map-append ended tokens more) (append_assoc old (flat_map ended tokens) (flat_map ended more))

-- the line is ended
pub ended_line : (old before new : List ℕ) (tokens : List (List ℕ)) → before ≡ old ++ join_with_byte BLANK tokens → new ≡ before ++ LF ∷ []
    → new ≡ old ++ spelled_line tokens
ended_line old before new tokens e last = last ∙ rw e (append_assoc old (join_with_byte BLANK tokens) (LF ∷ []))
