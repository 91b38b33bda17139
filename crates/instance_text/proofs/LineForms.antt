-- A line against its form, as the first of the lines that are left.
use Rattle.std.proofs.Common.{◌≡◌, ℕ, List, [], ◌∷◌, ◌++◌, append-nil, Option, Some, None, sym, ap, ◌∙◌}
use Rattle.std.specs.Option.{option_or}
use Rattle.instance_text.specs.Lines.{Line}
use Rattle.instance_text.specs.Shape.{Field, line_refusal, lines_fault}
use Rattle.instance_text.specs.Reading.{Rest, Passes, IsRefusedAt, PassesLines, IsRefusedAtLines}
use Rattle.instance_text.specs.Refusal.{IfRefused}
use Rattle.instance_text.specs.declared.refusal.Refusal.{Refusal}
use Rattle.instance_text.specs.declared.refusal.TextRefusal.{TextRefusal}
use Rattle.instance_text.specs.declared.refusal.TextRefusal.TheVariants.{Refused, Memory}

-- the first line is refused, so the lines are
first_refused : (form : List Field) (old : Rest) (line : Line) (rest : List Line) (r : Refusal) → old.lines ≡ line ∷ rest → line_refusal form line ≡ Some r → IsRefusedAtLines (form ∷ []) old r
first_refused form old line rest r first refused more =
    let one : option_or (line_refusal form line) (lines_fault more old.count rest) ≡ Some r = ap (λ (o : Option Refusal). option_or o (lines_fault more old.count rest)) refused in
    ap (λ (lines : List Line). lines_fault (form ∷ more) old.count lines) first ∙ one

-- the first line stands, so the others decide
first_passes : (form : List Field) (old new : Rest) (line : Line) → old.lines ≡ line ∷ new.lines → new.count ≡ old.count → line_refusal form line ≡ None → PassesLines (form ∷ []) old new
first_passes form old new line first count stands more =
    let one : option_or (line_refusal form line) (lines_fault more old.count new.lines) ≡ lines_fault more old.count new.lines = ap (λ (o : Option Refusal). option_or o (lines_fault more old.count new.lines)) stands in
    ap (λ (lines : List Line). lines_fault (form ∷ more) old.count lines) first ∙ one ∙ ap (λ (n : ℕ). lines_fault more n new.lines) (sym count)

-- a line whose fields are read one after the other, and then its end
whole : (form : List Field) (line : Line) → line_refusal form line ≡ line_refusal (form ++ []) line
whole form line = ap (λ (fields : List Field). line_refusal fields line) (sym (append-nil form))

pub fields_refused : (e : TextRefusal) (form : List Field) (old : Rest) (line : Line) (rest : List Line) → old.lines ≡ line ∷ rest → IfRefused e (IsRefusedAt form line) → IfRefused e (IsRefusedAtLines (form ∷ []) old)
fields_refused Memory form old line rest first h = tt
fields_refused (Refused r) form old line rest first h = first_refused form old line rest r first (whole form line ∙ h [])

pub end_refused : (form : List Field) (old : Rest) (line after : Line) (rest : List Line) (r : Refusal) → old.lines ≡ line ∷ rest → Passes form line after → line_refusal [] after ≡ Some r → IsRefusedAtLines (form ∷ []) old r
end_refused form old line after rest r first passes h = first_refused form old line rest r first (whole form line ∙ passes [] ∙ h)

pub end_passes : (form : List Field) (old new : Rest) (line after : Line) → old.lines ≡ line ∷ new.lines → new.count ≡ old.count → Passes form line after → line_refusal [] after ≡ None → PassesLines (form ∷ []) old new
end_passes form old new line after first count passes h = first_passes form old new line first count (whole form line ∙ passes [] ∙ h)
