-- A text stands for one instance.
use Rattle.std.proofs.Common.{◌≡◌, ℕ, List, [], ◌∷◌, length, get_or, map, refl, sym, ◌∙◌, ap, arith}
use Rattle.std.specs.Prelude.{All}
use Rattle.std.proofs.lemmas.List.Elements.{All-head, All-tail}
use Rattle.instance_text.proofs.OneMeaning.{one_meaning, with_two_windows}
use Rattle.instance_text.proofs.Only.{in_form}
use Rattle.instance_text.specs.Text.{IsText}
use Rattle.strip_model.specs.IsInstance.{HasTwoWindows}
use Rattle.strip_model.specs.Orbit.{Orbit, no_window}
use Rattle.strip_model.specs.declared.request.Request.{Request}
use Rattle.strip_model.specs.declared.strip.Strip.{Strip}
use Rattle.strip_model.specs.declared.window.Window.{Window}

two_written_out : (ws : List Window) → length ws ≡ 2 → ws ≡ get_or ws 0 no_window ∷ get_or ws 1 no_window ∷ []
two_written_out [] h = absurd (omega arith)
two_written_out (v ∷ []) h = absurd (omega arith)
two_written_out (v ∷ w ∷ []) h = refl
two_written_out (v ∷ w ∷ x ∷ ws) h = absurd (omega arith)

written_out : (s : Strip) → HasTwoWindows s → s ≡ with_two_windows s
written_out s h = ap (λ (ws : List Window). record s { windows = ws }) (two_written_out s.windows h)

all_written_out : (ss : List Strip) → All HasTwoWindows ss → ss ≡ map with_two_windows ss
all_written_out [] h = refl
all_written_out (s ∷ ss) h =
    ap (λ (x : Strip). x ∷ ss) (written_out s (All-head HasTwoWindows s ss h))
    ∙ ap (λ (xs : List Strip). with_two_windows s ∷ xs) (all_written_out ss (All-tail HasTwoWindows s ss h))

pub equal_from_text : (bytes : List ℕ) (I J : Orbit) → IsText bytes I → IsText bytes J → I ≡ J
equal_from_text bytes I J hi hj =
    let same = one_meaning I J (in_form bytes I hi) (in_form bytes J hj) (sym hi.lines ∙ hj.lines) in
    let strips : I.strips ≡ J.strips =
    all_written_out I.strips hi.sound.two_windows ∙ same.strips ∙ sym (all_written_out J.strips hj.sound.two_windows) in
    ap (λ (x : List Request). record { requests = x; strips = I.strips; table = I.table }) same.requests
    ∙ ap (λ (x : List Strip). record { requests = J.requests; strips = x; table = I.table }) strips
    ∙ ap (λ (x : ℕ). record { requests = J.requests; strips = J.strips; table = record { size = x; entries = I.table.entries } }) same.size
    ∙ ap (λ (x : List ℕ). record { requests = J.requests; strips = J.strips; table = record { size = J.table.size; entries = x } }) same.entries
