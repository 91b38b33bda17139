-- Tables of the right number of entries.
use Rattle.std.proofs.Common.{◌≡◌, ℕ, ◌*◌, List, length, sym, ap, ◌∙◌}
use Rattle.manoeuvre.specs.Refusal as table
use Rattle.manoeuvre.specs.declared.refusal.TableRefusal.{TableRefusal}
use Rattle.manoeuvre.specs.declared.refusal.TableRefusal.TheVariants.{Shape, SameStrip, Shortcut, Memory}
use Rattle.strip_model.proofs.Durations.{length-durations_of}
use Rattle.strip_model.specs.Refusal.{durations_of}
use Rattle.strip_model.specs.declared.strip.Strip.{Strip}
use Rattle.instance_text.specs.Rules.{IsNotShape}

-- a table of the right number of entries isn't refused for that
pub not_shape : (refusal : TableRefusal) (ss : List Strip) (entries : List ℕ) → length entries ≡ (2 * length ss) * (2 * length ss) → table.IsCause (durations_of ss) entries refusal → IsNotShape refusal
not_shape (Shape expected found) ss entries square cause =
    cause.2 (cause.0 ∙ square ∙ ap (λ (n : ℕ). n * n) (sym (length-durations_of ss)) ∙ sym cause.1)
not_shape (SameStrip x y value) ss entries square cause = tt
not_shape (Shortcut x y z) ss entries square cause = tt
not_shape Memory ss entries square cause = tt
