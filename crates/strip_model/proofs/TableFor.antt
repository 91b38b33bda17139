-- What `Table::new` says of the durations of some strips, said of the strips.
use Rattle.std.proofs.Common.{◌≡◌, ℕ, ◌*◌, ◌%◌, ◌≤◌, List, length, get_or, sym, ◌∙◌, ap, subst, arith}
use Rattle.std.specs.Prelude.{All}
use Rattle.manoeuvre.specs.Grid.{Grid, IsTable, KeepsShortcut}
use Rattle.manoeuvre.specs.Refusal.{grid_of, IsCause}
use Rattle.manoeuvre.specs.declared.refusal.TableRefusal.TheVariants.{Memory}
use Rattle.manoeuvre.specs.declared.limits.TheConstants.{MAX_DIRECTED, MAX_DURATION}
use Rattle.strip_model.proofs.Durations.{length-durations_of, durations_of-at, durations_of-within, KeepsShortcut-along}
use Rattle.strip_model.specs.IsInstance.{HasWindows}
use Rattle.strip_model.specs.Orbit.{duration_in}
use Rattle.strip_model.specs.Refusal.{durations_of}
use Rattle.strip_model.specs.declared.limits.TheConstants.{MAX_STRIPS}
use Rattle.strip_model.specs.declared.strip.Strip.{Strip}

pub durations_even : (ds : List ℕ) (ss : List Strip) → ds ≡ durations_of ss → length ds % 2 ≡ 0
durations_even ds ss e = omega (arith, length-durations_of ss, ap length e)

pub durations_few : (ds : List ℕ) (ss : List Strip) → ds ≡ durations_of ss → length ss ≤ MAX_STRIPS → length ds ≤ MAX_DIRECTED
durations_few ds ss e h = omega (arith, length-durations_of ss, ap length e)

pub durations_within : (ds : List ℕ) (ss : List Strip) → ds ≡ durations_of ss → All HasWindows ss → All (λ p. (1 ≤ p) × (p ≤ MAX_DURATION)) ds
durations_within ds ss e h =
    let P : List ℕ → Type 0 = λ ds. All (λ p. (1 ≤ p) × (p ≤ MAX_DURATION)) ds in
    subst P (sym e) (durations_of-within ss h)

pub table_made : (t : Grid) (ds es : List ℕ) (ss : List Strip) → t ≡ grid_of ds es → ds ≡ durations_of ss
    → t ≡ record { size = 2 * length ss; entries = es }
table_made t ds es ss made e =
    made ∙ ap (λ (n : ℕ). let g : Grid = record { size = n; entries = es } in g) (ap length e ∙ length-durations_of ss)

pub table_shortcut : (t : Grid) (ds es : List ℕ) (ss : List Strip) → t ≡ record { size = 2 * length ss; entries = es } → ds ≡ durations_of ss
    → KeepsShortcut (λ y. get_or ds y 0) t → KeepsShortcut (duration_in ss) t
table_shortcut t ds es ss made e h =
    KeepsShortcut-along (λ y. get_or ds y 0) (duration_in ss) t
    (λ y l. ap (λ (ds : List ℕ). get_or ds y 0) e ∙ durations_of-at ss y 0 (omega (arith, l, ap (λ (g : Grid). g.size) made)))
    h

-- where there is a table, no rule is broken
pub no_rule_broken : (t : Grid) (es : List ℕ) (ss : List Strip) → t ≡ record { size = 2 * length ss; entries = es }
    → IsTable t → KeepsShortcut (duration_in ss) t → IsCause (durations_of ss) es Memory
no_rule_broken t es ss made sound shortcut =
    let ds = durations_of ss in
    let at : t ≡ grid_of ds es = made ∙ ap (λ (n : ℕ). let g : Grid = record { size = n; entries = es } in g) (sym (length-durations_of ss)) in
    let kept = KeepsShortcut-along (duration_in ss) (λ y. get_or ds y 0) t
    (λ y l. sym (durations_of-at ss y 0 (omega (arith, l, ap (λ (g : Grid). g.size) made)))) shortcut in (
      (subst (λ (g : Grid). IsTable g) at sound).square,
      (subst (λ (g : Grid). IsTable g) at sound).same_strip,
      subst (λ (g : Grid). KeepsShortcut (λ y. get_or ds y 0) g) at kept,
    )
