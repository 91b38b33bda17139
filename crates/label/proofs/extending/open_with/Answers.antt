use Rattle.std.proofs.Common.{ℕ, true, false, if◌then◌else◌, ◌==◌, sym, ◌∙◌, ap}
use Rattle.label.proofs.Opening.{open_paired, open_first}
use Rattle.strip_model.specs.Directed.{has}
use Rattle.strip_model.specs.Orbit.{Orbit, partner_of}
use Rattle.label.proofs.extending.open_with.Goals as goal

pub returns-then-contains : goal.returns-then-contains
returns-then-contains c = λ y.
    let p = c.in-Some.partner in
    c.without.ensures.members y
    ∙ ap (λ (x : ℕ). if y == x then false else has y c.args.lone) c.partner-in-Some.view_is
    ∙ open_paired c.args.side.now.instance c.args.visited c.args.lone c.args.x p c.instance.ensures.sound.instance c.requires.is_new c.requires.open
    (ap (λ (J : Orbit). partner_of J c.args.x) (sym c.instance.ensures.value) ∙ sym c.partner.ensures.value ∙ c.in-Some.is)
    (sym (c.if-contains.ensures.value ∙ ap (λ (x : ℕ). has x c.args.visited) c.partner-in-Some.view_is)) y

pub returns-else-contains : goal.returns-else-contains
returns-else-contains c = λ y.
    let p = c.in-Some.partner in
    c.with.ensures.members y
    ∙ ap (λ (x : ℕ). if y == x then true else has y c.args.lone) c.x.view_is
    ∙ open_first c.args.side.now.instance c.args.visited c.args.lone c.args.x p c.instance.ensures.sound.instance c.requires.is_new c.requires.open
    (ap (λ (J : Orbit). partner_of J c.args.x) (sym c.instance.ensures.value) ∙ sym c.partner.ensures.value ∙ c.in-Some.is)
    (sym (c.if-contains.ensures.value ∙ ap (λ (x : ℕ). has x c.args.visited) c.partner-in-Some.view_is)) y
