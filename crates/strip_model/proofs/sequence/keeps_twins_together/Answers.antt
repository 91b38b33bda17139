use Rattle.std.proofs.Common.{◌≡◌, ℕ, Bool, true, false, List, map, sym, ◌∙◌, ap, subst, true≢false}
use Rattle.strip_model.proofs.Twins.{keeps_twin-from_together}
use Rattle.strip_model.proofs.Words.{has-element}
use Rattle.strip_model.specs.Directed.{has}
use Rattle.strip_model.specs.Orbit.{Orbit}
use Rattle.strip_model.specs.Plan.{KeepsTwinsTogether}
use Rattle.strip_model.specs.Twins.{keeps_twin}
use Rattle.strip_model.proofs.sequence.keeps_twins_together.Goals as goal

-- a directed strip without its twin
not_together : (J : Orbit) (xs : List ℕ) (x : ℕ) (kept : Bool) → kept ≡ keeps_twin J xs x → kept ≡ false → has x xs ≡ true → KeepsTwinsTogether J xs → false ≡ true
not_together J xs x kept is missing there together = sym missing ∙ is ∙ keeps_twin-from_together J xs x together there

pub returns-then-not-keeps_twin : goal.returns-then-not-keeps_twin
returns-then-not-keeps_twin g c =
    let at = g.X.AtDirected.directed in
    let sequence = c.args.sequence.now in
    let there = subst (λ (x : ℕ). has x (map at sequence) ≡ true) (sym (c.directed.ensures ∙ ap at c.item-item.is))
    (has-element at sequence c.loop-item.item-index c.item-item.result c.loop-item-test.true) in (
      λ e. absurd (true≢false (sym e)),
      not_together c.args.instance.now (map at sequence) c.directed.result c.keeps_twin.result c.keeps_twin.ensures c.if-not-keeps_twin.true there,
    )
