use Rattle.std.proofs.Common.{◌∙◌, subst}
use Rattle.shared_budget.specs.Numbers.{AreAllBelow, IsEnd}
use Rattle.shared_budget.specs.Drawn.{Drawn, parties}
use Rattle.shared_budget.proofs.Ends.{closes}
use Rattle.shared_budget.proofs.draws.Draws.close.Goals as goal

pub returns : goal.returns
returns c =
    let seat = c.drawer.inside.seat in
    record {
      numbers = subst (λ (d : Drawn). (next : _) × AreAllBelow next (parties d) × IsEnd next d.budget d.kept) c.drawer.view_is
          (closes _ _ seat.me.0 _ _ ((λ i. (c.drawer.view_is i).weight) ∙ c.requires.whole) c.close_with.ensures.values.2);
    }
