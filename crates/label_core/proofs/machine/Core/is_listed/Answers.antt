use Rattle.std.proofs.Common.{subst}
use Rattle.label_core.proofs.Listing.{listed_from, listed_on}
use Rattle.label_core.specs.Machine.{Machine, IsReached}
use Rattle.label_core.proofs.machine.Core.is_listed.Goals as goal

pub returns : goal.returns
returns c = (
  λ t.
      listed_from c.self.inside.instance.now c.self.inside.sides c.self.inside.notes.items c.self.inside.plan.items c.args.self.now c.self.view_is
      c.args.label.now.end c.args.label.now.path.items (c.has_path.ensures.0 t),
  λ listed.
      c.has_path.ensures.1
      (listed_on c.self.inside.instance.now c.self.inside.sides c.self.inside.notes.items c.self.inside.plan.items c.args.self.now c.self.view_is
      (subst (λ (m : Machine). IsReached m) c.self.view_is c.self.invariant.reached) c.args.label.now.end c.args.label.now.path.items listed),
)
