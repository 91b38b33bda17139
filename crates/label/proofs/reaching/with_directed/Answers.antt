use Rattle.std.proofs.Common.{ℕ, ◌<◌, sym, subst}
use Rattle.label.proofs.Members.{directed_below}
use Rattle.strip_set.specs.declared.directed_set.TheConstants.{MAX_DIRECTED}
use Rattle.label.proofs.reaching.with_directed.Goals as goal

pub with-requires : goal.with-requires
with-requires c =
    subst (λ (y : ℕ). y < MAX_DIRECTED) (sym c.x.view_is)
    (directed_below c.args.side.now.instance c.args.x c.deadline.ensures.sound.instance c.requires.next)
