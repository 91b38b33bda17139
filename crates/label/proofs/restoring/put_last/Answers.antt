use Rattle.std.proofs.Common.{ℕ, ◌<◌, true, if◌then◌else◌, ◌==◌, refl, sym, ◌∙◌, ap, subst}
use Rattle.label.proofs.Growing.{IsNewIn-next, IsLabelOf-grown, next_below, opens_among}
use Rattle.strip_model.specs.Directed.{has}
use Rattle.strip_set.specs.declared.directed_set.TheConstants.{MAX_DIRECTED}
use Rattle.label.proofs.restoring.put_last.Goals as goal

pub open_with-label-requires-clause-is_new : goal.open_with-label-requires-clause-is_new
open_with-label-requires-clause-is_new c =
    IsNewIn-next c.args.side.now c.args.label.now.path.items c.args.label.now.visited c.args.x c.args.start c.requires.label.visited c.requires.next

pub open_with-label-requires-clause-open : goal.open_with-label-requires-clause-open
open_with-label-requires-clause-open c =
    opens_among c.args.side.now.instance c.args.label.now.path.items c.args.label.now.visited c.args.label.now.lone c.requires.label.visited c.requires.label.lone

pub with-label-requires : goal.with-label-requires
with-label-requires c =
    subst (λ (y : ℕ). y < MAX_DIRECTED) (sym c.x.view_is)
    (next_below c.args.side.now c.args.label.now.path.items c.args.x c.args.start c.requires.face c.requires.next)

pub returns : goal.returns
returns c = (
  c.in_ok-push.ensures.items,
  IsLabelOf-grown c.args.side.now _ c.args.label.now.path.items c.args.label.now.visited c.args.x c.args.start c.requires.label.visited c.requires.next
      c.requires.label.side c.in_ok-push.ensures.items refl refl
      (λ y. c.with-label.ensures.members y ∙ ap (λ (x : ℕ). if y == x then true else has y c.args.label.now.visited) c.x.view_is) c.open_with-label.ensures,
)
