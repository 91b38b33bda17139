use Rattle.std.proofs.Common.{ℕ, ◌<◌, true, if◌then◌else◌, ◌==◌, refl, sym, ◌∙◌, ap, subst}
use Rattle.label.proofs.Growing.{IsNewIn-next, IsLabelOf-grown, next_exists, next_below, opens_among}
use Rattle.strip_model.specs.Directed.{has}
use Rattle.strip_set.specs.declared.directed_set.TheConstants.{MAX_DIRECTED}
use Rattle.label.proofs.extending.grown.Goals as goal

pub open_with-lone-requires-clause-is_new : goal.open_with-lone-requires-clause-is_new
open_with-lone-requires-clause-is_new c =
    IsNewIn-next c.args.side.now c.args.path.items c.args.visited c.args.x c.args.start c.requires.visited c.requires.next

pub open_with-lone-requires-clause-open : goal.open_with-lone-requires-clause-open
open_with-lone-requires-clause-open c = opens_among c.args.side.now.instance c.args.path.items c.args.visited c.args.lone c.requires.visited c.requires.open

pub open_with-lone-requires-clause-next : goal.open_with-lone-requires-clause-next
open_with-lone-requires-clause-next c = next_exists c.args.side.now c.args.path.items c.args.x c.args.start c.requires.next

pub with-requires : goal.with-requires
with-requires c =
    subst (λ (y : ℕ). y < MAX_DIRECTED) (sym c.x.view_is)
    (next_below c.args.side.now c.args.path.items c.args.x c.args.start c.end.ensures.sound c.requires.next)

pub returns-clause-label : goal.returns-clause-label
returns-clause-label c =
    IsLabelOf-grown c.args.side.now _ c.args.path.items c.args.visited c.args.x c.args.start c.requires.visited c.requires.next
    c.end.ensures.value c.in_ok-push.ensures.items refl refl
    (λ y. c.with.ensures.members y ∙ ap (λ (x : ℕ). if y == x then true else has y c.args.visited) c.x.view_is) c.open_with-lone.ensures
