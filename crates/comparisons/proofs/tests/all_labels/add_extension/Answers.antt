use Rattle.std.proofs.lemmas.List.Elements.{All-push}
use Rattle.label.specs.Labels.{IsLabelOf}
use Rattle.comparisons.proofs.tests.all_labels.add_extension.Goals as goal

-- the label that is added is one of the side, as those before it
pub returns-in_ok-push-in-Some : goal.returns-in_ok-push-in-Some
returns-in_ok-push-in-Some c =
    let new = rw c.in-Some.is at c.in_ok-extend.ensures in
    rw c.in_ok-push-in-Some.ensures.items (All-push (IsLabelOf c.args.side.now) c.args.labels.now.items c.in-Some.label c.requires.labels new.1)
