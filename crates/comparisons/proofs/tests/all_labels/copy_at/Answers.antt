use Rattle.comparisons.proofs.tests.all_labels.copy_at.Goals as goal

pub returns : goal.returns
returns c = c.in_ok-copy.ensures.side c.args.side.now c.label_of-label.ensures
