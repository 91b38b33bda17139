use Rattle.comparisons.proofs.tests.all_labels.all_labels_at.Goals as goal

pub returns : goal.returns
returns c = λ k d l. (c.args.cut, rw c.in_ok-side.ensures.value at c.in_ok-labels.ensures k d l)
