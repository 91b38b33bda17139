use Rattle.std.proofs.Common.{◌%◌, ap, ◌∙◌}
use Rattle.bucket.proofs.Lasts.{last_of-place}
use Rattle.bucket.specs.Histories.{bucket_of}
use Rattle.comparisons.proofs.tests.plain_bucket.insert_copy.Goals as goal

-- the copy has the path of the label, whose last directed strip is of this bucket
pub insert-requires-clause-here : goal.insert-requires-clause-here
insert-requires-clause-here c =
    ap bucket_of c.in_ok-copy.ensures.path
    ∙ ap (λ x. x % 16)
    (last_of-place c.args.side.now.instance c.args.label.now.path.items c.args.label.now.start c.args.label.now.last c.requires.label.at)
    ∙ c.requires.here
