use Rattle.std.proofs.Common.{◌%◌, ap, sym, ◌∙◌}
use Rattle.bucket.proofs.Lasts.{last_of-place}
use Rattle.bucket.specs.declared.limits.TheConstants.{BUCKETS}
use Rattle.board.proofs.replies.number_of.Goals as goal

pub returns-clause-value : goal.returns-clause-value
returns-clause-value c =
    ap (λ x. x % BUCKETS) (c.result.view_is ∙ c.last.ensures
    ∙ sym (last_of-place c.args.side.now.instance c.args.label.now.path.items c.args.label.now.start c.args.label.now.last c.requires.at))
