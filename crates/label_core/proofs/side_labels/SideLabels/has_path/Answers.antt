use Rattle.std.proofs.Common.{◌∙◌, arith}
use Rattle.bucket.specs.Histories.{bucket_of}
use Rattle.label_core.proofs.SideLists.{has_path_in, label_bucket}
use Rattle.label_core.proofs.side_labels.SideLabels.has_path.Goals as goal

pub returns : goal.returns
returns c =
    has_path_in c.self.inside.side.now c.self.inside.lists.items c.from.result (bucket_of c.args.label.now.path.items) c.index.result.now c.args.self.now
    c.path.result.now c.args.label.now.path.items c.id_of.result c.is_some.result c.self.view_is
    (omega (arith, c.self.invariant.1, c.from.ensures, c.bucket_of-bucket.ensures.small))
    (c.from.ensures ∙ label_bucket c.args.self.now.face c.args.label.now c.last.result c.bucket_of-bucket.result c.requires c.last.ensures c.bucket_of-bucket.ensures.value)
    c.index.ensures c.path.ensures c.id_of.ensures c.is_some.ensures
