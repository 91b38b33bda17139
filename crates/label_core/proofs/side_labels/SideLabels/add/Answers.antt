use Rattle.std.proofs.Common.{◌≡◌, List, length, get_or, [], ◌∙◌, ap, arith}
use Rattle.bucket.specs.Histories.{bucket_of}
use Rattle.label_list.specs.Labels.{Held}
use Rattle.label_list.specs.declared.state.State.TheVariants.{Waiting}
use Rattle.label_core.proofs.SideLists.{labels_on, sided-add, label_bucket}
use Rattle.label_core.proofs.side_labels.SideLabels.add.Goals as goal

pub add-requires-clause-few : goal.add-requires-clause-few
add-requires-clause-few c =
    let bucket : c.from.result ≡ bucket_of c.args.label.now.path.items =
    c.from.ensures ∙ label_bucket c.args.self.now.face c.args.label.now c.last.result c.bucket_of-bucket.result c.requires.label c.last.ensures c.bucket_of-bucket.ensures.value in
    let labels : c.index_mut.result.now.labels ≡ get_or c.args.self.now.buckets c.from.result [] =
    labels_on c.self.inside.side.now c.self.inside.lists.items c.from.result c.index_mut.result.now c.args.self.now c.self.view_is
    (omega (arith, c.self.invariant.1, c.from.ensures, c.bucket_of-bucket.ensures.small)) c.index_mut.ensures.value in
    omega (arith, c.requires.few, ap (λ (hs : List Held). length hs) labels, ap (λ b. length (get_or c.args.self.now.buckets b [])) bucket)

pub returns : goal.returns
returns c =
    sided-add c.self.inside.side.now c.self.inside.lists.items c.from.result (bucket_of c.args.label.now.path.items) c.index_mut.result.now c.add.new.self
    c.args.self.now (record { path = c.args.label.now.path.items; state = Waiting }) c.add.result c.self.view_is
    (omega (arith, c.self.invariant.1, c.from.ensures, c.bucket_of-bucket.ensures.small))
    (c.from.ensures ∙ label_bucket c.args.self.now.face c.args.label.now c.last.result c.bucket_of-bucket.result c.requires.label c.last.ensures c.bucket_of-bucket.ensures.value)
    c.index_mut.ensures.value c.add.ensures
