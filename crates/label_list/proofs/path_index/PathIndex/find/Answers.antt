use Rattle.label_list.proofs.Records.{seeking-on}
use Rattle.label_list.proofs.path_index.PathIndex.find.Goals as goal

pub places-preserved : goal.places-preserved
places-preserved c =
    seeking-on c.args.steps.now c.args.records.now c.args.self.now c.args.path.now c.path_of.result.now c.in-Some.id c.index-records-id.result c.places.place
    c.index-place.result.now c.are_same.result c.requires.index c.in-Some.is c.index-records-id.is c.path_of.ensures c.are_same.ensures c.if-are_same.false
    c.index-place.ensures c.places.invariant
