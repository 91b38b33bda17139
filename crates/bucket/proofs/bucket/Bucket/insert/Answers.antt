use Rattle.label_list.specs.Labels.{last_of}
use Rattle.bucket.proofs.Insertions.{IsFront-of, IsKeptBucket-inserted}
use Rattle.bucket.proofs.Lasts.{last_of-place, place-of_label, strip-there}
use Rattle.bucket.proofs.bucket.Bucket.insert.Goals as goal

pub front_of-front-requires : goal.front_of-front-requires
front_of-front-requires c =
    let label_of = rw (← c.self.view_is) at c.requires.side in
    rw (c.side-side.ensures.value, c.last.ensures)
    (strip-there c.self.inside.store.side c.args.label.path.items c.args.label.last label_of.path
    (last_of-place c.self.inside.store.side.instance c.args.label.path.items c.args.label.start c.args.label.last label_of.at))

pub insert_at-requires-clause-front : goal.insert_at-requires-clause-front
insert_at-requires-clause-front c =
    let label_of = rw (← c.self.view_is) at c.requires.side in
    let here = rw (← c.self.view_is) at c.requires.here in
    IsFront-of c.self.inside.store c.self.inside.fronts.items c.front_of-front.result (last_of c.args.label.path.items) c.index_mut.result.now
    c.self.invariant c.front_of-front.ensures.small
    (place-of_label c.self.inside.store.side c.args.label c.last.result c.front_of-front.result c.self.inside.store.number label_of here
    c.last.ensures c.front_of-front.ensures.value)
    c.index_mut.ensures.value

pub invariant_of-self : goal.invariant_of-self
invariant_of-self c =
    let label_of = rw (← c.self.view_is) at c.requires.side in
    let here = rw (← c.self.view_is) at c.requires.here in
    IsKeptBucket-inserted c.self.inside.store c.insert_at.new.store c.args.label.path.items c.insert_at.result c.self.inside.fronts.items
    c.front_of-front.result c.insert_at.new.front c.insert_at.ensures.inserting
    (place-of_label c.self.inside.store.side c.args.label c.last.result c.front_of-front.result c.self.inside.store.number label_of here
    c.last.ensures c.front_of-front.ensures.value)
    c.front_of-front.ensures.small c.self.invariant c.insert_at.ensures.front
