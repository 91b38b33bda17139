use Rattle.bucket.specs.Stores.{paths_of, steps_of}
use Rattle.bucket.proofs.Here.{bucket_of-history}
use Rattle.bucket.proofs.store.Store.brief.Goals as goal

pub returns-clause-here : goal.returns-clause-here
returns-clause-here c =
    let there = rw (← c.self.view_is) at c.requires in
    rw (← c.self.view_is)
    (bucket_of-history c.self.inside.list.face c.self.inside.number
    (steps_of (paths_of c.self.inside.list.labels) c.self.inside.entries.items) c.args.id c.self.invariant.history there)
