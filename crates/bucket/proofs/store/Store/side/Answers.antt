use Rattle.bucket.proofs.store.Store.side.Goals as goal

pub returns-clause-paths : goal.returns-clause-paths
returns-clause-paths c = rw (← c.self.view_is, c.self.invariant.replays) c.len.ensures.paths
