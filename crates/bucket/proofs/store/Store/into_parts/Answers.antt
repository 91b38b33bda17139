use Rattle.std.proofs.Common.{sym}
use Rattle.bucket.specs.Stores.{paths_of}
use Rattle.bucket.proofs.Stores.{entries-steps}
use Rattle.bucket.proofs.store.Store.into_parts.Goals as goal

pub returns-clause-entries : goal.returns-clause-entries
returns-clause-entries c = rw (← c.self.view_is) (sym (entries-steps (paths_of c.self.inside.list.labels) c.self.inside.entries.items))
