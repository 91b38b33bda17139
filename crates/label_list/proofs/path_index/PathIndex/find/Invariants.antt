use Rattle.label_list.proofs.Indexes.{IsSeeking, left_from}
use Rattle.label_list.specs.Records.{paths_in}
use Rattle.label_list.proofs.path_index.PathIndex.find.Given as goal

-- no label past the place has the path
abbrev pub invariant-places : goal.invariant-places
invariant-places l = IsSeeking (paths_in l.steps l.records) l.path l.place

abbrev pub decreases-places : goal.decreases-places
decreases-places l = left_from l.place
