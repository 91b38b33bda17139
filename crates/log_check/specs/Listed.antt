-- What is kept of a log whose labels keep the third rule.
use Rattle.label_list.specs.Labels as lists
use Rattle.log_check.specs.Listing.{HasPaths}
use Rattle.log_check.specs.Reading.{Read, AreRight, face_in}
use Rattle.proof_log.specs.Labels.{paths_in}
use Rattle.strip_model.specs.declared.end.End.TheVariants.{Forward, Backward}

-- the labels keep the third rule, and the lists have the paths of both ends
pub record KeepsLists (r : Read) (f b : lists.Listed) : Type 0 where
  pub right : AreRight r.instance r.log
  pub forward : HasPaths (face_in r Forward) (paths_in r.log Forward) f
  pub backward : HasPaths (face_in r Backward) (paths_in r.log Backward) b
