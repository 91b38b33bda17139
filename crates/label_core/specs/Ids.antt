-- The names of labels: the side, the bucket there, and the place in the bucket.
use Rattle.std.specs.Prelude.{Bool, ◌&&◌, ◌==◌}
use Rattle.bucket.specs.declared.id.Id.{Id}
use Rattle.proof_log.specs.Labels.{same_end}

-- whether two names are the same
abbrev pub same_id : Id → Id → Bool
same_id a b = same_end a.end b.end && (a.bucket == b.bucket && a.index == b.index)
