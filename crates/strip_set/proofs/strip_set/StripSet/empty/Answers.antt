use Rattle.std.proofs.Common.{arith}
use Rattle.strip_set.specs.declared.strip_set.TheConstants.{MAX_STRIPS}
use Rattle.strip_set.proofs.Words.{members-zero}
use Rattle.strip_set.proofs.strip_set.StripSet.empty.Goals as goal

pub returns : goal.returns
returns c = members-zero MAX_STRIPS (omega arith)
