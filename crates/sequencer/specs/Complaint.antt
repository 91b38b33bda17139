use Rattle.std.specs.Prelude.{ℕ, List, Option, None, Some, codes}
use Rattle.sequencer.specs.declared.status.Status.{Status}
use Rattle.sequencer.specs.declared.status.Status.TheVariants.{Usage, ReadFault, WriteFault, Memory}

-- the line for standard error, where nothing on standard output says what went wrong
abbrev pub complaint_of : Status → Option (List ℕ)
complaint_of Usage = Some (codes "usage: strips COMMAND [--workers N] [--budget N] [--cut N] [--seed N] [--size N]; COMMAND is solve, check, score, make or trial")
complaint_of ReadFault = Some (codes "standard input could not be read")
complaint_of WriteFault = Some (codes "standard output could not be written")
complaint_of Memory = Some (codes "out of memory")
complaint_of _ = None
