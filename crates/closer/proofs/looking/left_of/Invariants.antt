use Rattle.closer.specs.Looking.{AreLeft}
use Rattle.closer.proofs.looking.left_of.Given as goal

-- those wait on in whose looks so far something may be lacking
abbrev pub invariant-loop-look : goal.invariant-loop-look
invariant-loop-look l = AreLeft l.looks l.look-index l.queue
