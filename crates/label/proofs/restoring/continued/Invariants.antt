use Rattle.std.proofs.Common.{take, ◌++◌}
use Rattle.label.specs.Labels.{IsLabelWith}
use Rattle.label.proofs.restoring.continued.Given as goal

-- the label has the directed strips so far after its path
abbrev pub invariant-loop-x : goal.invariant-loop-x
invariant-loop-x l = IsLabelWith l.side (l.fn.label.path.items ++ take l.x-index l.rest) l.longer
