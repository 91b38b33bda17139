use Rattle.std.proofs.Common.{refl}
use Rattle.std.proofs.lemmas.List.{drop-drop}
use Rattle.instance_text.proofs.place.line_number.Goals as goal

pub loop-preserved : goal.loop-preserved
loop-preserved c = rw (c.next_line.ensures.rest, c.loop.invariant, drop-drop) refl
