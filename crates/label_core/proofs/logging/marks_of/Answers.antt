use Rattle.label_core.proofs.LogParts.{both_sides}
use Rattle.label_core.proofs.logging.marks_of.Goals as goal

pub returns : goal.returns
returns c =
    both_sides c.args.core.now.state c.in_ok-marks.marks.items c.add_side.new.marks.items c.add_side-2.new.marks.items c.in_ok-marks.ensures.items
    c.in_ok-add_side.ensures c.in_ok-add_side-2.ensures
