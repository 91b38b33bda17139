use Rattle.std.proofs.Common.{◌≡◌, ◌≤◌, ◌-◌, ◌++◌, map, All, length}
use Rattle.std.specs.List.{flat_map}
use Rattle.plan_check.specs.PlanText.{acquisition_line, IsAcquisitionInText}
use Rattle.plan_check.specs.Reading.{IsLineBegun}
use Rattle.seq_io.specs.Line.{spelled_line}
use Rattle.seq_io.specs.StrictText.{unread}
use Rattle.plan_check.proofs.reading.read_acquisitions.Given as goal

-- the lines of the acquisitions so far were read, and the next one begins
abbrev pub invariant-loop-reader : goal.invariant-loop-reader
invariant-loop-reader l = record {
  few : length l.plan.items ≤ l.wanted;
  in_range : All IsAcquisitionInText l.plan.items;
  begun : IsLineBegun l.reader;
  lines : unread l.initial.reader ≡ flat_map spelled_line (map acquisition_line l.plan.items) ++ unread l.reader;
}

abbrev pub decreases-loop-reader : goal.decreases-loop-reader
decreases-loop-reader l = l.wanted - length l.plan.items
