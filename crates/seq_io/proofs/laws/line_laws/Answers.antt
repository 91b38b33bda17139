use Rattle.seq_io.proofs.Spelled.{at_line-spelled, unread-at_line, end_fault-none, end_fault-some}
use Rattle.seq_io.proofs.laws.line_laws.Goals as goal

pub returns-clause-read : goal.returns-clause-read
returns-clause-read c = at_line-spelled

pub returns-clause-spelled : goal.returns-clause-spelled
returns-clause-spelled c = unread-at_line

pub returns-clause-end : goal.returns-clause-end
returns-clause-end c = end_fault-none

pub returns-clause-more : goal.returns-clause-more
returns-clause-more c = end_fault-some
