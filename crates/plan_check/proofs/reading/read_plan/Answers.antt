use Rattle.std.proofs.Common.{◌≡◌, ◌+◌, length, sym, arith}
use Rattle.plan_check.proofs.Lines.{found_text}
use Rattle.plan_check.proofs.ReadLines.{counted, is_found, bad_first, bad_acquisition, bad_end, bad_rest, whole_text}
use Rattle.plan_check.proofs.reading.read_plan.Goals as goal

pub returns-in_default-clause-refused : goal.returns-in_default-clause-refused
returns-in_default-clause-refused c = bad_first c.args.bytes.now c.new-reader.result c.in_default.field-0 c.new-reader.ensures c.in_default.ensures.fault

pub returns-in_default-clause-every_text : goal.returns-in_default-clause-every_text
returns-in_default-clause-every_text c = λ other text. absurd ((returns-in_default-clause-refused c).unfinished other text)

pub read_acquisitions-requires : goal.read_acquisitions-requires
read_acquisitions-requires c =
    (counted c.args.bytes.now c.in-Ok.count c.new-reader.result c.read_count.new.reader c.new-reader.ensures c.in-Ok.ensures.read).begun

pub returns-then-len-count-clause-refused : goal.returns-then-len-count-clause-refused
returns-then-len-count-clause-refused c =
    let first = counted c.args.bytes.now c.in-Ok.count c.new-reader.result c.read_count.new.reader c.new-reader.ensures c.in-Ok.ensures.read in
    bad_acquisition c.args.bytes.now c.in-Ok.count c.in_ok-plan.plan.items c.read_count.new.reader c.read_acquisitions.new.reader (c.len.result + 2)
    c.in-Ok.ensures.limit first c.in_ok-plan.ensures (omega (arith, c.len-2.ensures, c.if-len-count.true)) (omega (arith, c.len.ensures))

pub returns-then-len-count-clause-every_text : goal.returns-then-len-count-clause-every_text
returns-then-len-count-clause-every_text c = λ other text. absurd ((returns-then-len-count-clause-refused c).unfinished other text)

pub returns-in_default-read_end-clause-refused : goal.returns-in_default-read_end-clause-refused
returns-in_default-read_end-clause-refused c =
    let first = counted c.args.bytes.now c.in-Ok.count c.new-reader.result c.read_count.new.reader c.new-reader.ensures c.in-Ok.ensures.read in
    bad_end c.args.bytes.now c.in-Ok.count c.in_ok-plan.plan.items c.read_count.new.reader c.read_acquisitions.new.reader (c.len.result + 2)
    c.in_default-read_end.field-0 c.in-Ok.ensures.limit first c.in_ok-plan.ensures c.in_default-read_end.ensures.fault (omega (arith, c.len.ensures))

pub returns-in_default-read_end-clause-every_text : goal.returns-in_default-read_end-clause-every_text
returns-in_default-read_end-clause-every_text c = λ other text. absurd ((returns-in_default-read_end-clause-refused c).unfinished other text)

pub returns-in_default-text_end-clause-refused : goal.returns-in_default-text_end-clause-refused
returns-in_default-text_end-clause-refused c =
    let first = counted c.args.bytes.now c.in-Ok.count c.new-reader.result c.read_count.new.reader c.new-reader.ensures c.in-Ok.ensures.read in
    let all : length c.in_ok-plan.plan.items ≡ c.in-Ok.count = omega (arith, c.in_ok-plan.ensures.found.few, c.len-2.ensures, c.if-len-count.false) in
    bad_rest c.args.bytes.now c.in-Ok.count c.in_ok-plan.plan.items c.read_count.new.reader c.read_acquisitions.new.reader c.read_end.new.reader (c.len.result + 2 + 1)
    c.in_default-text_end.field-0 c.in-Ok.ensures.limit first c.in_ok-plan.ensures all c.in-Ok-read_end.ensures.read c.in_default-text_end.ensures (omega (arith, c.len.ensures))

pub returns-in_default-text_end-clause-every_text : goal.returns-in_default-text_end-clause-every_text
returns-in_default-text_end-clause-every_text c = λ other text. absurd ((returns-in_default-text_end-clause-refused c).unfinished other text)

pub returns-clause-text : goal.returns-clause-text
returns-clause-text c =
    let first = counted c.args.bytes.now c.in-Ok.count c.new-reader.result c.read_count.new.reader c.new-reader.ensures c.in-Ok.ensures.read in
    let all : length c.in_ok-plan.plan.items ≡ c.in-Ok.count = omega (arith, c.in_ok-plan.ensures.found.few, c.len-2.ensures, c.if-len-count.false) in
    whole_text c.args.bytes.now c.in-Ok.count c.in_ok-plan.plan.items c.read_count.new.reader c.read_acquisitions.new.reader c.read_end.new.reader
    c.in-Ok.ensures.limit first c.in_ok-plan.ensures all c.in-Ok-read_end.ensures.read (sym c.in-Ok-text_end.ensures)

pub returns-clause-every_text : goal.returns-clause-every_text
returns-clause-every_text c =
    let first = counted c.args.bytes.now c.in-Ok.count c.new-reader.result c.read_count.new.reader c.new-reader.ensures c.in-Ok.ensures.read in
    let read = c.in_ok-plan.ensures in
    let found = is_found c.args.bytes.now c.in-Ok.count c.in_ok-plan.plan.items c.read_count.new.reader c.read_acquisitions.new.reader c.in-Ok.ensures.limit first read in
    λ other text. (found_text c.args.bytes.now c.in-Ok.count c.in_ok-plan.plan.items read.rest found other text).1
