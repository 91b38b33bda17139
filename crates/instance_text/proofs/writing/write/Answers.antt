use Rattle.instance_text.proofs.Spelled.{text_written}
use Rattle.instance_text.proofs.LinesOf.{IsText-spelling}
use Rattle.instance_text.proofs.writing.write.Goals as goal

pub returns-clause-spelling : goal.returns-clause-spelling
returns-clause-spelling c =
    text_written c.args.instance.now _ _ _ _ _ _ _ _ _ c.new-text.ensures.items c.in_ok-put_count.ensures
    (rw c.requests-requests.ensures.value at c.in_ok-put_count-2.ensures) (rw c.requests-requests.ensures.value at c.in_ok-put_requests.ensures)
    (rw c.strips-strips.ensures.value at c.in_ok-put_count-3.ensures) (rw c.strips-strips.ensures.value at c.in_ok-put_strips.ensures)
    c.in_ok-put_line.ensures.ok (rw c.table.ensures.value at c.in_ok-put_table.ensures) c.in_ok-put_line-2.ensures.ok

pub returns-clause-text : goal.returns-clause-text
returns-clause-text c = IsText-spelling c.args.instance.now c.put_line-2.new.out.items c.requests-requests.ensures.sound c.requires (returns-clause-spelling c)
