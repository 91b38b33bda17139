use Rattle.std.proofs.Common.{◌∙◌, arith}
use Rattle.instance_text.proofs.Spelled.{row_written, table_continued}
use Rattle.instance_text.proofs.writing.put_table.Goals as goal

pub loop-x-preserved : goal.loop-x-preserved
loop-x-preserved c =
    let written = row_written c.args.table.now c.loop-x.x c.from.result c.copy_row.new.row _ _ (c.from.ensures ∙ c.size.ensures.size) c.copy_row.ensures c.in_ok-put_numbers.ensures in
    table_continued c.args.table.now c.loop-x.x _ _ (omega arith) written ∙ c.loop-x.invariant
