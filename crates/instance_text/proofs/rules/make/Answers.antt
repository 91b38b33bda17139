use Rattle.instance_text.proofs.TableShape.{not_shape}
use Rattle.instance_text.proofs.rules.make.Goals as goal

pub table_unmade-requires : goal.table_unmade-requires
table_unmade-requires c =
    let refused = rw c.in-Err-Table.field-0-is at c.in-Err-Table.ensures.refused in
    not_shape c.in-Err-Table.refusal c.args.contents.strips.items c.deref-2.result.now (rw c.deref-2.ensures.value c.requires.square) refused.0
