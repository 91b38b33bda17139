use Rattle.std.proofs.Common.{◌≡◌, ℕ, ◌<◌, ◌∙◌, length, take, subst, arith}
use Rattle.instance_text.proofs.Spelled.{row_of, row_copied, row_whole}
use Rattle.instance_text.proofs.writing.copy_row.Goals as goal

pub loop-y-preserved : goal.loop-y-preserved
loop-y-preserved c =
    let within : c.loop-y.y < c.args.table.now.size = omega (arith, c.loop-y-test.true, c.size-y-end.ensures.size) in
    let room : c.loop-y.y < length c.loop-y.row = omega (arith, within, c.requires.room, c.loop-y.auto.row) in
    rw c.from.ensures
    (row_copied c.args.table.now c.args.x c.loop-y.y c.between.result c.loop-y.row c.size-y-end.ensures.table.square c.requires.there within room c.between.ensures.entry c.loop-y.invariant)

pub returns : goal.returns
returns c =
    let all : c.loop-y.y ≡ c.args.table.now.size = omega (arith, c.loop-y-test.false, c.loop-y.auto.y-end, c.size-y-end.ensures.size) in
    subst (λ (y : ℕ). take y c.loop-y.row ≡ take y (row_of c.args.table.now c.args.x)) all c.loop-y.invariant
    ∙ row_whole c.args.table.now c.args.x c.size-y-end.ensures.table.square c.requires.there
