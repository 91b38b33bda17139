use Rattle.std.proofs.Common.{◌+◌, le_refl, arith}
use Rattle.joiner.proofs.Looking.{value-le, Covered-settled}
use Rattle.joiner.proofs.looks.best_with.Goals as goal

pub overflow_add-f : goal.overflow_add-f
overflow_add-f c =
    let a = value-le c.args.instance.now c.strips.ensures.sound c.args.f.now c.requires.forward in
    let b = value-le c.args.instance.now c.strips.ensures.sound c.args.w.now c.requires.backward in
    omega (arith, a, b)

pub returns-then-is_settled-clause-covered : goal.returns-then-is_settled-clause-covered
returns-then-is_settled-clause-covered c =
    let f = c.args.f.now in
    let w = c.args.w.now in
    Covered-settled c.args.instance.now c.args.floor c.args.best f w (f.value + w.value) c.requires.forward c.requires.backward
    (le_refl (f.value + w.value)) c.if-is_settled.ensures
