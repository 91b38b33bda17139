use Rattle.std.proofs.Common.{subst, ◌∙◌, ap}
use Rattle.label.proofs.Paired.{open_of_paired}
use Rattle.label.specs.Tables.{ArePaired}
use Rattle.strip_model.specs.IsInstance.{IsInstance}
use Rattle.strip_model.specs.Side.{Face}
use Rattle.strip_model.specs.Twins.{twins_of}
use Rattle.label.proofs.side.Side.open_among.Goals as goal

pub returns : goal.returns
returns c = λ y.
    let J = c.args.self.now.instance in
    let inst : IsInstance J = subst (λ (S : Face). IsInstance S.instance) c.self.view_is c.self.invariant.face.instance in
    let are_paired : ArePaired J c.self.inside.paired = subst (λ (S : Face). ArePaired S.instance c.self.inside.paired) c.self.view_is c.self.invariant.are_paired in
    open_of_paired J c.args.visited c.self.inside.paired c.meet.result inst are_paired c.meet.ensures.members c.open.result c.self.inside.twins
    (c.self.invariant.of_strips ∙ ap (λ (S : Face). twins_of S.instance) c.self.view_is) c.open.ensures.members y
