use Rattle.std.proofs.Common.{◌∙◌, sym, subst}
use Rattle.board.specs.Passes.{BoardName, side_at}
use Rattle.label.specs.Labels.{IsLabelOf}
use Rattle.pool.proofs.Crews.{same_worker}
use Rattle.pool.proofs.worker.Worker.publish.Goals as goal

pub publish-requires-clause-label : goal.publish-requires-clause-label
publish-requires-clause-label g c =
    subst (λ (b : BoardName). IsLabelOf (side_at b c.args.label.now.end) c.args.label.now) (sym (λ i. (c.self.view_is i).board)) c.requires
