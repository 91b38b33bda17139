use Rattle.std.proofs.Common.{◌∙◌, Some, None, refl, subst, arith}
use Rattle.std.proofs.lemmas.List.Elements.{All-pop}
use Rattle.std.specs.List.{All}
use Rattle.label.specs.Labels.{IsLabelOf}
use Rattle.pool.proofs.Acted.{acts_self, acts_trans}
use Rattle.pool.proofs.LaneLabels.{as_lane}
use Rattle.strip_model.specs.Side.{Face}
use Rattle.pool.proofs.post.Post.extend_into.Goals as goal

pub returns-in_err-fresh-clause-acts : goal.returns-in_err-fresh-clause-acts
returns-in_err-fresh-clause-acts g c = acts_self c.args.self.now.board.now None c.args.pass.now c.args.tally.now.spare

pub loop-init : goal.loop-init
loop-init g c = (
  acts_self c.args.self.now.board.now None c.args.pass.now c.args.tally.now.spare,
  refl,
  subst (λ (S : Face). All (IsLabelOf S) c.in_ok-fresh.fresh.items) c.side.ensures c.in_ok-fresh.ensures,
  (let a = c.len-count.ensures in omega arith),
)

pub insert_into-requires-clause-label : goal.insert_into-requires-clause-label
insert_into-requires-clause-label g c =
    let Is = IsLabelOf c.args.lane.now.side in
    let each = All-pop Is c.loop.fresh.items c.pop.new.self.items (Some c.in-Some.label) c.in-Some.ensures.items c.loop.invariant.2 in
    as_lane (λ S. IsLabelOf S c.in-Some.label) c.loop.lane c.args.lane.now c.loop.invariant.1 each.1

pub returns-in_err-insert_into-clause-acts : goal.returns-in_err-insert_into-clause-acts
returns-in_err-insert_into-clause-acts g c =
    acts_trans c.args.self.now.board.now None c.args.pass.now c.loop.pass c.insert_into.new.pass c.args.tally.now.spare c.loop.tally.spare
    c.insert_into.new.tally.spare c.loop.invariant.0 c.insert_into.ensures.acts

pub loop-preserved : goal.loop-preserved
loop-preserved g c =
    let inv = c.loop.invariant in
    let Is = IsLabelOf c.args.lane.now.side in
    let each = All-pop Is c.loop.fresh.items c.pop.new.self.items (Some c.in-Some.label) c.in-Some.ensures.items inv.2 in (
      acts_trans c.args.self.now.board.now None c.args.pass.now c.loop.pass c.insert_into.new.pass c.args.tally.now.spare c.loop.tally.spare
          c.insert_into.new.tally.spare inv.0 c.insert_into.ensures.acts,
      c.insert_into.ensures.lane ∙ inv.1,
      each.0,
      (let a = c.in-Some.ensures.len in let d = inv.3 in omega arith),
    )
