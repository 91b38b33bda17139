use Rattle.std.proofs.Common.{◌∙◌, Some, None, arith}
use Rattle.std.proofs.lemmas.List.Elements.{All-pop}
use Rattle.label.specs.Labels.{IsLabelOf}
use Rattle.pool.proofs.Acted.{acts_self, acts_trans}
use Rattle.pool.proofs.LaneLabels.{as_lane}
use Rattle.pool.specs.declared.lane.Waiting.{Waiting}
use Rattle.pool.proofs.post.Post.ready.Goals as goal

pub loop-init : goal.loop-init
loop-init g c = (
  acts_self c.args.self.now.board.now None c.args.pass.now c.args.tally.now.spare,
  c.take_waiting-waiting.ensures.lane,
  c.take_waiting-waiting.ensures.labels,
  (let a = c.len-count.ensures in omega arith),
)

pub ready_one-requires-clause-board : goal.ready_one-requires-clause-board
ready_one-requires-clause-board g c = c.loop.invariant.0.works.grows.board ∙ c.requires.board

pub ready_one-requires-clause-label : goal.ready_one-requires-clause-label
ready_one-requires-clause-label g c =
    let Is : Waiting → Type 0 = λ w. IsLabelOf c.args.lane.now.side w.label in
    let each = All-pop Is c.loop.waiting.items c.pop.new.self.items (Some c.in-Some.one) c.in-Some.ensures.items c.loop.invariant.2 in
    as_lane (λ S. IsLabelOf S c.in-Some.one.label) c.loop.lane c.args.lane.now c.loop.invariant.1 each.1

pub returns-in_err-ready_one : goal.returns-in_err-ready_one
returns-in_err-ready_one g c = record {
  acts = acts_trans c.args.self.now.board.now None c.args.pass.now c.loop.pass c.ready_one.new.pass c.args.tally.now.spare c.loop.tally.spare
      c.ready_one.new.tally.spare c.loop.invariant.0 c.ready_one.ensures.acts;
  lane = c.ready_one.ensures.lane ∙ c.loop.invariant.1;
}

pub loop-preserved : goal.loop-preserved
loop-preserved g c =
    let inv = c.loop.invariant in
    let Is : Waiting → Type 0 = λ w. IsLabelOf c.args.lane.now.side w.label in
    let each = All-pop Is c.loop.waiting.items c.pop.new.self.items (Some c.in-Some.one) c.in-Some.ensures.items inv.2 in (
      acts_trans c.args.self.now.board.now None c.args.pass.now c.loop.pass c.ready_one.new.pass c.args.tally.now.spare c.loop.tally.spare
          c.ready_one.new.tally.spare inv.0 c.ready_one.ensures.acts,
      c.ready_one.ensures.lane ∙ inv.1,
      each.0,
      (let a = c.in-Some.ensures.len in let d = inv.3 in omega arith),
    )
