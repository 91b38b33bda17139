use Rattle.std.proofs.Common.{◌∙◌, None, refl}
use Rattle.pool.proofs.Acted.{acts_self, acts_trans}
use Rattle.pool.proofs.post.Post.plant_into.Goals as goal
use Rattle.pool.proofs.post.Post.plant_into.Goals.{then-y-count+in_ok-plant_one, else-y-count}

pub loop-turn-init : goal.loop-turn-init
loop-turn-init g c = (acts_self c.args.self.now.board.now None c.args.pass.now c.args.tally.now.spare, refl, cc)

pub returns-in_err-plant_one-clause-acts : goal.returns-in_err-plant_one-clause-acts
returns-in_err-plant_one-clause-acts g c =
    acts_trans c.args.self.now.board.now None c.args.pass.now c.loop-turn.pass c.plant_one.new.pass c.args.tally.now.spare c.loop-turn.tally.spare
    c.plant_one.new.tally.spare c.loop-turn.invariant.0 c.plant_one.ensures.acts

pub loop-turn-preserved : goal.loop-turn-preserved
loop-turn-preserved g c = elim c.if-y-count.branch [
  | then-y-count+in_ok-plant_one w ↦ rw (w.pass-is, w.tally-is, w.lane-is) (
    acts_trans c.args.self.now.board.now None c.args.pass.now c.loop-turn.pass w.plant_one.new.pass c.args.tally.now.spare c.loop-turn.tally.spare
        w.plant_one.new.tally.spare c.loop-turn.invariant.0 w.plant_one.ensures.acts,
    w.plant_one.ensures.lane ∙ c.loop-turn.invariant.1,
    c.loop-turn.invariant.2,
  )
  | else-y-count w ↦ rw (w.pass-is, w.tally-is, w.lane-is) c.loop-turn.invariant
]

pub returns-after-y-count-clause-acts : goal.returns-after-y-count-clause-acts
returns-after-y-count-clause-acts g c = elim c.if-y-count.branch [
  | then-y-count+in_ok-plant_one w ↦ rw (w.pass-is, w.tally-is) (
      acts_trans c.args.self.now.board.now None c.args.pass.now c.loop-turn.pass w.plant_one.new.pass c.args.tally.now.spare c.loop-turn.tally.spare
      w.plant_one.new.tally.spare c.loop-turn.invariant.0 w.plant_one.ensures.acts
      )
  | else-y-count w ↦ rw (w.pass-is, w.tally-is) c.loop-turn.invariant.0
]
