use Rattle.std.proofs.Common.{◌<◌, ◌*◌, [], ◌∷◌, ◌++◌, length, None, arith, below_more}
use Rattle.board.specs.Passes.{side_at}
use Rattle.pool.proofs.Acted.{acts_self, acts_trans}
use Rattle.pool.proofs.SeenStill.{is_path_seen_still}
use Rattle.pool.proofs.Sides.{extends_within}
use Rattle.pool.specs.Seen.{IsPathSeen}
use Rattle.strip_model.specs.LabelPath.{LabelPath}
use Rattle.pool.proofs.post.Post.extend_all.Goals as goal

pub loop-y-init : goal.loop-y-init
loop-y-init g c = (
  acts_self c.args.self.now.board.now None c.args.pass.now c.args.tally.now.spare,
  cc,
  λ x small. absurd (omega arith),
)

pub returns-in_err-extend_by-clause-acts : goal.returns-in_err-extend_by-clause-acts
returns-in_err-extend_by-clause-acts g c =
    acts_trans c.args.self.now.board.now None c.args.pass.now c.loop-y.pass c.extend_by.new.pass c.args.tally.now.spare c.loop-y.tally.spare
    c.extend_by.new.tally.spare c.loop-y.invariant.0 c.extend_by.ensures.acts

pub loop-y-preserved : goal.loop-y-preserved
loop-y-preserved g c =
    let S = side_at c.args.self.now.board.now c.args.label.now.end in
    let end = c.args.label.now.end in
    let path = c.args.label.now.path.items in
    let q = c.extend_by.new.pass in (
      acts_trans c.args.self.now.board.now None c.args.pass.now c.loop-y.pass q c.args.tally.now.spare c.loop-y.tally.spare
          c.extend_by.new.tally.spare c.loop-y.invariant.0 c.extend_by.ensures.acts,
      c.loop-y.invariant.1,
      below_more (λ x. LabelPath S (path ++ x ∷ []) → IsPathSeen q end (path ++ x ∷ [])) c.loop-y.y
          (λ x small is. is_path_seen_still c.loop-y.pass q c.extend_by.ensures.acts.works.grows end (path ++ x ∷ []) (c.loop-y.invariant.2 x small is))
          c.in_ok-extend_by.ensures.extended,
    )

pub returns-clause-extended : goal.returns-clause-extended
returns-clause-extended g c = λ y is.
    let within : y < 2 * length (side_at c.args.self.now.board.now c.args.label.now.end).instance.strips =
    extends_within (side_at c.args.self.now.board.now c.args.label.now.end) c.args.label.now.path.items y is in
    c.loop-y.invariant.2 y (omega arith) is
