use Rattle.label_core.specs.CoreState.{path_of}
use Rattle.label_core.proofs.Retiring.{IsBrief-here, bound_here, cuts-told}
use Rattle.std.proofs.lemmas.Bool.{leb-true, le-leb}
use Rattle.strip_model.specs.Side.{face_of}
use Rattle.label_core.proofs.stepping.may_cut.Goals as goal

pub bound_of-requires : goal.bound_of-requires
bound_of-requires c =
    IsBrief-here c.side.result.now (face_of c.args.core.now.instance c.args.core.now.cut c.args.id.end) c.brief.result
    (path_of c.args.core.now.state c.args.id) c.side.ensures c.brief.ensures.path c.brief.ensures.brief

pub returns : goal.returns
returns c =
    let high = bound_here c.args.core.now.instance c.args.core.now.cut c.args.id.end c.side.result.now c.brief.result
    (path_of c.args.core.now.state c.args.id) c.bound_of.result c.side.ensures c.brief.ensures.path c.brief.ensures.brief c.bound_of.ensures in
    cuts-told c.args.core.now.instance c.args.core.now.state c.args.id c.bound_of.result c.gain.result _
    (c.is_live.ensures.0 c.if-not-is_live.false) high c.gain.ensures.value
    (λ t. leb-true c.bound_of.result c.gain.result t, λ le. le-leb c.bound_of.result c.gain.result le)
