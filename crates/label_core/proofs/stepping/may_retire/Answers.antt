use Rattle.std.proofs.lemmas.Bool.{false≢true}
use Rattle.std.proofs.Common.{◌≡◌, sym, ◌∙◌, ap}
use Rattle.bucket.specs.declared.id.Id.{Id}
use Rattle.label_core.specs.CoreState.{path_of}
use Rattle.label_core.specs.Ids.{same_id}
use Rattle.label_core.proofs.Retiring.{brief_here, IsBrief-here, retires-told}
use Rattle.label_core.proofs.SameIds.{same_end-true, same_id_same}
use Rattle.strip_model.specs.Side.{face_of}
use Rattle.strip_model.specs.declared.end.End.{End}
use Rattle.label_core.proofs.stepping.may_retire.Goals as goal

pub brief_dominates-requires-clause-b : goal.brief_dominates-requires-clause-b
brief_dominates-requires-clause-b c =
    let one_side : c.args.by.end ≡ c.args.id.end =
    same_end-true c.args.by.end c.args.id.end (sym c.is_same_end.ensures ∙ c.if-not-is_same_end.false) in
    IsBrief-here c.side.result.now (face_of c.args.core.now.instance c.args.core.now.cut c.args.by.end) c.brief.result
    (path_of c.args.core.now.state c.args.by)
    (c.side.ensures ∙ ap (λ (e : End). face_of c.args.core.now.instance c.args.core.now.cut e) (sym one_side)) c.brief.ensures.path c.brief.ensures.brief

pub brief_dominates-requires-clause-a : goal.brief_dominates-requires-clause-a
brief_dominates-requires-clause-a c =
    IsBrief-here c.side.result.now (face_of c.args.core.now.instance c.args.core.now.cut c.args.id.end) c.brief-2.result
    (path_of c.args.core.now.state c.args.id) c.side.ensures c.brief-2.ensures.path c.brief-2.ensures.brief

pub returns : goal.returns
returns c =
    let one_side : c.args.by.end ≡ c.args.id.end =
    same_end-true c.args.by.end c.args.id.end (sym c.is_same_end.ensures ∙ c.if-not-is_same_end.false) in
    let over = brief_here c.side.result.now (face_of c.args.core.now.instance c.args.core.now.cut c.args.by.end) c.brief.result
    (path_of c.args.core.now.state c.args.by)
    (c.side.ensures ∙ ap (λ (e : End). face_of c.args.core.now.instance c.args.core.now.cut e) (sym one_side)) c.brief.ensures.path
    c.brief.ensures.brief in
    let under = brief_here c.side.result.now (face_of c.args.core.now.instance c.args.core.now.cut c.args.id.end) c.brief-2.result
    (path_of c.args.core.now.state c.args.id) c.side.ensures c.brief-2.ensures.path c.brief-2.ensures.brief in
    retires-told c.args.core.now.instance c.args.core.now.cut c.args.core.now.state c.args.id c.args.by c.side.result.now c.brief_dominates.result
    (c.is_live.ensures.0 c.if-not-is_live.false) (c.is_live-2.ensures.0 c.if-not-is_live-2.false) one_side
    (λ same.
    false≢true (sym c.if-are_same.false ∙ c.are_same.ensures ∙ ap (λ (x : Id). same_id c.args.id x) (sym same) ∙ same_id_same c.args.id))
    c.side.ensures
    (c.brief_dominates.ensures (path_of c.args.core.now.state c.args.by) (path_of c.args.core.now.state c.args.id) over.0 under.0 over.1 under.1)
