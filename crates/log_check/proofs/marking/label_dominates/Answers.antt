use Rattle.std.proofs.Common.{◌∙◌, ap}
use Rattle.log_check.proofs.ListedBriefs.{brief_at, dominates_at}
use Rattle.log_check.specs.Reading.{Read, face_in}
use Rattle.proof_log.specs.Labels.{path_at}
use Rattle.log_check.proofs.marking.label_dominates.Goals as goal

pub brief_dominates-requires-clause-b : goal.brief_dominates-requires-clause-b
brief_dominates-requires-clause-b c =
    let r = c.args.listed.now in
    let same = c.side.ensures ∙ ap (λ (r : Read). face_in r c.args.end) c.reading.ensures in
    brief_at c.side.result.now (face_in r c.args.end) c.brief-b.result (path_at r.log c.args.end c.args.b) same c.brief-b.ensures.path c.brief-b.ensures.brief

pub brief_dominates-requires-clause-a : goal.brief_dominates-requires-clause-a
brief_dominates-requires-clause-a c =
    let r = c.args.listed.now in
    let same = c.side.ensures ∙ ap (λ (r : Read). face_in r c.args.end) c.reading.ensures in
    brief_at c.side.result.now (face_in r c.args.end) c.brief-a.result (path_at r.log c.args.end c.args.a) same c.brief-a.ensures.path c.brief-a.ensures.brief

pub returns : goal.returns
returns c =
    let r = c.args.listed.now in
    let e = c.args.end in
    let same = c.side.ensures ∙ ap (λ (r : Read). face_in r c.args.end) c.reading.ensures in
    dominates_at c.side.result.now (face_in r e) c.brief-b.result c.brief-a.result (path_at r.log e c.args.b) (path_at r.log e c.args.a) c.brief_dominates.result
    same c.brief-b.ensures.path c.brief-a.ensures.path c.brief-b.ensures.brief c.brief-a.ensures.brief c.brief_dominates.ensures
