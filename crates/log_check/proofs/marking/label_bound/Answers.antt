use Rattle.std.proofs.Common.{◌∙◌, ap}
use Rattle.log_check.proofs.ListedBriefs.{brief_at, bound_at}
use Rattle.log_check.specs.Reading.{Read, face_in}
use Rattle.proof_log.specs.Labels.{path_at}
use Rattle.log_check.proofs.marking.label_bound.Goals as goal

pub bound_of-requires : goal.bound_of-requires
bound_of-requires c =
    let r = c.args.listed.now in
    let same = c.side.ensures ∙ ap (λ (r : Read). face_in r c.args.end) c.reading.ensures in
    brief_at c.side.result.now (face_in r c.args.end) c.brief-brief.result (path_at r.log c.args.end c.args.a) same c.brief-brief.ensures.path c.brief-brief.ensures.brief

pub returns : goal.returns
returns c =
    let r = c.args.listed.now in
    let same = c.side.ensures ∙ ap (λ (r : Read). face_in r c.args.end) c.reading.ensures in
    bound_at c.side.result.now (face_in r c.args.end) c.brief-brief.result (path_at r.log c.args.end c.args.a) c.bound_of.result same
    c.brief-brief.ensures.path c.brief-brief.ensures.brief c.bound_of.ensures
