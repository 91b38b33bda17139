use Rattle.std.proofs.Common.{◌+◌, ◌<◌, List, length, refl, sym, ◌∙◌, ap, subst, arith}
use Rattle.admission.proofs.AntichainStarts.{place-inside, antichain-entered, HasAntichainsUpTo-entered}
use Rattle.admission.proofs.Outlined.{brief_at, outline_at}
use Rattle.admission.proofs.Rows.{length-members, members-read, members-written}
use Rattle.admission.specs.Antichains.{members_of}
use Rattle.admission.specs.Contests.{last_at}
use Rattle.admission.specs.Gathering.{HasAntichainsUpTo}
use Rattle.antichain.specs.declared.member.Member.{Member}
use Rattle.label.specs.Outlines.{IsOutlineOf}
use Rattle.label.specs.declared.outline.Outline.{Outline}
use Rattle.label_core.specs.CoreState.{path_of}
use Rattle.strip_model.specs.Side.{face_of}
use Rattle.admission.proofs.Interrupted.{Gathers-thins}
use Rattle.admission.proofs.gathering.gather_label.Goals as goal

pub outline_of-outline-requires : goal.outline_of-outline-requires
outline_of-outline-requires c =
    brief_at c.side.result.now (face_of c.args.core.now.instance c.args.core.now.cut c.args.id.end) c.brief.result (path_of c.args.core.now.state c.args.id)
    c.side.ensures c.brief.ensures.path c.brief.ensures.brief

pub index_mut-requires : goal.index_mut-requires
index_mut-requires c =
    let outline : IsOutlineOf c.side.result.now c.outline_of-outline.result (path_of c.args.core.now.state c.args.id) =
    outline_at c.side.result.now (face_of c.args.core.now.instance c.args.core.now.cut c.args.id.end) c.brief.result c.outline_of-outline.result
    (path_of c.args.core.now.state c.args.id) c.side.ensures c.brief.ensures.path c.brief.ensures.brief c.outline_of-outline.ensures in
    let inside : c.from-last.result < length (members_of c.args.antichains.now.items) =
    place-inside c.args.core.now c.args.id (members_of c.args.antichains.now.items) c.side.result.now (path_of c.args.core.now.state c.args.id)
    c.outline_of-outline.result c.from-last.result c.gain.ensures.reached (c.is_live.ensures.0 c.if-not-is_live.false) c.side.ensures refl outline
    (c.from-last.ensures ∙ ap (λ (b : Outline). b.last) c.outline.view_is) c.requires.antichains in
    omega (arith, inside, length-members c.args.antichains.now.items, c.args.antichains.now.ok.0)

pub weigh-requires-clause-antichain : goal.weigh-requires-clause-antichain
weigh-requires-clause-antichain c =
    let outline : IsOutlineOf c.side.result.now c.outline_of-outline.result (path_of c.args.core.now.state c.args.id) =
    outline_at c.side.result.now (face_of c.args.core.now.instance c.args.core.now.cut c.args.id.end) c.brief.result c.outline_of-outline.result
    (path_of c.args.core.now.state c.args.id) c.side.ensures c.brief.ensures.path c.brief.ensures.brief c.outline_of-outline.ensures in
    let inside : c.from-last.result < length (members_of c.args.antichains.now.items) =
    place-inside c.args.core.now c.args.id (members_of c.args.antichains.now.items) c.side.result.now (path_of c.args.core.now.state c.args.id)
    c.outline_of-outline.result c.from-last.result c.gain.ensures.reached (c.is_live.ensures.0 c.if-not-is_live.false) c.side.ensures refl outline
    (c.from-last.ensures ∙ ap (λ (b : Outline). b.last) c.outline.view_is) c.requires.antichains in
    antichain-entered c.args.core.now c.args.id (members_of c.args.antichains.now.items) c.side.result.now (path_of c.args.core.now.state c.args.id)
    c.outline_of-outline.result c.from-last.result c.gain.ensures.reached (c.is_live.ensures.0 c.if-not-is_live.false) c.side.ensures refl outline
    (c.from-last.ensures ∙ ap (λ (b : Outline). b.last) c.outline.view_is) c.requires.antichains c.index_mut.result.now.members
    (members-read c.args.antichains.now.items c.from-last.result c.index_mut.result.now
    (omega (arith, inside, length-members c.args.antichains.now.items)) c.index_mut.ensures.value)

pub returns-clause-antichains : goal.returns-clause-antichains
returns-clause-antichains c =
    let outline : IsOutlineOf c.side.result.now c.outline_of-outline.result (path_of c.args.core.now.state c.args.id) =
    outline_at c.side.result.now (face_of c.args.core.now.instance c.args.core.now.cut c.args.id.end) c.brief.result c.outline_of-outline.result
    (path_of c.args.core.now.state c.args.id) c.side.ensures c.brief.ensures.path c.brief.ensures.brief c.outline_of-outline.ensures in
    subst (λ (antichains : List (List Member)). HasAntichainsUpTo c.weigh.new.core c.args.id.end c.args.id.bucket (c.args.id.index + 1) antichains)
    (sym (members-written c.args.antichains.now.items c.from-last.result c.weigh.new.antichain))
    (HasAntichainsUpTo-entered c.args.core.now c.args.id (members_of c.args.antichains.now.items) c.side.result.now (path_of c.args.core.now.state c.args.id)
    c.outline_of-outline.result c.from-last.result c.gain.ensures.reached (c.is_live.ensures.0 c.if-not-is_live.false) c.side.ensures refl outline
    (c.from-last.ensures ∙ ap (λ (b : Outline). b.last) c.outline.view_is) c.requires.antichains c.weigh.new.core c.weigh.new.antichain.members
    c.in_ok-weigh.ensures.contended)

pub returns-in_err-weigh-clause-gathers : goal.returns-in_err-weigh-clause-gathers
returns-in_err-weigh-clause-gathers c =
    Gathers-thins c.args.core.now c.weigh.new.core c.args.id.end (last_at c.args.core.now c.args.id) c.in_err-weigh.ensures.refused
