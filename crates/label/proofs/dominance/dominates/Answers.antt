use Rattle.label.proofs.BriefPaths.{IsBrief-label}
use Rattle.label.proofs.Outlines.{taken_over}
use Rattle.label.proofs.dominance.dominates.Goals as goal

pub brief_dominates-requires-clause-b : goal.brief_dominates-requires-clause-b
brief_dominates-requires-clause-b c =
    IsBrief-label c.args.side.now c.args.b.now c.brief.result c.requires.b (c.brief.ensures c.args.side.now c.requires.b)

pub brief_dominates-requires-clause-a : goal.brief_dominates-requires-clause-a
brief_dominates-requires-clause-a c =
    IsBrief-label c.args.side.now c.args.a.now c.brief-2.result c.requires.a (c.brief-2.ensures c.args.side.now c.requires.a)

pub returns-clause-value : goal.returns-clause-value
returns-clause-value c =
    let S = c.args.side.now in
    let b = c.requires.b in
    let a = c.requires.a in
    c.brief_dominates.ensures c.args.b.now.path.items c.args.a.now.path.items b.path a.path (c.brief.ensures S b) (c.brief-2.ensures S a)

pub returns-clause-completions : goal.returns-clause-completions
returns-clause-completions c = λ t rest h.
    let S = c.args.side.now in
    let b = c.requires.b in
    let a = c.requires.a in
    let path_b = c.args.b.now.path.items in
    let path_a = c.args.a.now.path.items in
    let decides = c.brief_dominates.ensures path_b path_a b.path a.path (c.brief.ensures S b) (c.brief-2.ensures S a) in
    taken_over S.instance c.instance.ensures.sound.instance path_b path_a rest b.path.in_time b.path.one_way (decides.0 t) h
