use Rattle.std.proofs.Common.{sym, ◌∙◌}
use Rattle.joiner.proofs.Needed.{IsNeeding-start, IsNeeding-takes, IsNeeding-skips}
use Rattle.strip_model.proofs.Words.{has_head}
use Rattle.joiner.proofs.waiting.needs_of.Goals as goal

pub loop-x-init : goal.loop-x-init
loop-x-init c =
    IsNeeding-start c.args.instance.now c.args.lone c.into_iter-x-iterator.result c.empty-needs.result
    (c.into_iter-x-iterator.ensures.into_iter_gives ∙ c.iter-x-items.ensures.rest) c.empty-needs.ensures

pub partner-requires : goal.partner-requires
partner-requires c =
    let so_far = rw c.in-Some.ensures.steps at c.loop-x.invariant in
    c.requires c.in-Some.x (so_far.inside c.in-Some.x (has_head c.in-Some.x c.next.new.self))

pub loop-x-preserved-in-Some-partner : goal.loop-x-preserved-in-Some-partner
loop-x-preserved-in-Some-partner c =
    let so_far = rw c.in-Some.ensures.steps at c.loop-x.invariant in
    IsNeeding-takes c.args.instance.now c.args.lone c.next.new.self c.loop-x.needs c.with-needs.result c.in-Some.x c.in-Some-partner.twin so_far
    (sym c.in-Some-partner.ensures.value) c.with-needs.ensures

pub loop-x-preserved : goal.loop-x-preserved
loop-x-preserved c =
    let so_far = rw c.in-Some.ensures.steps at c.loop-x.invariant in
    IsNeeding-skips c.args.instance.now c.args.lone c.next.new.self c.loop-x.needs c.in-Some.x so_far
    (sym c.partner.ensures.value ∙ c.in_default.is)
