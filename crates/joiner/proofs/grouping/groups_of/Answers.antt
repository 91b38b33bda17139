use Rattle.std.proofs.Common.{ℕ, [], ◌∷◌, arith}
use Rattle.std.proofs.lemmas.List.{length-append}
use Rattle.joiner.proofs.Pushing.{pushed_each}
use Rattle.joiner.specs.Entries.{IsGroup}
use Rattle.joiner.specs.Grouping.{IsGathered}
use Rattle.joiner.specs.declared.group.Group.{Group}
use Rattle.joiner.proofs.grouping.groups_of.Goals as goal

pub loop-y-preserved : goal.loop-y-preserved
loop-y-preserved c =
    let J = c.args.instance.now in
    let es = c.args.entries.now in
    let gs = c.loop-y.groups.items in
    let g = c.in_ok-group_of.field-0 in
    let y = c.loop-y.y in
    let so_far = c.loop-y.invariant in
    rw c.in_ok-push.ensures.items
    (record {
      size = omega (arith, length-append gs (g ∷ []), so_far.size);
      each = pushed_each (IsGroup J) gs y g so_far.size so_far.each c.in_ok-group_of.ensures.group;
      gathered = pushed_each (λ (y : ℕ) (g : Group). IsGathered es y g.waiting.items) gs y g so_far.size so_far.gathered c.in_ok-group_of.ensures.gathered;
    })
