use Rattle.std.proofs.Common.{Some, sym, subst, arith}
use Rattle.std.proofs.lemmas.List.Elements.{All-push, All-pop}
use Rattle.std.specs.List.{All}
use Rattle.label.specs.Labels.{IsLabelOf}
use Rattle.pool.proofs.lane.Lane.move_ready.Goals as goal

pub loop-preserved : goal.loop-preserved
loop-preserved c =
    let inv = c.loop.invariant in
    let Is = IsLabelOf c.loop.self-inside.side.now in
    let each = All-pop Is c.loop.self-inside.ready.items c.pop.new.self.items (Some c.in-Some.label) c.in-Some.ensures.items inv.4 in (
      inv.0,
      inv.1,
      inv.2,
      inv.3,
      each.0,
      subst (All Is) (sym c.in_ok-push.ensures.items) (All-push Is c.loop.labels.items c.in-Some.label inv.5 each.1),
      (let a = c.in-Some.ensures.len in let d = inv.6 in omega arith),
    )
