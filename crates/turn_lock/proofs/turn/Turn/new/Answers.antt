use Rattle.std.proofs.Common.{◌≡◌, ◌∙◌, ◌∷◌, ◌++◌, [], List, Option, Some, ap, sym, subst}
use Rattle.atomic_table.specs.Table.{opening}
use Rattle.turn_lock.specs.Rule.{Keeps, first_view}
use Rattle.turn_lock.proofs.Ends.{opens}
use Rattle.turn_lock.proofs.turn.Turn.new.Goals as goal

pub new-requires : goal.new-requires
new-requires g c =
    let f = g.T.Chronicle.frame c.of-about.result.value in
    let items : c.push_reserved.new.self.items ≡ Some c.args.first ∷ [] = c.push_reserved.ensures.items ∙ ap (λ l. l ++ Some c.args.first ∷ []) c.in_ok-slots.ensures.items in
    subst (λ (l : List (Option g.row.T.Denot)). Keeps g.T.Chronicle.history g.T.Chronicle.frame f (opening (0 ∷ 0 ∷ []) l (first_view f))) (sym items)
    (opens g.T.Chronicle.history g.T.Chronicle.frame f c.args.first c.requires.empty (ap g.T.Chronicle.frame (sym c.of-about.ensures)))
