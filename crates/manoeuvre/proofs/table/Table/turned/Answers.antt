use Rattle.std.proofs.Common.{sym, ◌∙◌, subst}
use Rattle.manoeuvre.proofs.TurnedTables.{turned_more, turned_whole, IsTable-turned}
use Rattle.manoeuvre.specs.Grid.{Grid, IsTable}
use Rattle.manoeuvre.proofs.table.Table.turned.Goals as goal

pub loop-place-preserved : goal.loop-place-preserved
loop-place-preserved c =
    turned_more c.args.self.now c.from-size.result c.loop-place.place c.between.result c.loop-place.entries.items c.push.new.self.items
    (c.from-size.ensures ∙ c.size.ensures.size) c.between.ensures.entry c.loop-place.invariant c.in_ok-push.ensures.items

pub returns-clause-value : goal.returns-clause-value
returns-clause-value c =
    turned_whole c.args.self.now c.size-2.result c.from-size.result c.loop-place.place c.loop-place.entries.items
    c.size-2.ensures.size (c.from-size.ensures ∙ c.size.ensures.size) c.loop-place-test.false c.loop-place.auto.place-end c.loop-place.invariant

pub invariant_of-result : goal.invariant_of-result
invariant_of-result c =
    subst (λ (g : Grid). IsTable g) (sym (returns-clause-value c)) (IsTable-turned c.args.self.now c.size.ensures.table)

pub returns-clause-table : goal.returns-clause-table
returns-clause-table c = invariant_of-result c
