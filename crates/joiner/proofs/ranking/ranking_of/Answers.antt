use Rattle.std.proofs.Common.{ℕ, List, map, sym, subst, rules}
use Rattle.std.proofs.lemmas.List.{length-map}
use Rattle.std.proofs.lemmas.List.Sorted.{IsNonDecreasingBy-from_sort_by_key}
use Rattle.joiner.proofs.Represented.{IsRanking-sorted}
use Rattle.joiner.specs.Represented.{AreRanked}
use Rattle.joiner.specs.declared.ranked.Ranked.{Ranked}
use Rattle.label.specs.declared.label.Label.{Label}
use Rattle.joiner.proofs.ranking.ranking_of.Goals as goal

pub returns : goal.returns
returns c =
    let J = c.args.side.now.instance in
    let labels : List Label = map (λ l. l.now) c.args.forward.now in
    let before = c.in_ok-order.order.items in
    let order = c.sort_by_key.new.self.items in
    let P : ℕ → Type 0 = λ n. AreRanked J labels n before in
    IsRanking-sorted J labels before order (subst P (sym (length-map c.args.forward.now (λ l. l.now))) c.in_ok-order.ensures)
    c.in_ok-sort_by_key.ensures.permutation
    (IsNonDecreasingBy-from_sort_by_key (λ (r : Ranked). r.bound) order c.in_ok-sort_by_key.ensures.sorted (λ a r q k. search rules))
