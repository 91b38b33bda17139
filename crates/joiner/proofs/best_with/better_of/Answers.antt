use Rattle.std.proofs.Common.{Option, subst}
use Rattle.joiner.proofs.Parts.{IsBest-none, IsBest-counted}
use Rattle.joiner.specs.Pairs.{IsBest}
use Rattle.joiner.specs.declared.pair.Pair.{Pair}
use Rattle.joiner.proofs.best_with.better_of.Goals as goal

pub returns-in-None : goal.returns-in-None
returns-in-None c =
    λ J xs ys bs size first second.
    IsBest-none J xs ys bs c.args.floor c.args.best first (subst (λ (o : Option Pair). IsBest J ys bs c.args.floor o) c.in-None.is second)

pub returns-in-Some : goal.returns-in-Some
returns-in-Some c =
    λ J xs ys bs size first second.
    IsBest-counted J xs ys bs c.args.floor c.args.best c.offer.result c.args.start c.in-Some.pair c.counted_from.result size c.counted_from.ensures first
    (subst (λ (o : Option Pair). IsBest J ys bs c.args.floor o) c.in-Some.is second)
    c.offer.ensures.above c.offer.ensures.kept c.offer.ensures.covers c.offer.ensures.new
