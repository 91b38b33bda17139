use Rattle.std.proofs.Common.{◌∙◌}
use Rattle.incumbent.proofs.Keeps.{ends}
use Rattle.incumbent.proofs.peak.Peak.close.Goals as goal

pub returns-clause-seen : goal.returns-clause-seen
returns-clause-seen g c =
    let s = c.close_with.ensures.values.2 in
    (ends _ _ _ _ _ s.1.0 s.1.1 (c.args.share.weighs ∙ c.requires.whole) c.args.share.offers_its_plan).1

pub returns-clause-word : goal.returns-clause-word
returns-clause-word g c =
    let s = c.close_with.ensures.values.2 in
    (ends _ _ _ _ _ s.1.0 s.1.1 (c.args.share.weighs ∙ c.requires.whole) c.args.share.offers_its_plan).0
