use Rattle.std.proofs.Common.{sym, ◌∙◌}
use Rattle.std.proofs.lemmas.Bool.{and_parts}
use Rattle.label.proofs.BriefPaths.{brief_exist}
use Rattle.label.proofs.Members.{is_open-same}
use Rattle.strip_model.proofs.TwinWords.{is_need-needs}
use Rattle.strip_model.specs.Directed.{has}
use Rattle.strip_model.specs.Reach.{lacks_twin}
use Rattle.label.proofs.needing.needs_of.Goals as goal

pub open_among-requires : goal.open_among-requires
open_among-requires c = brief_exist c.args.side.now c.args.brief.now c.requires

pub twins_of-requires : goal.twins_of-requires
twins_of-requires c = λ y there.
    let J = c.args.side.now.instance in
    let visited = c.args.brief.now.visited in
    brief_exist c.args.side.now c.args.brief.now c.requires y
    (and_parts (has y visited) (lacks_twin J visited y) (sym (c.open_among.ensures y) ∙ there)).0

pub returns : goal.returns
returns c = λ path h z.
    let J = c.args.side.now.instance in
    c.twins_of.ensures z
    ∙ is_need-needs J path c.open_among.result (λ y. c.open_among.ensures y ∙ is_open-same J c.args.brief.now.visited path h.visited y) z
