use Rattle.std.proofs.Common.{ℕ, List, Option, sym, subst}
use Rattle.stereo_twins.specs.Twins.{TwinsExist}
use Rattle.strip_model.proofs.TwinRules.{TwinsExist-twins_in, KeepsTwins-if_made}
use Rattle.strip_model.proofs.twin_lists.twin_map.Goals as goal

pub new-requires-clause-exist : goal.new-requires-clause-exist
new-requires-clause-exist c =
    subst (λ (twins : List (Option ℕ)). TwinsExist twins) (sym c.put_twins.ensures) (TwinsExist-twins_in c.args.strips.now c.requires.exist)

pub returns-clause-kept : goal.returns-clause-kept
returns-clause-kept c = KeepsTwins-if_made c.new.result c.args.strips.now _ _ c.put_twins.ensures c.put_requests.ensures c.new.ensures.sound c.new.ensures.requests
