use Rattle.strip_model.proofs.TableFor.{durations_within, table_made, table_shortcut}
use Rattle.strip_model.proofs.making.table_for.Goals as goal

pub new-requires-clause-durations : goal.new-requires-clause-durations
new-requires-clause-durations c = durations_within _ _ c.put_durations.ensures.durations c.requires.windows

pub returns-in-Ok-clause-shortcut : goal.returns-in-Ok-clause-shortcut
returns-in-Ok-clause-shortcut c =
    let made = table_made _ _ _ _ c.in-Ok.ensures.grid c.put_durations.ensures.durations in
    table_shortcut _ _ c.args.entries.now _ made c.put_durations.ensures.durations c.in-Ok.ensures.shortcut
