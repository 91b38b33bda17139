use Rattle.std.proofs.Common.{refl}
use Rattle.closer.proofs.Looks.{IsSearching-narrows}
use Rattle.closer.proofs.finishing.agenda_by.Goals as goal

pub returns-clause-searching : goal.returns-clause-searching
returns-clause-searching g c =
    IsSearching-narrows c.agenda_of.new.core c.in_ok-agenda.agenda
    (record { forward = c.in_ok-agenda.agenda.forward; backward = c.in_ok-agenda.agenda.backward; queue = c.narrow.new.queue }) refl refl
    c.in_ok-narrow.ensures c.in_ok-agenda.ensures.searching
