use Rattle.incumbent.proofs.Keeps.{begins, first_word}
use Rattle.incumbent.proofs.peak.Peak.new.Goals as goal

pub of_words-requires : goal.of_words-requires
of_words-requires g c = begins c.worth-worth.result

pub returns-clause-word : goal.returns-clause-word
returns-clause-word g c = first_word _ _ _ c.in_ok-table.ensures.4 c.worth-worth.ensures
