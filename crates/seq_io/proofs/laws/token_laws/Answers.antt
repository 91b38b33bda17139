use Rattle.seq_io.proofs.Spelled.{is_token-decimal, is_token-ratio}
use Rattle.seq_io.proofs.StrictText.{word_stands, number_stands, ratio_stands}
use Rattle.seq_io.proofs.laws.token_laws.Goals as goal

pub returns-clause-word : goal.returns-clause-word
returns-clause-word c = word_stands

pub returns-clause-number : goal.returns-clause-number
returns-clause-number c = number_stands

pub returns-clause-ratio : goal.returns-clause-ratio
returns-clause-ratio c = ratio_stands

pub returns-clause-number_token : goal.returns-clause-number_token
returns-clause-number_token c = is_token-decimal

pub returns-clause-ratio_token : goal.returns-clause-ratio_token
returns-clause-ratio_token c = is_token-ratio
