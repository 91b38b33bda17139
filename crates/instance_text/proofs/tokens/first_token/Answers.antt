use Rattle.instance_text.proofs.TokenLists.{first_token_none, first_token_some}
use Rattle.instance_text.proofs.tokens.first_token.Goals as goal

pub returns-then-end-eq0-clause-none : goal.returns-then-end-eq0-clause-none
returns-then-end-eq0-clause-none c =
    first_token_none c.args.line.now _ _ (rw c.start_of_token.ensures at c.unwrap_or.ensures) (rw c.end_of_token.ensures at c.unwrap_or-end.ensures) c.if-end-eq0.true

pub returns-else-end-eq0-clause-token : goal.returns-else-end-eq0-clause-token
returns-else-end-eq0-clause-token c =
    rw (c.split_at.ensures.front, c.split_at.ensures.back) (first_token_some c.args.line.now _ _ (rw c.start_of_token.ensures at c.unwrap_or.ensures) (rw c.end_of_token.ensures at c.unwrap_or-end.ensures) c.if-end-eq0.false)
