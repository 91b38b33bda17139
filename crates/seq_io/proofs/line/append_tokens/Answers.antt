use Rattle.seq_io.proofs.Lines.{Grew-append}
use Rattle.seq_io.proofs.line.append_tokens.Goals as goal

pub returns-in_err-put_ended-clause-grew : goal.returns-in_err-put_ended-clause-grew
returns-in_err-put_ended-clause-grew c = Grew-append _ _ _ _ c.loop-token.invariant c.put_ended.ensures.grew
