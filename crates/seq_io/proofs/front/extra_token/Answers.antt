use Rattle.std.proofs.Common.{◌≢◌, ◌∙◌}
use Rattle.seq_io.specs.Front.{front_length}
use Rattle.seq_io.proofs.FrontTokens.{front_within}
use Rattle.seq_io.proofs.StrictText.{one_too_many}
use Rattle.seq_io.proofs.front.extra_token.Goals as goal

pub returns-else-token_end-eq0 : goal.returns-else-token_end-eq0
returns-else-token_end-eq0 c = λ after.
    let bytes = c.args.bytes.now in
    let some : front_length bytes ≢ 0 = λ none. c.if-token_end-eq0.false (c.token_end.ensures.length ∙ none) in
    one_too_many bytes after some (front_within bytes)
