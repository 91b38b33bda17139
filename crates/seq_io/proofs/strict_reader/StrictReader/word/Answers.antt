use Rattle.std.proofs.Common.{◌≡◌, true, not, take}
use Rattle.std.specs.Str.{bytes_eq}
use Rattle.seq_io.proofs.StrictText.{wrong_word}
use Rattle.seq_io.proofs.strict_reader.StrictReader.word.Goals as goal

pub returns-then-ne-clause-fault : goal.returns-then-ne-clause-fault
returns-then-ne-clause-fault c =
    let rest = c.self.inside.rest.now in
    let other : true ≡ not (bytes_eq (take c.token_end-end.result rest) c.args.word.now) = rw c.as_bytes.ensures.value at c.if-ne.ensures in
    rw (← c.self.view_is) (wrong_word c.args.word.now c.self.inside.more rest c.token_end-end.result c.if-not-self.false c.token_end-end.ensures.length other)
