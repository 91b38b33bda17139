use Rattle.std.proofs.Common.{ℕ, List, take, ap, sym, ◌∙◌}
use Rattle.std.specs.Str.{bytes_eq}
use Rattle.seq_io.proofs.StrictText.{is_next_is}
use Rattle.seq_io.proofs.strict_reader.StrictReader.is_next.Goals as goal

pub returns-then-self : goal.returns-then-self
returns-then-self c =
    let rest = c.self.inside.rest.now in
    rw (← c.self.view_is) (c.eq.ensures
    ∙ ap (λ (word : List ℕ). bytes_eq (take c.token_end.result rest) word) c.as_bytes.ensures.value
    ∙ sym (is_next_is c.args.word.now c.self.inside.more rest c.token_end.result c.if-self.true c.token_end.ensures.length))
