use Rattle.std.proofs.Common.{◌≡◌, ◌++◌, length, map, decimal, arith}
use Rattle.seq_io.specs.Grew.{Grew}
use Rattle.seq_io.specs.Token.{bytes_of}
use Rattle.seq_io.proofs.Lines.{Grew-append, joined_tokens, ended_line}
use Rattle.seq_io.proofs.line.append_line.Goals as goal

pub returns-clause-ok : goal.returns-clause-ok
returns-clause-ok g c =
    let run = c.in_ok-append_numbers.ensures.ok in
    let old = c.args.out.now.items in
    let tokens = map bytes_of c.args.first.now ++ map decimal run.0.items in
    let all = joined_tokens old _ _ (map bytes_of c.args.first.now) (map decimal run.0.items) c.in_ok-append_tokens.ensures.ok run.3 in
    let start : length old ≡ c.len-start.result = omega arith in
    let joined = c.drop_last_blank.ensures.joined old tokens start all in
    (run.0, run.1, run.2, ended_line old _ _ tokens joined c.in_ok-push.ensures.items)

pub returns-clause-grew : goal.returns-clause-grew
returns-clause-grew g c =
    let e = (returns-clause-ok g c).3 in
    (_, e)

pub returns-in_err-push-clause-grew : goal.returns-in_err-push-clause-grew
returns-in_err-push-clause-grew g c =
    let old = c.args.out.now.items in
    let grew : Grew old c.append_numbers.new.out.items = Grew-append old _ _ _ c.in_ok-append_tokens.ensures.ok c.append_numbers.ensures.grew in
    let start : length old ≡ c.len-start.result = omega arith in
    let cut = c.drop_last_blank.ensures.grew old start grew in
    rw c.in_err-push.ensures.items cut
