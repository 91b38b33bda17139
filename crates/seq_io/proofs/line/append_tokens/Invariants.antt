use Rattle.std.proofs.Common.{◌≡◌, ◌++◌, map, take}
use Rattle.std.specs.List.{flat_map}
use Rattle.seq_io.specs.Token.{bytes_of, ended}
use Rattle.seq_io.proofs.line.append_tokens.Given as goal

-- the tokens so far were appended
abbrev pub invariant-loop-token : goal.invariant-loop-token
invariant-loop-token l = l.out.items ≡ l.initial.out.items ++ flat_map ended (map bytes_of (take l.token-index l.tokens))
