use Rattle.std.proofs.Common.{◌≡◌, arith, rules}
use Rattle.seq_io.proofs.Decimal.{IsUtf8-number, value-from_parse}
use Rattle.seq_io.proofs.number.value_of.Goals as goal

-- a number is a text
pub unwrap-text-requires : goal.unwrap-text-requires
unwrap-text-requires c = let text = IsUtf8-number c.args.token.now c.requires in grind (arith, c.from_utf8.ensures.cases)

-- and std reads its value
pub returns : goal.returns
returns c =
    let same : c.unwrap-text.result.now ≡ c.args.token.now = search rules in
    rw c.ok.ensures.value (value-from_parse c.args.token.now _ c.requires (rw same at c.parse.ensures.value.0))
