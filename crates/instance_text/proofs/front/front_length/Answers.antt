use Rattle.std.proofs.Common.{◌<◌, length, refl, rules}
use Rattle.instance_text.proofs.Fronts.{no_end_yet, passes_line, finds_end}
use Rattle.instance_text.proofs.front.front_length.Goals as goal

pub loop-rest-init : goal.loop-rest-init
loop-rest-init c = no_end_yet c.args.bytes.now

pub returns-then-is_word : goal.returns-then-is_word
returns-then-is_word c =
    let some : 0 < length c.loop-rest.rest.now = search rules in
    finds_end c.args.bytes.now c.loop-rest.rest.now c.split_line.result.0.now c.split_line.result.1.now _ c.loop-rest.invariant some c.split_line.ensures.cut c.split_line.ensures.lines c.if-is_word.ensures.yes refl

pub loop-rest-preserved : goal.loop-rest-preserved
loop-rest-preserved c =
    let some : 0 < length c.loop-rest.rest.now = search rules in
    passes_line c.args.bytes.now c.loop-rest.rest.now c.split_line.result.0.now c.split_line.result.1.now c.loop-rest.invariant some c.split_line.ensures.cut c.split_line.ensures.lines c.if-is_word.ensures.no
