use Rattle.std.proofs.Common.{◌∙◌}
use Rattle.std.proofs.lemmas.Result.{err_from_is_err_and}
use Rattle.instance_text.proofs.FrontLaws.{front_from_text, front_text}
use Rattle.instance_text.proofs.front.read_front.Goals as goal

pub returns-clause-front : goal.returns-clause-front
returns-clause-front c =
    front_from_text c.args.bytes.now c.front_length-n.result c.in_ok-instance.instance c.front_length-n.ensures c.in_ok-instance.ensures.text

pub returns-clause-only : goal.returns-clause-only
returns-clause-only c = λ n J front.
    let text = front_text c.args.bytes.now c.front_length-n.result n J c.front_length-n.ensures front in
    (c.in_ok-instance.ensures.only J text.1, text.0)

pub returns-in_err-instance-clause-only : goal.returns-in_err-instance-clause-only
returns-in_err-instance-clause-only c =
    let p = err_from_is_err_and c.from_residual.result c.from_residual.ensures.1 in
    λ n J front. rw p.1 (p.2 ∙ c.in_err-instance.ensures.only J (front_text c.args.bytes.now c.front_length-n.result n J c.front_length-n.ensures front).1)
