use Rattle.std.proofs.Common.{refl, arith, append_assoc}
use Rattle.std.proofs.lemmas.Grind.{common_steps, elements}
use Rattle.std.proofs.lemmas.List.{map_push}
use Rattle.std.proofs.lemmas.Result.{err_from_is_err_and}
use Rattle.instance_text.proofs.Repeats.{replicate_first}
use Rattle.instance_text.proofs.line_kinds.entries.Goals as goal

pub returns-in_err-up_to-clause-refused : goal.returns-in_err-up_to-clause-refused
returns-in_err-up_to-clause-refused c =
    let p = err_from_is_err_and c.from_residual.result c.from_residual.ensures.1 in
    rw (p.1, p.2) (λ more. rw (c.loop.invariant.passes more, replicate_first _ _ _ c.loop-test.true) (rw c.in_err-up_to.ensures.refused refl))

pub loop-preserved : goal.loop-preserved
loop-preserved c = record {
  passes = λ more. rw (c.loop.invariant.passes more, replicate_first _ _ _ c.loop-test.true) (rw c.in_ok-up_to.ensures.passes refl);
  tokens = rw (c.loop.invariant.tokens, c.in_ok-up_to.ensures.token, c.in_ok-push.ensures.items, map_push) (simp append_assoc);
  length = grind (arith, common_steps);
  limits = grind (arith, elements);
}
