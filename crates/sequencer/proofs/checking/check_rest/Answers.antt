use Rattle.std.proofs.Common.{ℕ, ap, ◌∙◌, inr}
use Rattle.sequencer.specs.Texts.{accepted_text, rule_text}
use Rattle.sequencer.proofs.checking.check_rest.Goals as goal

pub returns-in-Accepted : goal.returns-in-Accepted
returns-in-Accepted c = record {
  log = c.in-Ok.log;
  said = c.in-Ok.ensures.text;
  proof = c.in_ok-check.ensures.accepted.0 c.in-Accepted.is;
  optimal = c.in_ok-check.ensures.optimal c.in-Accepted.is;
  written = c.in_ok-accepted_text-in-Accepted.ensures ∙ ap accepted_text (c.in_ok-check.ensures.gain c.in-Accepted.is);
}

pub returns : goal.returns
returns c =
    let at = c.in-Rejected.at in
    let fault = c.in_ok-check.ensures.rejected c.in-Rejected.rule at c.in-Rejected.is in
    inr (record {
      log = c.in-Ok.log;
      said = c.in-Ok.ensures.text;
      rule = fault.0;
      place = at;
      first = fault.2;
      no_proof = λ proof. let accepted = c.in_ok-check.ensures.accepted.1 proof in let rejected = c.in-Rejected.is in cc;
      written = c.in_ok-rule_text-in-Rejected.ensures ∙ ap (λ (rule : ℕ). rule_text rule at) fault.1;
    })
