use Rattle.std.proofs.Common.{◌≡◌, ℕ, List, sym, ◌∙◌, ap, Option, Some}
use Rattle.std.specs.Option.{unwrap_or}
use Rattle.proof_log.proofs.OneBest.{one_best}
use Rattle.proof_log.proofs.OneLog.{one_log}
use Rattle.proof_log.proofs.Standing.{no_text_fault}
use Rattle.proof_log.specs.AnswerRefusal.{text_fault}
use Rattle.proof_log.specs.declared.refusal.LogCause.{LogCause}
use Rattle.proof_log.proofs.text_laws.log_text_laws.Goals as goal

one_refusal : (bytes : List ℕ) (m n : ℕ) (c d : LogCause) → text_fault bytes ≡ Some (m, c) → text_fault bytes ≡ Some (n, d) → (m ≡ n) × (c ≡ d)
one_refusal bytes m n c d first second =
    let same = sym first ∙ second in
    (ap (λ (found : Option (ℕ × LogCause)). (unwrap_or found (m, c)).0) same, ap (λ (found : Option (ℕ × LogCause)). (unwrap_or found (m, c)).1) same)

pub returns : goal.returns
returns c = record { one_log = one_log; none_refused = no_text_fault; one_refusal = one_refusal; one_best = one_best }
