-- `check` accepts an instance followed by the answer of a log that is a proof.
use Rattle.std.proofs.Common.{◌≡◌, ℕ, ◌+◌, ◌≤◌, List, [], ◌∷◌, ◌++◌, length, take, drop, refl, sym, ap, subst, inl, inr, arith}
use Rattle.std.proofs.lemmas.Bool.{cases_Bool, cond-true, cond-false}
use Rattle.std.proofs.lemmas.List.{drop_at, length-append, length-take}
use Rattle.instance_text.proofs.TextFronts.{front_of_text, front_before, one_front}
use Rattle.instance_text.specs.LineEnds.{ends_with_LF, with_line_end}
use Rattle.instance_text.specs.Lines.{LF}
use Rattle.instance_text.specs.Text.{IsText, IsFront}
use Rattle.proof_log.proofs.OneLog.{one_log}
use Rattle.proof_log.specs.AnswerText.{IsLogText}
use Rattle.proof_log.specs.Rules.{IsProof}
use Rattle.proof_log.specs.declared.log.Log.{Log}
use Rattle.sequencer.proofs.AnswerLengths.{answer_size}
use Rattle.sequencer.proofs.FewMarks.{marks_few}
use Rattle.sequencer.proofs.SameLogs.{IsProof-same}
use Rattle.sequencer.specs.Checking.{IsAccepted, Checks, ChecksRest}
use Rattle.sequencer.specs.Solving.{IsAcceptedBehind}
use Rattle.sequencer.specs.Texts.{accepted_text}
use Rattle.sequencer.specs.declared.limits.TheConstants.{MAX_SOLVE_INPUT, MAX_CHECK_INPUT}
use Rattle.sequencer.specs.declared.status.Status.{Status}
use Rattle.sequencer.specs.declared.status.Status.TheVariants.{Done, Best, Usage, Refused, Rejected, ReadFault, WriteFault, Memory}
use Rattle.strip_model.specs.Optimal.{Optimal}
use Rattle.strip_model.specs.Orbit.{Orbit}
use Rattle.strip_model.specs.Plan.{gain_of}

-- an answer whose log is a proof isn't rejected
not_rejected : (J : Orbit) (rest answer : List ℕ) (log : Log) → IsLogText rest log → IsProof J log → ChecksRest J rest answer Rejected → ⊥
not_rejected J rest answer log said proof (inl none) = none.no_log log said
not_rejected J rest answer log said proof (inr broken) = broken.no_proof (IsProof-same J log broken.log (one_log rest log broken.log said broken.said) proof)

-- so `check` has no other answer behind the front of the instance
only_done : (bytes : List ℕ) (n : ℕ) (J : Orbit) (log : Log) → IsFront bytes n J → IsLogText (drop n bytes) log → IsProof J log
    → (answer : List ℕ) (status : Status) → Checks bytes answer status → status ≡ Done
only_done bytes n J log front said proof answer Done h = refl
only_done bytes n J log front said proof answer Refused h = absurd (h.no_front n J front)
only_done bytes n J log front said proof answer Rejected h =
    let one = one_front bytes h.front n h.instance J h.read front in
    absurd (not_rejected J (drop n bytes) answer log said proof
    (subst (λ (k : ℕ). ChecksRest J (drop k bytes) answer Rejected) one.0
    (subst (λ (I : Orbit). ChecksRest I (drop h.front bytes) answer Rejected) one.1 h.rest)))
only_done bytes n J log front said proof answer Best h = absurd h
only_done bytes n J log front said proof answer Usage h = absurd h
only_done bytes n J log front said proof answer ReadFault h = absurd h
only_done bytes n J log front said proof answer WriteFault h = absurd h
only_done bytes n J log front said proof answer Memory h = absurd h

-- LF at the end is one byte at most
line_end_size : (bytes : List ℕ) → length (with_line_end bytes) ≤ length bytes + 1
line_end_size bytes = elim (cases_Bool (ends_with_LF bytes)) [
  | inl ends ↦ omega (arith, ap (λ (bs : List ℕ). length bs) (cond-true (ends_with_LF bytes) bytes (bytes ++ LF ∷ []) ends))
  | inr lacks ↦
      omega (
        arith,
        ap (λ (bs : List ℕ). length bs) (cond-false (ends_with_LF bytes) bytes (bytes ++ LF ∷ []) lacks),
        length-append bytes (LF ∷ []),
      )
]

-- a front of an input of `solve`, and an answer, are together short enough for `check`
short_enough : (n : ℕ) (input text : List ℕ) → length text ≤ 600000000 → length input ≤ MAX_SOLVE_INPUT
    → length (with_line_end (take n input) ++ text) ≤ MAX_CHECK_INPUT
short_enough n input text short few =
    omega (
      arith,
      short,
      few,
      length-append (with_line_end (take n input)) text,
      line_end_size (take n input),
      length-take n input,
    )

pub accepted_behind : (J : Orbit) (input text : List ℕ) (log : Log) → IsText input J → IsLogText text log → IsProof J log → Optimal J log.plan.items
    → IsAcceptedBehind J input text (gain_of J log.plan.items)
accepted_behind J input text log read said proof optimal =
    let found = front_of_text input J read in
    let accepted : IsAccepted J text (accepted_text (gain_of J log.plan.items)) = record {
      log = log;
      said = said;
      proof = proof;
      optimal = optimal;
      written = refl;
    } in
    let rest : drop (length (with_line_end (take found.0 input))) (with_line_end (take found.0 input) ++ text) ≡ text =
    drop_at (with_line_end (take found.0 input)) text (length (with_line_end (take found.0 input))) refl in
    let whole : IsFront (with_line_end (take found.0 input) ++ text) (length (with_line_end (take found.0 input))) J =
    front_before (take found.0 input) text J found.1.text found.1.ends in
    record {
      front = found.0;
      is_front = found.1;
      fits = short_enough found.0 input text (answer_size text log said (marks_few J log proof));
      only =
          only_done (with_line_end (take found.0 input) ++ text) (length (with_line_end (take found.0 input))) J log whole
          (subst (λ (bytes : List ℕ). IsLogText bytes log) (sym rest) said) proof;
      accepted = record {
        instance = J;
        front = length (with_line_end (take found.0 input));
        read = whole;
        rest = subst (λ (bytes : List ℕ). IsAccepted J bytes (accepted_text (gain_of J log.plan.items))) (sym rest) accepted;
      };
    }
