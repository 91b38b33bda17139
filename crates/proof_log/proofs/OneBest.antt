-- The text of an answer without a proof is that of one, and no log's.
use Rattle.std.proofs.Common.{◌≡◌, ℕ, ◌<◌, ◌^◌, List, [], ◌∷◌, ◌++◌, codes, length, map, drop, get_or, All, refl, sym, ◌∙◌, ap, arith, Some}
use Rattle.std.specs.List.{flat_map}
use Rattle.std.proofs.lemmas.List.{append-nil}
use Rattle.std.proofs.lemmas.List.Elements.{All-head, All-tail}
use Rattle.plan_check.specs.PlanText.{acquisition_line, IsAcquisitionInText, IsPlanInText}
use Rattle.proof_log.proofs.OneLog.{same_lines, same_gain, same_number_line, same_plan}
use Rattle.proof_log.proofs.Standing.{AreLines}
use Rattle.proof_log.specs.AnswerText.{number_line, best_lines, IsBestText}
use Rattle.proof_log.specs.declared.limits.TheConstants.{GAIN_UNIT}
use Rattle.seq_io.proofs.Spelled.{is_token-decimal, is_token-ratio}
use Rattle.seq_io.specs.StrictText.{AreTokens}
use Rattle.strip_model.specs.Directed.{strip_of, direction_of}
use Rattle.strip_model.specs.declared.acquisition.Acquisition.{Acquisition}

-- its lines are of tokens
acquisition_of_tokens : (a : Acquisition) → IsAcquisitionInText a → AreTokens (acquisition_line a)
acquisition_of_tokens a h = (
  is_token-decimal a.start (omega (arith, h.start)),
  (is_token-decimal (strip_of a.at) (omega (arith, h.strip)), (is_token-decimal (direction_of a.at) (omega arith), tt)),
)

labels_of_tokens : (labels : ℕ) → labels < 2 ^ 64 → AreTokens (number_line (codes "labels") labels)
labels_of_tokens labels fit = (refl, (is_token-decimal labels fit, tt))

plan_of_tokens : (plan : List Acquisition) (labels : ℕ) → All IsAcquisitionInText plan → labels < 2 ^ 64
    → AreLines (map acquisition_line plan ++ number_line (codes "labels") labels ∷ [])
plan_of_tokens [] labels h fit = (labels_of_tokens labels fit, tt)
plan_of_tokens (a ∷ plan) labels h fit =
    let I : Acquisition → Type 0 = λ a. IsAcquisitionInText a in
    (acquisition_of_tokens a (All-head I a plan h), plan_of_tokens plan labels (All-tail I a plan h) fit)

best_of_tokens : (gain : ℕ) (plan : List Acquisition) (labels : ℕ) → gain < 2 ^ 64 → IsPlanInText plan → labels < 2 ^ 64 → AreLines (best_lines gain plan labels)
best_of_tokens gain plan labels gain_fits in_range labels_fit =
    let count = is_token-decimal (length plan) (omega (arith, in_range.few)) in
    let unit = is_token-ratio gain GAIN_UNIT gain_fits (omega arith) in
    ((refl, tt), ((refl, (unit, tt)), ((refl, (count, tt)), plan_of_tokens plan labels in_range.each labels_fit)))

pub one_best : (bytes : List ℕ) (gain more : ℕ) (plan other : List Acquisition) (labels others : ℕ) → IsBestText bytes gain plan labels → IsBestText bytes more other others
    → (gain ≡ more) × (plan ≡ other) × (labels ≡ others)
one_best bytes gain more plan other labels others h k =
    let lines = same_lines (best_lines gain plan labels) (best_lines more other others) (best_of_tokens gain plan labels h.gain_fits h.in_range h.labels_fit)
    (best_of_tokens more other others k.gain_fits k.in_range k.labels_fit) (sym h.spelling ∙ k.spelling) in
    let gains = same_gain gain more h.gain_fits k.gain_fits (ap (λ (lines : List (List (List ℕ))). get_or lines 1 []) lines) in
    let counts = same_number_line (codes "strips") (length plan) (length other) (omega (arith, h.in_range.few)) (omega (arith, k.in_range.few))
    (ap (λ (lines : List (List (List ℕ))). get_or lines 2 []) lines) in
    let last = λ (labels : ℕ). number_line (codes "labels") labels ∷ [] in
    let plans = same_plan plan other (last labels) (last others) counts h.in_range.each k.in_range.each (ap (λ (lines : List (List (List ℕ))). drop 3 lines) lines) in
    (gains, plans.0, same_number_line (codes "labels") labels others h.labels_fit k.labels_fit (ap (λ (lines : List (List (List ℕ))). get_or lines 0 []) plans.1))
