-- One label through all marks: what completes a label to a feasible order also completes one that no mark marks, unless it
-- gains no more than the log.
use Rattle.std.proofs.Common.{◌≡◌, ◌≢◌, ℕ, ◌<◌, ◌≤◌, ◌⊎◌, true, false, ◌&&◌, ◌==◌, List, [], ◌∷◌, ◌++◌, length, take, slice_get, Some, refl, sym, ◌∙◌, subst, inl, inr, le_trans, append_assoc, append-nil, true≢false}
use Rattle.std.proofs.Math.Seq.{take-append_seam}
use Rattle.std.proofs.lemmas.Bool.{cases_Bool, or_from, eqb-true, ne_eqb}
use Rattle.std.proofs.lemmas.List.Folds.{list_any-append}
use Rattle.proof_log.specs.Labels.{same_end, paths_in, path_at, is_mark_of, is_marked, Stands}
use Rattle.proof_log.specs.Rules.{NamesLabels, MayRetire, KeepsRetireRule, MayCut, KeepsCutRule, IsProof}
use Rattle.proof_log.specs.declared.log.Log.{Log}
use Rattle.proof_log.specs.declared.mark.Mark.{Mark}
use Rattle.proof_log.specs.declared.mark.Mark.TheVariants.{Retire, Cut}
use Rattle.strip_model.proofs.Completing.{completion_bounded}
use Rattle.strip_model.proofs.TakingOver.{TakesOver, dominator_takes_over}
use Rattle.strip_model.specs.IsInstance.{IsInstance}
use Rattle.strip_model.specs.Orbit.{Orbit}
use Rattle.strip_model.specs.Side.{facing}
use Rattle.strip_model.specs.declared.end.End.{End}
use Rattle.strip_model.specs.declared.end.End.TheVariants.{Forward, Backward}

-- ---- one mark

-- a mark of a label is of its end and names its number
of_label : (f e : End) (n k : ℕ) → (same_end f e && n == k) ≡ true → (f ≡ e) × (n ≡ k)
of_label Forward Forward n k h = (refl, eqb-true n k h)
of_label Backward Backward n k h = (refl, eqb-true n k h)
of_label Forward Backward n k h = absurd (true≢false (sym h))
of_label Backward Forward n k h = absurd (true≢false (sym h))

-- a mark of another label of the same end is none of this one
of_other : (e : End) (n k : ℕ) → n ≢ k → (same_end e e && n == k) ≡ false
of_other Forward n k other = ne_eqb n k other
of_other Backward n k other = ne_eqb n k other

-- a label that isn't marked isn't so with one more mark that isn't its own
unmarked-push : (e : End) (k : ℕ) (earlier : List Mark) (m : Mark) → is_marked e k earlier ≡ false → is_mark_of e k m ≡ false
    → is_marked e k (earlier ++ m ∷ []) ≡ false
unmarked-push e k earlier m unmarked other =
    list_any-append (is_mark_of e k) earlier (m ∷ [])
    ∙ or_from (is_marked e k earlier) (is_marked e k (m ∷ [])) unmarked (or_from (is_mark_of e k m) false other refl)

-- a mark behind earlier ones: the labels that it names are there, and it keeps the rule on retirements and that on cuts
record IsRight (I : Orbit) (log : Log) (earlier : List Mark) (m : Mark) : Type 0 where
  there : NamesLabels log m
  retires : KeepsRetireRule I log earlier m
  cuts : KeepsCutRule I log earlier m

slice_get-seam : (earlier later : List Mark) (m : Mark) → slice_get (earlier ++ m ∷ later) (length earlier) ≡ Some m
slice_get-seam [] later m = refl
slice_get-seam (x ∷ earlier) later m = slice_get-seam earlier later m

-- each mark of a log that keeps the rules is so behind those that stand before it
IsRight-mark : (I : Orbit) (log : Log) → IsProof I log → (earlier later : List Mark) (m : Mark) → earlier ++ m ∷ later ≡ log.marks.items
    → IsRight I log earlier m
IsRight-mark I log proof earlier later m split =
    let n = length earlier in
    let at = subst (λ (marks : List Mark). slice_get marks n ≡ Some m) split (slice_get-seam earlier later m) in
    let front = subst (λ (marks : List Mark). take n marks ≡ earlier) split (take-append_seam earlier (m ∷ later)) in
    record {
      there = proof.there n m at;
      retires = subst (λ (marks : List Mark). KeepsRetireRule I log marks m) front (proof.retired n m at);
      cuts = subst (λ (marks : List Mark). KeepsCutRule I log marks m) front (proof.cut_off n m at);
    }

-- ---- a label and what completes it

-- label a is there, and its path and then the rest is a feasible order that gains at least so much
abbrev pub IsCompleted : Orbit → Log → End → List ℕ → ℕ → ℕ → Type 0
IsCompleted I log e rest least a = (a < length (paths_in log e)) × TakesOver (facing I e) (path_at log e a) rest least

-- What is settled of a rest: it gains no more than the log, or it completes a path that stands to a feasible order that gains
-- at least so much.
abbrev pub IsSettled : Orbit → Log → End → List ℕ → ℕ → Type 0
IsSettled I log e rest least = (least ≤ log.gain) ⊎ ((path : List ℕ) × Stands log e path × TakesOver (facing I e) path rest least)

module _ (I : Orbit) (log : Log) (proof : IsProof I log) (e : End) (inst : IsInstance (facing I e)) (rest : List ℕ) (least : ℕ) where
  -- the rest completes a label that these marks don't mark
  abbrev GoesOn : List Mark → Type 0
  GoesOn marks = (a : ℕ) × (is_marked e a marks ≡ false) × IsCompleted I log e rest least a

  -- what completes a label that may be cut gains no more than the log
  bounded_by_cut : (earlier : List Mark) (a : ℕ) → MayCut I log earlier e a → IsCompleted I log e rest least a → least ≤ log.gain
  bounded_by_cut earlier a may completed =
      le_trans completed.1.gains
      (le_trans (completion_bounded (facing I e) inst (path_at log e a) rest completed.1.feasible) may.bounded)

  -- what completes a label that may be retired completes the one that dominates it
  IsCompleted-dominator : (earlier : List Mark) (a b : ℕ) → MayRetire I log earlier e a b → b < length (paths_in log e)
      → IsCompleted I log e rest least a → IsCompleted I log e rest least b
  IsCompleted-dominator earlier a b may there completed =
      let dominator = proof.labels e b there in
      let taken = dominator_takes_over (facing I e) inst (path_at log e b) (path_at log e a) rest dominator.in_time dominator.one_way
      may.dominated completed.1.feasible in
      (there, record { feasible = taken.feasible; gains = le_trans completed.1.gains taken.gains })

  -- one mark: another label's changes nothing, a cut bounds what the rest gains, and a retirement goes on with the label that
  -- dominates
  settle_one : (earlier : List Mark) (m : Mark) → IsRight I log earlier m → (a : ℕ) → is_marked e a earlier ≡ false
      → IsCompleted I log e rest least a → (least ≤ log.gain) ⊎ GoesOn (earlier ++ m ∷ [])
  settle_one earlier (Cut f n) right a unmarked completed =
      elim (cases_Bool (is_mark_of e a (Cut f n))) [
        | inr other ↦ inr (a, unmarked-push e a earlier (Cut f n) unmarked other, completed)
        | inl own ↦
            let is = of_label f e n a own in
            let of_end = subst (λ (g : End). MayCut I log earlier g n) is.0 right.cuts in
            inl (bounded_by_cut earlier a (subst (λ (k : ℕ). MayCut I log earlier e k) is.1 of_end) completed)
      ]
  settle_one earlier (Retire f n b) right a unmarked completed =
      elim (cases_Bool (is_mark_of e a (Retire f n b))) [
        | inr other ↦ inr (a, unmarked-push e a earlier (Retire f n b) unmarked other, completed)
        | inl own ↦
            let is = of_label f e n a own in
            let of_end = subst (λ (g : End). MayRetire I log earlier g n b) is.0 right.retires in
            let may = subst (λ (k : ℕ). MayRetire I log earlier e k b) is.1 of_end in
            let there = subst (λ (g : End). b < length (paths_in log g)) is.0 right.there.1 in
            let other : is_mark_of e b (Retire f n b) ≡ false =
            subst (λ (g : End). (same_end g e && n == b) ≡ false) (sym is.0) (of_other e n b (λ same. may.differ (sym is.1 ∙ same))) in
            inr (b, unmarked-push e b earlier (Retire f n b) may.by_unmarked other, IsCompleted-dominator earlier a b may there completed)
      ]

  -- A label that the earlier marks don't mark is settled by the marks still to come: at the end the label, or the last of those
  -- that took over, stands.
  pub settle : (later earlier : List Mark) → earlier ++ later ≡ log.marks.items → (a : ℕ) → is_marked e a earlier ≡ false
      → IsCompleted I log e rest least a → IsSettled I log e rest least
  settle [] earlier split a unmarked completed =
      let all = subst (λ (marks : List Mark). is_marked e a marks ≡ false) (sym (append-nil earlier) ∙ split) unmarked in
      inr (path_at log e a, inr (a, completed.0, refl, all), completed.1)
  settle (m ∷ later) earlier split a unmarked completed =
      elim (settle_one earlier m (IsRight-mark I log proof earlier later m split) a unmarked completed) [
        | inl bounded ↦ inl bounded
        | inr next ↦ settle later (earlier ++ m ∷ []) (append_assoc earlier (m ∷ []) later ∙ split) next.0 next.1 next.2
      ]
