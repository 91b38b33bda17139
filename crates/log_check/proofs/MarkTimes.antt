-- The table of first marks, mark by mark.
use Rattle.std.proofs.Common.{◌≡◌, ℕ, ◌+◌, ◌<◌, ◌≤◌, List, length, take, refl, sym, arith, inl, inr, ap, ◌∙◌, get_or}
use Rattle.std.proofs.Math.Bool.{or-true, or-false}
use Rattle.std.proofs.lemmas.List.Folds.{list_any_more}
use Rattle.std.proofs.lemmas.Bool.{true≢false, eqb-true, eq-eqb, cases_lt}
use Rattle.std.specs.Prelude.{slice_get, Some, Bool, true, false, ◌||◌, ◌&&◌, ◌==◌, if◌then◌else◌, ◌⊎◌, Option, None, IfSome}
use Rattle.std.specs.Option.{option_map_or}
use Rattle.proof_log.specs.Rules.{NamesLabels}
use Rattle.proof_log.specs.declared.mark.Mark.TheVariants.{Retire, Cut}
use Rattle.strip_model.specs.declared.end.End.TheVariants.{Forward, Backward}
use Rattle.std.proofs.lemmas.Option.{slice_get_within, get_or_from_slice_get}
use Rattle.proof_log.specs.Labels.{paths_in, is_marked, is_mark_of}
use Rattle.proof_log.specs.declared.log.Log.{Log}
use Rattle.proof_log.specs.declared.mark.Mark.{Mark}
use Rattle.strip_model.specs.declared.end.End.{End}

-- The entry tells what the first i marks mark: it is the number of a mark before them, or the number of all marks, and it is
-- below j exactly where one of the first j marks.
pub record Tells (all i entry : ℕ) (marked : ℕ → Bool) : Type 0 where
  pub stands : (entry < i) ⊎ (entry ≡ all)
  pub marked_by : (j : ℕ) → j ≤ i → entry < j → marked j ≡ true
  pub unmarked_by : (j : ℕ) → j ≤ i → j ≤ entry → marked j ≡ false

-- the entries of a side do
pub record TellSoFar (log : Log) (e : End) (times : List ℕ) (i : ℕ) : Type 0 where
  pub size : length times ≡ length (paths_in log e)
  pub each : (k : ℕ) → k < length (paths_in log e)
      → Tells (length log.marks.items) i (get_or times k 0) (λ j. is_marked e k (take j log.marks.items))

-- before the first mark
pub tells_at_first : (all : ℕ) (marked : ℕ → Bool) → marked 0 ≡ false → Tells all 0 all marked
tells_at_first all marked none = record {
  stands = inr refl;
  marked_by = λ j l less. absurd (omega arith);
  unmarked_by = λ j l less. let e : j ≡ 0 = omega arith in rw e none;
}

at_or_below : (i : ℕ) (marked : ℕ → Bool) (j : ℕ) → j ≤ i + 1 → (j ≤ i → marked j ≡ true) → marked (i + 1) ≡ true → marked j ≡ true
at_or_below i marked j m below at =
    elim (cases_lt i j) [
      | inl lt ↦ let e : j ≡ i + 1 = omega arith in rw e at
      | inr le ↦ below le
    ]

-- where the mark isn't one of the label's, its entry stays
tells_other : (all i old : ℕ) (marked : ℕ → Bool) → i < all → Tells all i old marked → marked (i + 1) ≡ marked i → Tells all (i + 1) old marked
tells_other all i old marked l tells step =
    elim tells.stands [
      | inl before ↦ record {
        stands = inl (omega arith);
        marked_by = λ j m less. at_or_below i marked j m (λ n. tells.marked_by j n less) (step ∙ tells.marked_by i (omega arith) before);
        unmarked_by = λ j m more. tells.unmarked_by j (omega arith) more;
      }
      | inr never ↦ record {
        stands = inr never;
        marked_by = λ j m less. absurd (omega arith);
        unmarked_by = λ j m more. elim (cases_lt i j) [
          | inl lt ↦ let e : j ≡ i + 1 = omega arith in rw e (step ∙ tells.unmarked_by i (omega arith) (omega arith))
          | inr le ↦ tells.unmarked_by j le more
        ];
      }
    ]

-- where it is, the entry is the mark's number, if no mark stood there before
tells_here : (all i old new : ℕ) (marked : ℕ → Bool) → i < all → Tells all i old marked → marked (i + 1) ≡ true
    → new ≡ (if old == all then i else old) → Tells all (i + 1) new marked
tells_here all i old new marked l tells step is =
    elim tells.stands [
      | inl before ↦
          let same : new ≡ old = grind arith in record {
            stands = inl (omega arith);
            marked_by = λ j m less. at_or_below i marked j m (λ n. tells.marked_by j n (omega arith)) step;
            unmarked_by = λ j m more. tells.unmarked_by j (omega arith) (omega arith);
          }
      | inr never ↦
          let same : new ≡ i = grind arith in record {
            stands = inl (omega arith);
            marked_by = λ j m less. at_or_below i marked j m (λ n. absurd (omega arith)) step;
            unmarked_by = λ j m more. tells.unmarked_by j (omega arith) (omega arith);
          }
    ]

-- After mark i the entry is that mark's number, where the mark is the first that marks the label.
pub tells_more : (all i old new : ℕ) (marked : ℕ → Bool) (here : Bool) → i < all → Tells all i old marked → marked (i + 1) ≡ (marked i || here)
    → new ≡ (if here && old == all then i else old) → Tells all (i + 1) new marked
tells_more all i old new marked true l tells step is = tells_here all i old new marked l tells (step ∙ or-true (marked i)) is
tells_more all i old new marked false l tells step is = rw is (tells_other all i old marked l tells (step ∙ or-false (marked i)))

-- a mark that names labels that are there marks one that is there
marked_there : (log : Log) (e : End) (k : ℕ) (m : Mark) → NamesLabels log m → is_mark_of e k m ≡ true → k < length (paths_in log e)
marked_there log Forward k (Retire Forward a b) named is = let same : a ≡ k = eqb-true a k is in rw (← same) named.0
marked_there log Backward k (Retire Backward a b) named is = let same : a ≡ k = eqb-true a k is in rw (← same) named.0
marked_there log Forward k (Cut Forward a) named is = let same : a ≡ k = eqb-true a k is in rw (← same) named
marked_there log Backward k (Cut Backward a) named is = let same : a ≡ k = eqb-true a k is in rw (← same) named
marked_there log Forward k (Retire Backward a b) named is = absurd (true≢false (sym is))
marked_there log Backward k (Retire Forward a b) named is = absurd (true≢false (sym is))
marked_there log Forward k (Cut Backward a) named is = absurd (true≢false (sym is))
marked_there log Backward k (Cut Forward a) named is = absurd (true≢false (sym is))

-- so does what was found of it
pub marked_label_there : (log : Log) (e : End) (m : Mark) (label : Option ℕ) (n : ℕ) → n ≡ length (paths_in log e) → NamesLabels log m
    → ((k : ℕ) → is_mark_of e k m ≡ option_map_or (λ l. l == k) label false) → IfSome label (λ k. k < n)
marked_label_there log e m None n size named is = tt
marked_label_there log e m (Some k) n size named is = rw size (marked_there log e k m named (is k ∙ eq-eqb k k refl))

-- after one more mark the numbers of a side tell what it marks too
pub TellSoFar-more : (log : Log) (e : End) (times new : List ℕ) (i : ℕ) (m : Mark) (label : Option ℕ) (never : ℕ) → TellSoFar log e times i
    → never ≡ length log.marks.items
    → slice_get log.marks.items i ≡ Some m → ((k : ℕ) → is_mark_of e k m ≡ option_map_or (λ l. l == k) label false) → length new ≡ length times
    → ((k : ℕ) → get_or new k 0 ≡ (if option_map_or (λ l. l == k) label false && get_or times k 0 == never then i else get_or times k 0))
    → TellSoFar log e new (i + 1)
TellSoFar-more log e times new i m label never so_far all at is size each = record {
  size = size ∙ so_far.size;
  each = λ k there.
      let l : i < length log.marks.items = slice_get_within log.marks.items i m at in
      let step : is_marked e k (take (i + 1) log.marks.items) ≡ (is_marked e k (take i log.marks.items) || option_map_or (λ l. l == k) label false) =
      list_any_more (is_mark_of e k) log.marks.items i m l
      ∙ ap (λ b. is_marked e k (take i log.marks.items) || b) (ap (is_mark_of e k) (get_or_from_slice_get log.marks.items i m m at) ∙ is k) in
      tells_more (length log.marks.items) i (get_or times k 0) (get_or new k 0) (λ j. is_marked e k (take j log.marks.items)) (option_map_or (λ l. l == k) label false)
      l (so_far.each k there) step (rw all at (each k));
}
