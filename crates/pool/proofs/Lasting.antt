-- What lasts of a label while the history of its bucket goes on.
use Rattle.std.proofs.Common.{◌≡◌, ◌≢◌, ◌<◌, ◌≤◌, ◌+◌, ℕ, zero, suc, Bool, true, false, List, [], ◌∷◌, ◌++◌, length, refl, sym, ap, ◌∙◌, subst, inl, inr, arith, length-append}
use Rattle.std.proofs.lemmas.Bool.{cases_eq, false≢true}
use Rattle.std.proofs.lemmas.List.{get_or_append_left}
use mathlib.Core.List.{IsPrefix}
use Rattle.bucket.proofs.Replays.{replay-append, length-with_state}
use Rattle.bucket.proofs.Retired.{path_of-with_state, state_of-with_state, state_of-other}
use Rattle.bucket.specs.Histories.{Step, after, after_all, replay, IsLegal, AllLegal, IsHistory}
use Rattle.label_list.specs.Labels.{Held, is_live, no_held, path_of, state_of, with_state}
use Rattle.bucket.specs.Histories.Step.{Inserts, Takes, Retires, Cuts}
use Rattle.label_list.specs.declared.state.State.{State}
use Rattle.label_list.specs.declared.state.State.TheVariants.{Waiting, Taken, Retired, Cut}
use Rattle.strip_model.specs.Side.{Face}

-- whether a state is that of a label that waits
abbrev is_waiting : State → Bool
is_waiting Waiting = true
is_waiting Taken = false
is_waiting (Retired by) = false
is_waiting Cut = false

waits_not : (s : State) → s ≢ Waiting → is_waiting s ≡ false
waits_not Waiting h = absurd (h refl)
waits_not Taken h = refl
waits_not (Retired by) h = refl
waits_not Cut h = refl

not_waiting : (s : State) → is_waiting s ≡ false → s ≢ Waiting
not_waiting s h is = false≢true (sym h ∙ ap is_waiting is)

-- ---- one more entry

module _ (hs : List Held) (k : ℕ) (there : k < length hs) where
  more_labels : (e : Step) → length hs ≤ length (after hs e)
  more_labels (Inserts i path) =
      let e : length (hs ++ record { path = path; state = Waiting } ∷ []) ≡ length hs + 1 = length-append hs (record { path = path; state = Waiting } ∷ []) in omega arith
  more_labels (Takes i) = let e : length (with_state hs i Taken) ≡ length hs = length-with_state hs i Taken in omega arith
  more_labels (Retires i by) = let e : length (with_state hs i (Retired by)) ≡ length hs = length-with_state hs i (Retired by) in omega arith
  more_labels (Cuts i) = let e : length (with_state hs i Cut) ≡ length hs = length-with_state hs i Cut in omega arith

  same_path : (e : Step) → path_of (after hs e) k ≡ path_of hs k
  same_path (Inserts i path) = ap (λ (h : Held). h.path) (get_or_append_left hs (record { path = path; state = Waiting } ∷ []) no_held k there)
  same_path (Takes i) = path_of-with_state hs i k Taken
  same_path (Retires i by) = path_of-with_state hs i k (Retired by)
  same_path (Cuts i) = path_of-with_state hs i k Cut

  -- a state without this mark stays so where one label gets a state without it
  marked_not : (test : State → Bool) (i : ℕ) (s : State) → test s ≡ false → test (state_of hs k) ≡ false → test (state_of (with_state hs i s) k) ≡ false
  marked_not test i s new was = elim (cases_eq k i) [
    | inl same ↦
        let is : state_of (with_state hs i s) k ≡ s =
        subst (λ (j : ℕ). state_of (with_state hs i s) j ≡ s) (sym same) (state_of-with_state hs i s (subst (λ (j : ℕ). j < length hs) same there)) in
        ap test is ∙ new
    | inr differ ↦ ap test (state_of-other hs i k s differ) ∙ was
  ]

  kept_state : (i : ℕ) (path : List ℕ) → state_of (after hs (Inserts i path)) k ≡ state_of hs k
  kept_state i path = ap (λ (h : Held). h.state) (get_or_append_left hs (record { path = path; state = Waiting } ∷ []) no_held k there)

  waits_no_more : (e : Step) → is_waiting (state_of hs k) ≡ false → is_waiting (state_of (after hs e) k) ≡ false
  waits_no_more (Inserts i path) was = ap is_waiting (kept_state i path) ∙ was
  waits_no_more (Takes i) was = marked_not is_waiting i Taken refl was
  waits_no_more (Retires i by) was = marked_not is_waiting i (Retired by) refl was
  waits_no_more (Cuts i) was = marked_not is_waiting i Cut refl was

  dead_then : (S : Face) (n : ℕ) (e : Step) → IsLegal S n hs e → is_live (state_of hs k) ≡ false → is_live (state_of (after hs e) k) ≡ false
  dead_then S n (Inserts i path) legal was = ap is_live (kept_state i path) ∙ was
  dead_then S n (Takes i) legal was = elim (cases_eq k i) [
    | inl same ↦
        let waits : state_of hs k ≡ Waiting = subst (λ (j : ℕ). state_of hs j ≡ Waiting) (sym same) legal.waits in
        absurd (false≢true (sym was ∙ ap is_live waits))
    | inr differ ↦ ap is_live (state_of-other hs i k Taken differ) ∙ was
  ]
  dead_then S n (Retires i by) legal was = marked_not is_live i (Retired by) refl was
  dead_then S n (Cuts i) legal was = marked_not is_live i Cut refl was

-- ---- more entries

all_there : (hs : List Held) (k : ℕ) → k < length hs → (es : List Step) → k < length (after_all hs es)
all_there hs k there [] = there
all_there hs k there (e ∷ es) = let m = more_labels hs k there e in all_there (after hs e) k (omega arith) es

all_path : (hs : List Held) (k : ℕ) → k < length hs → (es : List Step) → path_of (after_all hs es) k ≡ path_of hs k
all_path hs k there [] = refl
all_path hs k there (e ∷ es) = let m = more_labels hs k there e in all_path (after hs e) k (omega arith) es ∙ same_path hs k there e

all_waits_not : (hs : List Held) (k : ℕ) → k < length hs → (es : List Step) → is_waiting (state_of hs k) ≡ false → is_waiting (state_of (after_all hs es) k) ≡ false
all_waits_not hs k there [] was = was
all_waits_not hs k there (e ∷ es) was =
    let m = more_labels hs k there e in all_waits_not (after hs e) k (omega arith) es (waits_no_more hs k there e was)

all_dead : (S : Face) (n : ℕ) (hs : List Held) (k : ℕ) → k < length hs → (es : List Step) → AllLegal S n hs es → is_live (state_of hs k) ≡ false
    → is_live (state_of (after_all hs es) k) ≡ false
all_dead S n hs k there [] legal was = was
all_dead S n hs k there (e ∷ es) legal was =
    let m = more_labels hs k there e in all_dead S n (after hs e) k (omega arith) es legal.1 (dead_then hs k there S n e legal.0 was)

legal_rest : (S : Face) (n : ℕ) (hs : List Held) (es ds : List Step) → AllLegal S n hs (es ++ ds) → AllLegal S n (after_all hs es) ds
legal_rest S n hs [] ds h = h
legal_rest S n hs (e ∷ es) ds h = legal_rest S n (after hs e) es ds h.1

-- ---- a longer history

module _ (es fs : List Step) (p : IsPrefix es fs) where
  goes_on : replay fs ≡ after_all (replay es) p.0
  goes_on = ap replay (sym p.1) ∙ replay-append es p.0

  module _ (k : ℕ) (there : k < length (replay es)) where
    -- the label is there still
    pub there_still : k < length (replay fs)
    there_still = subst (λ (hs : List Held). k < length hs) (sym goes_on) (all_there (replay es) k there p.0)

    pub path_still : path_of (replay fs) k ≡ path_of (replay es) k
    path_still = ap (λ (hs : List Held). path_of hs k) goes_on ∙ all_path (replay es) k there p.0

    -- it doesn't wait again
    pub waits_not_still : state_of (replay es) k ≢ Waiting → state_of (replay fs) k ≢ Waiting
    waits_not_still was =
        not_waiting (state_of (replay fs) k) (ap (λ (hs : List Held). is_waiting (state_of hs k)) goes_on
        ∙ all_waits_not (replay es) k there p.0 (waits_not (state_of (replay es) k) was))

    rest_legal : (S : Face) (n : ℕ) → AllLegal S n [] fs → AllLegal S n (replay es) p.0
    unfolding replay
    rest_legal S n legal = legal_rest S n [] es p.0 (subst (λ (l : List Step). AllLegal S n [] l) (sym p.1) legal)

    -- nor does it live again, by legal entries
    pub dead_still : (S : Face) (n : ℕ) → IsHistory S n fs → is_live (state_of (replay es) k) ≡ false → is_live (state_of (replay fs) k) ≡ false
    dead_still S n legal was =
        ap (λ (hs : List Held). is_live (state_of hs k)) goes_on ∙ all_dead S n (replay es) k there p.0 (rest_legal S n legal.legal) was

-- a longer history has no fewer labels
pub no_fewer : (es fs : List Step) → IsPrefix es fs → length (replay es) ≤ length (replay fs)
no_fewer es fs p = none_fewer (length (replay es)) (length (replay fs)) (λ k there. there_still es fs p k there)
  where
    none_fewer : (m n : ℕ) → ((k : ℕ) → k < m → k < n) → m ≤ n
    none_fewer zero n h = omega arith
    none_fewer (suc m) n h = let l = h m (omega arith) in omega arith
