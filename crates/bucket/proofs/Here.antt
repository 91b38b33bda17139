-- The labels of a legal history belong into its bucket.
use Rattle.std.proofs.Common.{◌≡◌, ℕ, ◌+◌, ◌<◌, inl, inr, List, [], ◌∷◌, ◌++◌, length, ap, ◌∙◌, arith}
use Rattle.std.proofs.lemmas.Bool.{cases_lt}
use Rattle.bucket.specs.Histories.{Step, after, after_all, replay, bucket_of, IsLegal, AllLegal, IsHistory}
use Rattle.bucket.specs.Histories.Step.{Inserts, Takes, Retires, Cuts}
use Rattle.label_list.proofs.Labels.{held_at-new, held_at-old, length-push, length-with_state, path_of-with_state}
use Rattle.label_list.specs.Labels.{Held, path_of, with_state}
use Rattle.label_list.specs.declared.state.State.{State}
use Rattle.label_list.specs.declared.state.State.TheVariants.{Waiting, Taken, Retired, Cut}
use Rattle.strip_model.specs.Side.{Face}

-- all labels belong into the bucket with this number
abbrev AllHere : ℕ → List Held → Type 0
AllHere n hs = (k : ℕ) → k < length hs → bucket_of (path_of hs k) ≡ n

AllHere-with_state : (n : ℕ) (hs : List Held) (id : ℕ) (s : State) → AllHere n hs → AllHere n (with_state hs id s)
AllHere-with_state n hs id s here k there =
    ap bucket_of (path_of-with_state hs id k s) ∙ here k (let size : length (with_state hs id s) ≡ length hs = length-with_state hs id s in omega arith)

AllHere-push : (n : ℕ) (hs : List Held) (h : Held) → bucket_of h.path ≡ n → AllHere n hs → AllHere n (hs ++ h ∷ [])
AllHere-push n hs h new here k there = elim (cases_lt k (length hs)) [
  | inl old ↦ ap (λ (g : Held). bucket_of g.path) (held_at-old hs h k old) ∙ here k old
  | inr past ↦
      let last : k ≡ length hs = (let size : length (hs ++ h ∷ []) ≡ length hs + 1 = length-push hs h in omega arith) in
      ap (λ (j : ℕ). bucket_of (path_of (hs ++ h ∷ []) j)) last ∙ ap (λ (g : Held). bucket_of g.path) (held_at-new hs h) ∙ new
]

AllHere-after : (S : Face) (n : ℕ) (hs : List Held) (e : Step) → IsLegal S n hs e → AllHere n hs → AllHere n (after hs e)
AllHere-after S n hs (Inserts k path) l here = AllHere-push n hs (record { path = path; state = Waiting }) l.here here
AllHere-after S n hs (Takes k) l here = AllHere-with_state n hs k Taken here
AllHere-after S n hs (Retires k by) l here = AllHere-with_state n hs k (Retired by) here
AllHere-after S n hs (Cuts k) l here = AllHere-with_state n hs k Cut here

AllHere-all : (S : Face) (n : ℕ) (hs : List Held) (es : List Step) → AllLegal S n hs es → AllHere n hs → AllHere n (after_all hs es)
AllHere-all S n hs [] l here = here
AllHere-all S n hs (e ∷ es) l here = AllHere-all S n (after hs e) es l.1 (AllHere-after S n hs e l.0 here)

-- each label of a legal history belongs into its bucket
pub bucket_of-history : (S : Face) (n : ℕ) (es : List Step) (k : ℕ) → IsHistory S n es → k < length (replay es) → bucket_of (path_of (replay es) k) ≡ n
unfolding replay
bucket_of-history S n es k h there = AllHere-all S n [] es h.legal (λ j none. absurd (omega arith)) k there
