-- What a history leads to, and how long it is.
use Rattle.std.proofs.Common.{◌≡◌, ℕ, suc, ◌+◌, ◌*◌, ◌<◌, ◌≤◌, true, List, [], ◌∷◌, ◌++◌, length, refl, ap, arith, length-append}
use Rattle.std.proofs.lemmas.Bool.{false≢true}
use Rattle.std.proofs.lemmas.List.{length-set}
use Rattle.std.proofs.lemmas.List.Sums.{sum_by-set, sum_by_push}
use Rattle.std.specs.List.{sum_by}
use Rattle.bucket.specs.Histories.{Step, after, after_all, replay, IsLegal, AllLegal, IsHistory}
use Rattle.label_list.specs.Labels.{Held, is_live, no_held, path_of, state_of, with_state}
use Rattle.bucket.specs.Histories.Step.{Inserts, Takes, Retires, Cuts}
use Rattle.bucket.specs.declared.limits.TheConstants.{MAX_LABELS}
use Rattle.label_list.specs.declared.state.State.{State}
use Rattle.label_list.specs.declared.state.State.TheVariants.{Waiting, Taken, Retired, Cut}
use Rattle.strip_model.specs.Side.{Face}

after_all-append : (hs : List Held) (es ds : List Step) → after_all hs (es ++ ds) ≡ after_all (after_all hs es) ds
after_all-append hs [] ds = refl
after_all-append hs (e ∷ es) ds = after_all-append (after hs e) es ds

-- a history that goes on
pub replay-append : (es ds : List Step) → replay (es ++ ds) ≡ after_all (replay es) ds
unfolding replay
replay-append es ds = after_all-append [] es ds

AllLegal-append : (S : Face) (n : ℕ) (hs : List Held) (es ds : List Step) → AllLegal S n hs es → AllLegal S n (after_all hs es) ds → AllLegal S n hs (es ++ ds)
AllLegal-append S n hs [] ds l m = m
AllLegal-append S n hs (e ∷ es) ds l m = (l.0, AllLegal-append S n (after hs e) es ds l.1 m)

-- one more entry that the labels allow
pub IsHistory-push : (S : Face) (n : ℕ) (es : List Step) (e : Step)
    → IsHistory S n es → IsLegal S n (replay es) e → length (after (replay es) e) ≤ MAX_LABELS → IsHistory S n (es ++ e ∷ [])
unfolding replay
IsHistory-push S n es e h l few = record {
  legal = AllLegal-append S n [] es (e ∷ []) h.legal (l, tt);
  few = rw (replay-append es (e ∷ [])) few;
}

-- ---- how long a history is

-- how many entries a label in this state may still have
abbrev owed : State → ℕ
owed Waiting = 2
owed Taken = 1
owed (Retired by) = 0
owed Cut = 0

abbrev owed_by : Held → ℕ
owed_by h = owed h.state

all_owed : List Held → ℕ
all_owed hs = sum_by owed_by hs

owed-live : (s : State) → is_live s ≡ true → 1 ≤ owed s
owed-live Waiting live = omega arith
owed-live Taken live = omega arith
owed-live (Retired by) live = absurd (false≢true live)
owed-live Cut live = absurd (false≢true live)

-- with another state a label owes what that state owes
owed-with_state : (hs : List Held) (k : ℕ) (s : State) → k < length hs → all_owed (with_state hs k s) + owed (state_of hs k) ≡ all_owed hs + owed s
unfolding all_owed
owed-with_state hs k s there = sum_by-set owed_by hs k (record { path = path_of hs k; state = s }) no_held there

owed-push : (hs : List Held) (h : Held) → all_owed (hs ++ h ∷ []) ≡ all_owed hs + owed h.state
unfolding all_owed
owed-push hs h = sum_by_push owed_by hs h

pub length-with_state : (hs : List Held) (k : ℕ) (s : State) → length (with_state hs k s) ≡ length hs
length-with_state hs k s = length-set hs k (record { path = path_of hs k; state = s })

-- an entry is paid by what the labels owe, or by its new label
one_paid : (S : Face) (n : ℕ) (hs : List Held) (e : Step) → IsLegal S n hs e
    → suc (all_owed (after hs e)) + 3 * length hs ≤ 3 * length (after hs e) + all_owed hs
one_paid S n hs (Inserts k path) l =
    let new : Held = record { path = path; state = Waiting } in
    let more : length (hs ++ new ∷ []) ≡ length hs + 1 = length-append hs (new ∷ []) in
    let owes : all_owed (hs ++ new ∷ []) ≡ all_owed hs + 2 = owed-push hs new in
    omega arith
one_paid S n hs (Takes k) l =
    let same : length (with_state hs k Taken) ≡ length hs = length-with_state hs k Taken in
    let was : owed (state_of hs k) ≡ 2 = ap owed l.waits in
    let paid : all_owed (with_state hs k Taken) + owed (state_of hs k) ≡ all_owed hs + 1 = owed-with_state hs k Taken l.there in
    omega arith
one_paid S n hs (Retires k by) l =
    let same : length (with_state hs k (Retired by)) ≡ length hs = length-with_state hs k (Retired by) in
    let was : 1 ≤ owed (state_of hs k) = owed-live (state_of hs k) l.live.live in
    let paid : all_owed (with_state hs k (Retired by)) + owed (state_of hs k) ≡ all_owed hs + 0 = owed-with_state hs k (Retired by) l.live.there in
    omega arith
one_paid S n hs (Cuts k) l =
    let same : length (with_state hs k Cut) ≡ length hs = length-with_state hs k Cut in
    let was : 1 ≤ owed (state_of hs k) = owed-live (state_of hs k) l.live in
    let paid : all_owed (with_state hs k Cut) + owed (state_of hs k) ≡ all_owed hs + 0 = owed-with_state hs k Cut l.there in
    omega arith

all_paid : (S : Face) (n : ℕ) (hs : List Held) (es : List Step) → AllLegal S n hs es
    → length es + all_owed (after_all hs es) + 3 * length hs ≤ 3 * length (after_all hs es) + all_owed hs
all_paid S n hs [] l = omega arith
all_paid S n hs (e ∷ es) l =
    let first : suc (all_owed (after hs e)) + 3 * length hs ≤ 3 * length (after hs e) + all_owed hs = one_paid S n hs e l.0 in
    let rest : length es + all_owed (after_all (after hs e) es) + 3 * length (after hs e)
    ≤ 3 * length (after_all (after hs e) es) + all_owed (after hs e) = all_paid S n (after hs e) es l.1 in
    omega arith

paid : (S : Face) (n : ℕ) (es : List Step) → IsHistory S n es → length es + all_owed (replay es) ≤ 3 * length (replay es)
unfolding replay all_owed
paid S n es h =
    let all : length es + all_owed (after_all [] es) + 3 * 0 ≤ 3 * length (after_all [] es) + 0 = all_paid S n [] es h.legal in omega arith

-- a legal history has at most three entries a label
pub history-length : (S : Face) (n : ℕ) (es : List Step) → IsHistory S n es → length es ≤ 3 * length (replay es)
history-length S n es h = let all : length es + all_owed (replay es) ≤ 3 * length (replay es) = paid S n es h in omega arith

-- and fewer where another entry can follow that inserts no label
pub mark-room : (S : Face) (n : ℕ) (es : List Step) (e : Step)
    → IsHistory S n es → IsLegal S n (replay es) e → length (after (replay es) e) ≡ length (replay es) → length es < 3 * length (replay es)
mark-room S n es e h l same =
    let all : length es + all_owed (replay es) ≤ 3 * length (replay es) = paid S n es h in
    let one : suc (all_owed (after (replay es) e)) + 3 * length (replay es) ≤ 3 * length (after (replay es) e) + all_owed (replay es)
    = one_paid S n (replay es) e l in
    omega arith
