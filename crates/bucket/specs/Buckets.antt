-- What a bucket is to its callers, and what its calls answer. Each answer is a relation of the labels before the call, its
-- argument, its result and the entries that it makes.
use Rattle.std.specs.Prelude.{◌≡◌, ◌≢◌, ℕ, ◌<◌, ◌≤◌, true, false, List, [], ◌∷◌, ◌++◌, length, map, Result, Ok, Err}
use Rattle.std.specs.List.Sorted.{IsStrictlyIncreasing}
use Rattle.bucket.specs.Histories.{Step, Inserts, Takes, Retires, Cuts, replay, IsHistory, Antichain}
use Rattle.label_list.specs.Labels.{Held, IsLive, is_live, path_of, state_of, IsAbsent}
use Rattle.bucket.specs.declared.answers.CutAnswer.{CutAnswer}
use Rattle.bucket.specs.declared.answers.CutAnswer.TheVariants.{Gone as CutGone, Higher, Done}
use Rattle.bucket.specs.declared.answers.Inserted.{Inserted}
use Rattle.bucket.specs.declared.answers.Inserted.TheVariants.{Dominated, Live}
use Rattle.bucket.specs.declared.answers.Taken.{Taken}
use Rattle.bucket.specs.declared.answers.Taken.TheVariants.{Label as TheLabel, Gone}
use Rattle.bucket.specs.declared.limits.TheConstants.{MAX_LABELS}
use Rattle.bucket.specs.declared.refusal.BucketRefusal.{BucketRefusal}
use Rattle.bucket.specs.declared.refusal.BucketRefusal.TheVariants.{Present, Crowded, Memory}
use Rattle.label_list.specs.declared.state.State.{State}
use Rattle.label_list.specs.declared.state.State.TheVariants.{Waiting}
use Rattle.label.specs.Labels.{IsLabelOf}
use Rattle.label.specs.declared.label.Label.{Label}
use Rattle.std.specs.declared.alloc.AllocError.{AllocError}
use Rattle.strip_model.specs.Directed.{has}
use Rattle.strip_model.specs.Dominance.{Dominates}
use Rattle.strip_model.specs.Reach.{bound}
use Rattle.strip_model.specs.Side.{Face}

-- A bucket: its side, its number among the side's buckets, and its history.
pub record Bin : Type 0 where
  pub side : Face
  pub number : ℕ
  pub history : List Step

-- its labels, by id: those that its history leads to
abbrev pub held_in : Bin → List Held
held_in b = replay b.history

-- the bucket after more entries
abbrev pub grown : Bin → List Step → Bin
grown b steps = record { side = b.side; number = b.number; history = b.history ++ steps }

-- What every bucket keeps: its history is legal, and of its live labels none dominates another.
pub record IsBucket (b : Bin) : Type 0 where
  pub history : IsHistory b.side b.number b.history
  pub antichain : Antichain b.side (held_in b)

-- label k is live and dominates the path
pub record Above (S : Face) (hs : List Held) (path : List ℕ) (k : ℕ) : Type 0 where
  pub live : IsLive hs k
  pub dominates : Dominates S.instance (path_of hs k) path

-- label k is live, and the path dominates it
pub record Below (S : Face) (hs : List Held) (path : List ℕ) (k : ℕ) : Type 0 where
  pub live : IsLive hs k
  pub dominated : Dominates S.instance path (path_of hs k)

-- these are the numbers below n for which P holds, in rising order
pub record AreThose (P : ℕ → Type 0) (n : ℕ) (ids : List ℕ) : Type 0 where
  pub rising : IsStrictlyIncreasing ids
  pub below : (k : ℕ) → has k ids ≡ true → k < n
  pub hold : (k : ℕ) → has k ids ≡ true → P k
  pub all : (k : ℕ) → k < n → P k → has k ids ≡ true

-- the least id of a live label that dominates the path
pub record IsDominator (S : Face) (hs : List Held) (path : List ℕ) (by : ℕ) : Type 0 where
  pub above : Above S hs path by
  pub least : (k : ℕ) → k < by → ¬ Above S hs path k

-- one label retires these, one after another
abbrev pub retirements : ℕ → List ℕ → List Step
retirements by ids = map (λ k. Retires k by) ids

-- ---- inserting

-- A live label dominates the new one: it is inserted, and retired by the least dominator.
pub record IsDominated (S : Face) (hs : List Held) (path : List ℕ) (id by : ℕ) (steps : List Step) : Type 0 where
  pub next : id ≡ length hs
  pub dominator : IsDominator S hs path by
  pub steps_are : steps ≡ Inserts id path ∷ Retires id by ∷ []

-- No live label dominates the new one: it is inserted, and retires each live label that it dominates, in rising order.
pub record IsKept (S : Face) (hs : List Held) (path : List ℕ) (id retired : ℕ) (steps : List Step) : Type 0 where
  pub next : id ≡ length hs
  pub none_above : (k : ℕ) → ¬ Above S hs path k
  pub ids : List ℕ
  pub those : AreThose (Below S hs path) (length hs) ids
  pub count : retired ≡ length ids
  pub steps_are : steps ≡ Inserts id path ∷ retirements id ids

-- a label has the path already
pub record IsPresent (hs : List Held) (path : List ℕ) (id : ℕ) (steps : List Step) : Type 0 where
  pub there : id < length hs
  pub same : path_of hs id ≡ path
  pub none : steps ≡ []

-- no label has the path, and there are as many labels as there can be
pub record IsCrowded (hs : List Held) (path : List ℕ) (labels : ℕ) (steps : List Step) : Type 0 where
  pub absent : IsAbsent hs path
  pub full : length hs ≡ MAX_LABELS
  pub count : labels ≡ length hs
  pub none : steps ≡ []

-- what an insertion of a label with this path answers, and the entries that it makes
abbrev pub IsInsertAnswer : Face → List Held → List ℕ → Result Inserted BucketRefusal → List Step → Type 0
IsInsertAnswer S hs path (Ok (Dominated id by)) steps = IsDominated S hs path id by steps
IsInsertAnswer S hs path (Ok (Live id retired)) steps = IsKept S hs path id retired steps
IsInsertAnswer S hs path (Err (Present id)) steps = IsPresent hs path id steps
IsInsertAnswer S hs path (Err (Crowded labels)) steps = IsCrowded hs path labels steps
IsInsertAnswer S hs path (Err Memory) steps = steps ≡ []

-- the call answers so, and the bucket grows by its entries alone
pub record Inserting (old new : Bin) (path : List ℕ) (result : Result Inserted BucketRefusal) : Type 0 where
  pub steps : List Step
  pub answer : IsInsertAnswer old.side (held_in old) path result steps
  pub grows : new ≡ grown old steps

-- ---- taking

-- the label waited, and this is a copy of it
pub record IsTaken (S : Face) (hs : List Held) (id : ℕ) (label : Label) (steps : List Step) : Type 0 where
  pub waits : state_of hs id ≡ Waiting
  pub same : label.path.items ≡ path_of hs id
  pub label_of : IsLabelOf S label
  pub steps_are : steps ≡ Takes id ∷ []

-- the label doesn't wait: this is its state
pub record IsGone (hs : List Held) (id : ℕ) (state : State) (steps : List Step) : Type 0 where
  pub waits_not : state_of hs id ≢ Waiting
  pub is : state ≡ state_of hs id
  pub none : steps ≡ []

-- what taking a label answers, and the entries that it makes
abbrev pub IsTakeAnswer : Face → List Held → ℕ → Result Taken AllocError → List Step → Type 0
IsTakeAnswer S hs id (Ok (TheLabel label)) steps = IsTaken S hs id label steps
IsTakeAnswer S hs id (Ok (Gone state)) steps = IsGone hs id state steps
IsTakeAnswer S hs id (Err _) steps = steps ≡ []

-- the call answers so, and the bucket grows by its entries alone
pub record Taking (old new : Bin) (id : ℕ) (result : Result Taken AllocError) : Type 0 where
  pub steps : List Step
  pub answer : IsTakeAnswer old.side (held_in old) id result steps
  pub grows : new ≡ grown old steps

-- ---- cutting

-- the label isn't live: this is its state
pub record IsDead (hs : List Held) (id : ℕ) (state : State) (steps : List Step) : Type 0 where
  pub dead : is_live (state_of hs id) ≡ false
  pub is : state ≡ state_of hs id
  pub none : steps ≡ []

-- the label is live, and its bound exceeds the value
pub record IsHigher (S : Face) (hs : List Held) (id value high : ℕ) (steps : List Step) : Type 0 where
  pub live : is_live (state_of hs id) ≡ true
  pub is : high ≡ bound S.instance (path_of hs id)
  pub higher : value < high
  pub none : steps ≡ []

-- the label was live, and its bound doesn't exceed the value
pub record IsCut (S : Face) (hs : List Held) (id value : ℕ) (steps : List Step) : Type 0 where
  pub live : is_live (state_of hs id) ≡ true
  pub bounded : bound S.instance (path_of hs id) ≤ value
  pub steps_are : steps ≡ Cuts id ∷ []

-- what cutting a label at a value answers, and the entries that it makes
abbrev pub IsCutAnswer : Face → List Held → ℕ → ℕ → CutAnswer → List Step → Type 0
IsCutAnswer S hs id value (CutGone state) steps = IsDead hs id state steps
IsCutAnswer S hs id value (Higher high) steps = IsHigher S hs id value high steps
IsCutAnswer S hs id value Done steps = IsCut S hs id value steps

-- the call answers so, and the bucket grows by its entries alone
pub record Cutting (old new : Bin) (id value : ℕ) (result : CutAnswer) : Type 0 where
  pub steps : List Step
  pub answer : IsCutAnswer old.side (held_in old) id value result steps
  pub grows : new ≡ grown old steps
