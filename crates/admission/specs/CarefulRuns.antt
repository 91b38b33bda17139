-- Careful runs: legal runs in which each insertion keeps an order, so that what is found early isn't lost among what is late.
use Rattle.std.specs.Prelude.{◌≡◌, ℕ, ◌<◌, ⊤, List, [], ◌∷◌, ◌++◌}
use Rattle.label_core.specs.CoreState.{IsListed, IsLivePath}
use Rattle.label_core.specs.Events.{Event, InsertLabel, TakeLabel, RetireLabel, CutLabel, Publish, JoinLabels}
use Rattle.label_core.specs.Machine.{Machine, Can, stepped, count_of}
use Rattle.strip_model.specs.Dominance.{Dominates}
use Rattle.strip_model.specs.LabelPath.{LabelPath}
use Rattle.strip_model.specs.Side.{facing, face_of}
use Rattle.strip_model.specs.Starts.{Place, Root, After, place_after}
use Rattle.strip_model.specs.declared.end.End.{End}

-- each label path that extends the path by one directed strip is in the list of its side
abbrev pub IsExtended : Machine → End → List ℕ → Type 0
IsExtended m e path = (y : ℕ) → LabelPath (face_of m.instance m.cut e) (path ++ y ∷ []) → IsListed m.state e (path ++ y ∷ [])

-- no live label dominates another
abbrev pub IsAntichain : Machine → Type 0
IsAntichain m = (e : End) (p q : List ℕ) → IsLivePath m.state e p → IsLivePath m.state e q → Dominates (facing m.instance e) q p → p ≡ q

-- an earlier last start; a root comes before each label
abbrev pub IsEarlier : Place → Place → Type 0
IsEarlier Root (After t y) = ⊤
IsEarlier (After s x) (After t y) = s < t
IsEarlier _ Root = ⊥

-- where a path of a side has come to, at earliest starts
abbrev pub end_place : Machine → End → List ℕ → Place
end_place m e path = place_after (facing m.instance e) Root path

-- What a careful insertion asks of the state before: there is room for one label more; no live label dominates another; the
-- path extends a root or a live label by one directed strip; and each root and live label of that side with an earlier last
-- start has all label paths that extend it by one in the list.
pub record InsertsWithCare (budget : ℕ) (m : Machine) (e : End) (path : List ℕ) : Type 0 where
  pub room : count_of m.state < budget
  pub antichain : IsAntichain m
  pub parent : List ℕ
  pub last : ℕ
  pub is : path ≡ parent ++ last ∷ []
  pub parent_lives : IsLivePath m.state e parent
  pub in_order : (q : List ℕ) → IsLivePath m.state e q → IsEarlier (end_place m e q) (end_place m e parent) → IsExtended m e q

-- care is asked of insertions alone
abbrev pub TakesCare : ℕ → Machine → Event → Type 0
TakesCare budget m (InsertLabel e path) = InsertsWithCare budget m e path
TakesCare budget m (TakeLabel id) = ⊤
TakesCare budget m (RetireLabel id by) = ⊤
TakesCare budget m (CutLabel id) = ⊤
TakesCare budget m (Publish plan) = ⊤
TakesCare budget m (JoinLabels f b) = ⊤

-- the events are a legal run from one machine to another, and each takes care
abbrev pub IsCarefulRun : ℕ → Machine → List Event → Machine → Type 0
IsCarefulRun budget m [] t = m ≡ t
IsCarefulRun budget m (event ∷ events) t = Can m event × TakesCare budget m event × IsCarefulRun budget (stepped m event) events t

-- a careful run leads from one machine to another
abbrev pub GoesCarefully : ℕ → Machine → Machine → Type 0
GoesCarefully budget m t = (events : List Event) × IsCarefulRun budget m events t

-- a run that inserts nothing leads there: it is careful whatever the budget
abbrev pub GoesQuietly : Machine → Machine → Type 0
GoesQuietly m t = (budget : ℕ) → GoesCarefully budget m t
