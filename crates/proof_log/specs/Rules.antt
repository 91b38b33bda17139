-- The eight rules of a log. A log that keeps them shows that its plan is optimal.
use Rattle.std.specs.Prelude.{◌≡◌, ◌≢◌, ℕ, ◌<◌, ◌≤◌, ⊤, false, List, [], ◌∷◌, ◌++◌, length, take, slice_get, Some}
use Rattle.proof_log.specs.Labels.{paths_in, path_at, is_marked, IsListed, Stands}
use Rattle.proof_log.specs.declared.log.Log.{Log}
use Rattle.proof_log.specs.declared.mark.Mark.{Mark}
use Rattle.proof_log.specs.declared.mark.Mark.TheVariants.{Retire, Cut}
use Rattle.strip_model.specs.Dominance.{Dominates}
use Rattle.strip_model.specs.Join.{Joins, join_gain}
use Rattle.strip_model.specs.LabelPath.{LabelPath}
use Rattle.strip_model.specs.Orbit.{Orbit}
use Rattle.strip_model.specs.Plan.{Feasible, gain_of}
use Rattle.strip_model.specs.Reach.{bound}
use Rattle.strip_model.specs.Side.{facing, face_of}
use Rattle.strip_model.specs.declared.end.End.{End}
use Rattle.strip_model.specs.declared.end.End.TheVariants.{Forward, Backward}

-- the labels that a mark names are there
abbrev pub NamesLabels : Log → Mark → Type 0
NamesLabels log (Retire e a b) = (a < length (paths_in log e)) × (b < length (paths_in log e))
NamesLabels log (Cut e a) = a < length (paths_in log e)

-- After these earlier marks label b may retire label a: they differ, neither is marked yet, and b dominates a.
pub record MayRetire (I : Orbit) (log : Log) (earlier : List Mark) (e : End) (a b : ℕ) : Type 0 where
  pub differ : a ≢ b
  pub unmarked : is_marked e a earlier ≡ false
  pub by_unmarked : is_marked e b earlier ≡ false
  pub dominated : Dominates (facing I e) (path_at log e b) (path_at log e a)

-- a mark that retires may do so
abbrev pub KeepsRetireRule : Orbit → Log → List Mark → Mark → Type 0
KeepsRetireRule I log earlier (Retire e a b) = MayRetire I log earlier e a b
KeepsRetireRule I log earlier (Cut e a) = ⊤

-- After these earlier marks label a may be cut: it isn't marked yet, and its bound is at most the gain that is written.
pub record MayCut (I : Orbit) (log : Log) (earlier : List Mark) (e : End) (a : ℕ) : Type 0 where
  pub unmarked : is_marked e a earlier ≡ false
  pub bounded : bound (facing I e) (path_at log e a) ≤ log.gain

-- a mark that cuts may do so
abbrev pub KeepsCutRule : Orbit → Log → List Mark → Mark → Type 0
KeepsCutRule I log earlier (Retire e a b) = ⊤
KeepsCutRule I log earlier (Cut e a) = MayCut I log earlier e a

-- A log is a proof where it keeps the eight rules:
-- 1 its plan is feasible; 2 the gain that is written is that of the plan;
-- 3 each listed path is a label path of its side, and none of a side stands twice (`labels`, `once`);
-- 4 the labels that marks name are there; 5 a label is retired by another that dominates it, neither marked before;
-- 6 a label is cut that isn't marked before and whose bound is at most the gain;
-- 7 each root and each label without a mark has all its extensions by one directed strip in the list of its side;
-- 8 a forward and a backward one of them that join gain at most the gain that is written.
pub record IsProof (I : Orbit) (log : Log) : Type 0 where
  pub feasible : Feasible I log.plan.items
  pub gain : log.gain ≡ gain_of I log.plan.items
  pub labels : (e : End) (k : ℕ) → k < length (paths_in log e) → LabelPath (face_of I log.cut e) (path_at log e k)
  pub once : (e : End) (j k : ℕ) → j < k → k < length (paths_in log e) → path_at log e j ≢ path_at log e k
  pub there : (j : ℕ) (m : Mark) → slice_get log.marks.items j ≡ Some m → NamesLabels log m
  pub retired : (j : ℕ) (m : Mark) → slice_get log.marks.items j ≡ Some m → KeepsRetireRule I log (take j log.marks.items) m
  pub cut_off : (j : ℕ) (m : Mark) → slice_get log.marks.items j ≡ Some m → KeepsCutRule I log (take j log.marks.items) m
  pub extended : (e : End) (path : List ℕ) (y : ℕ) → Stands log e path
      → LabelPath (face_of I log.cut e) (path ++ y ∷ []) → IsListed log e (path ++ y ∷ [])
  pub joined : (f b : List ℕ) → Stands log Forward f → Stands log Backward b → Joins I f b → join_gain I f b ≤ log.gain
