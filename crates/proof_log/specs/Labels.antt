-- The labels of a log, and which of them are marked.
use Rattle.std.specs.Prelude.{◌≡◌, ℕ, ◌<◌, Bool, true, false, ◌&&◌, ◌==◌, List, [], length, map, get_or, ◌⊎◌}
use Rattle.std.specs.List.{list_any}
use Rattle.std.specs.declared.vec.Vec.{Vec}
use Rattle.std.specs.declared.alloc.Global.{Global}
use Rattle.proof_log.specs.declared.log.Log.{Log}
use Rattle.proof_log.specs.declared.mark.Mark.{Mark}
use Rattle.proof_log.specs.declared.mark.Mark.TheVariants.{Retire, Cut}
use Rattle.strip_model.specs.declared.end.End.{End}
use Rattle.strip_model.specs.declared.end.End.TheVariants.{Forward, Backward}

-- whether two ends are the same
abbrev pub same_end : End → End → Bool
same_end Forward Forward = true
same_end Backward Backward = true
same_end Forward Backward = false
same_end Backward Forward = false

-- the label paths of a side, by number
abbrev pub paths_in : Log → End → List (List ℕ)
paths_in log Forward = map (λ (path : Vec ℕ Global). path.items) log.forward.items
paths_in log Backward = map (λ (path : Vec ℕ Global). path.items) log.backward.items

-- the path of a label, by its side and number
abbrev pub path_at : Log → End → ℕ → List ℕ
path_at log e k = get_or (paths_in log e) k []

-- whether a mark marks label k of a side
abbrev pub is_mark_of : End → ℕ → Mark → Bool
is_mark_of e k (Retire f label by) = same_end f e && label == k
is_mark_of e k (Cut f label) = same_end f e && label == k

-- whether one of these marks does
abbrev pub is_marked : End → ℕ → List Mark → Bool
is_marked e k marks = list_any (is_mark_of e k) marks

-- the path stands in the list of its side
abbrev pub IsListed : Log → End → List ℕ → Type 0
IsListed log e path = (k : ℕ) × (k < length (paths_in log e)) × (path_at log e k ≡ path)

-- the path is the root, or that of a label that no mark marks
abbrev pub Stands : Log → End → List ℕ → Type 0
Stands log e path =
    (path ≡ [])
    ⊎ ((k : ℕ) × (k < length (paths_in log e)) × (path_at log e k ≡ path) × (is_marked e k log.marks.items ≡ false))
