-- Labels of paths that anyone may have written.
use Rattle.std.specs.Prelude.{ℕ, Bool, true, false, List, [], ◌∷◌, ◌++◌, Option, MatchOption}
use Rattle.label.specs.Labels.{IsLabelWith}
use Rattle.label.specs.declared.label.Label.{Label}
use Rattle.strip_model.specs.LabelPath.{LabelPath}
use Rattle.strip_model.specs.Side.{Face}

-- what was made of a path: its label, or none where it is no label path of the side
abbrev pub IsRestored : Face → List ℕ → Option Label → Type 0
IsRestored S path answer = MatchOption answer (¬ LabelPath S path) (IsLabelWith S path)

-- what became of a label of this path: the label of the path with x after its last, or, where that is no label path, anything
abbrev pub IsLengthened : Face → List ℕ → ℕ → Label → Bool → Type 0
IsLengthened S path x label true = IsLabelWith S (path ++ x ∷ []) label
IsLengthened S path x label false = ¬ LabelPath S (path ++ x ∷ [])
