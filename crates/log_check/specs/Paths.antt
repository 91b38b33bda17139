-- Lists of paths.
use Rattle.std.specs.Prelude.{ℕ, List, map, Vec}
use Rattle.std.specs.declared.alloc.Global.{Global}

-- the paths as lists
abbrev pub plain : List (Vec ℕ Global) → List (List ℕ)
plain paths = map (λ (path : Vec ℕ Global). path.items) paths
