-- Why an instance was not made.
use Rattle.std.specs.Prelude.{◌≢◌, ℕ, List, [], ◌∷◌}
use Rattle.manoeuvre.specs.Refusal.{IsCause}
use Rattle.manoeuvre.specs.declared.refusal.TableRefusal.TheVariants as table
use Rattle.strip_model.specs.Orbit.{window_of}
use Rattle.strip_model.specs.declared.refusal.ModelRefusal.{ModelRefusal}
use Rattle.strip_model.specs.declared.refusal.ModelRefusal.TheVariants.{Table, Memory}
use Rattle.strip_model.specs.declared.strip.Strip.{Strip}

-- the durations of the strips' windows, in the order of directed strips
abbrev pub durations_of : List Strip → List ℕ
durations_of [] = []
durations_of (s ∷ ss) = (window_of s 0).duration ∷ (window_of s 1).duration ∷ durations_of ss

-- The table breaks a rule of its own, the one that the refusal names, or memory ran out, and then it breaks none.
abbrev pub IsRefusedAs : List Strip → List ℕ → ModelRefusal → Type 0
IsRefusedAs strips entries (Table cause) = IsCause (durations_of strips) entries cause × (cause ≢ table.Memory)
IsRefusedAs strips entries Memory = IsCause (durations_of strips) entries table.Memory
