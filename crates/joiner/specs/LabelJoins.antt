-- Joins of labels: the condition of each call, the law by its cases, and the answer.
use Rattle.std.specs.Prelude.{◌≡◌, ℕ, ◌+◌, ◌≤◌, true, false, List, Option, None, Some, MatchOption, ⊤}
use Rattle.label.specs.Labels.{IsLabelOf}
use Rattle.label.specs.declared.label.Label.{Label}
use Rattle.strip_model.specs.Directed.{has, has_strip}
use Rattle.strip_model.specs.Horizon.{horizon_of}
use Rattle.strip_model.specs.Join.{Joins, join_gain}
use Rattle.strip_model.specs.Mirror.{mirror_of}
use Rattle.strip_model.specs.Orbit.{Orbit, duration_at, manoeuvre_at}
use Rattle.strip_model.specs.Reach.{needs, is_open}
use Rattle.strip_model.specs.Side.{Face, face_of}
use Rattle.strip_model.specs.declared.end.End.{End}
use Rattle.strip_model.specs.declared.end.End.TheVariants.{Forward}

-- a label of this end of the instance, whatever the cut
abbrev pub IsLabelAt : Orbit → End → Label → Type 0
IsLabelAt J e l = (cut : ℕ) × IsLabelOf (face_of J cut e) l

-- the side is the forward one of its own instance
pub record IsForwardFace (S : Face) : Type 0 where
  pub end : S.end ≡ Forward
  pub horizon : S.horizon ≡ horizon_of S.instance

-- When a forward label and a backward one join: no strip stands in both, the forward one needs what is open in the backward
-- one, and there is time between their last acquisitions.
pub record LabelsMeet (J : Orbit) (f b : Label) : Type 0 where
  pub apart : (i : ℕ) → has_strip i f.path.items ≡ true → has_strip i b.path.items ≡ false
  pub needs_met : (z : ℕ) → has z (needs J f.path.items) ≡ is_open (mirror_of J) b.path.items z
  pub in_time : f.start + duration_at J f.last + manoeuvre_at J f.last b.last + duration_at J b.last + b.start ≤ horizon_of J

-- The law of joins: roots always join, and a label and the other end's root where nothing is open in the label.
abbrev pub MeetsLaw : Orbit → Option Label → Option Label → Type 0
MeetsLaw J None None = ⊤
MeetsLaw J (Some f) None = (x : ℕ) → is_open J f.path.items x ≡ false
MeetsLaw J None (Some b) = (x : ℕ) → is_open (mirror_of J) b.path.items x ≡ false
MeetsLaw J (Some f) (Some b) = LabelsMeet J f b

-- the answer for a forward path and a backward one: none exactly where they don't join, and else what they gain together
abbrev pub IsJoined : Orbit → List ℕ → List ℕ → Option ℕ → Type 0
IsJoined J f b answer = MatchOption answer (¬ Joins J f b) (λ gain. Joins J f b × (gain ≡ join_gain J f b))
