-- A share as contracts see it: its plan, what it has seen, and its weight.
use Rattle.std.specs.Prelude.{ℕ}
use Rattle.incumbent.specs.declared.knowledge.Knowledge.{Knowledge}
use Rattle.incumbent.specs.declared.share.Share.{Share}
use Rattle.incumbent.specs.declared.worth.Worth.{Ghosts}

-- What the share knows of the peak.
abbrev pub knowledge_of : {P : Type 0} {g : Ghosts P} → Share P g → Knowledge
knowledge_of share = share.seat.me.0

-- The plan that the share keeps: of those that the party has offered, one of greatest worth.
abbrev pub plan_of : {P : Type 0} {g : Ghosts P} → Share P g → P
plan_of share = share.plan

-- The greatest number that the share has seen in the word.
abbrev pub seen_by : {P : Type 0} {g : Ghosts P} → Share P g → ℕ
seen_by share = share.seat.me.0.seen

-- The share's part of the whole weight.
abbrev pub weight_of : {P : Type 0} {g : Ghosts P} → Share P g → ℕ
weight_of share = share.weight
