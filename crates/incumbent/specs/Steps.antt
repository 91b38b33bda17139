-- What each step tells its caller: of the step, the seat before, the word found and the seat after.
use Rattle.std.specs.Prelude.{◌≡◌, ℕ, ◌≤◌}
use Rattle.atomic_table.specs.Table.{Me, Step}
use Rattle.incumbent.specs.declared.knowledge.Knowledge.{Knowledge}
use Rattle.pass_weight.specs.declared.whole_weight.TheConstants.{WHOLE_WEIGHT}
use Rattle.incumbent.specs.Knowledge.{after_see, after_offer}

-- A share's seat at the table: what it knows, and the slots that it holds, which are none.
abbrev Seated : Type 0
Seated = Me (Unit {0}) Knowledge

-- The word that a share finds: no less than it saw and offered, and its own offer where it has the whole weight.
pub record IsFound (v : Knowledge) (word : ℕ) : Type 0 where
  pub seen : v.seen ≤ word
  pub offered : v.offered ≤ word
  pub alone : v.weight ≡ WHOLE_WEIGHT → word ≡ v.offered

-- A look at the word.
abbrev pub Sees : Step (Unit {0}) → Seated → ℕ → Seated → Type 0
Sees step old word new = (new ≡ (after_see old.0 word, old.1)) × IsFound old.0 word

-- An offer. It finds the word just before.
abbrev pub Offers : Step (Unit {0}) → Seated → ℕ → Seated → Type 0
Offers step old word new = (new ≡ (after_offer old.0 step.first word, old.1)) × IsFound old.0 word

-- A load that changes nothing, and tells that no share weighs more than the whole.
abbrev pub Weighs : Step (Unit {0}) → Seated → ℕ → Seated → Type 0
Weighs step old word new = (new ≡ old) × (old.0.weight ≤ WHOLE_WEIGHT)
