-- What lies in a pass.
use Rattle.std.specs.Prelude.{◌≡◌, ◌≤◌, ◌^◌, ℕ, List, [], ◌∷◌, map, Option, Some, None}
use Rattle.pass_weight.specs.declared.whole_weight.TheConstants.{WHOLE_WEIGHT}
use Rattle.atomic_table.specs.Seated.{TableId}
use Rattle.turn_lock.specs.declared.view.View.{View}
use Rattle.turn_lock.specs.declared.view.Placed.{Placed}
use Rattle.turn_lock.specs.declared.view.Stage.{Stage}
use Rattle.turn_lock.specs.declared.view.Stage.TheVariants.{Idle, Waiting, Holding}
use Rattle.turn_lock.specs.declared.turn_spent.TheConstants.{MOST_TURNS}
use Rattle.turn_lock.specs.Pass.{Pass}

module _ {E : Type 0} where
  -- the entries of a party
  abbrev pub entries : List (Placed E) → List E
  entries party = map (λ p. p.entry) party

  -- the history that was found, while the turn is held
  abbrev pub found : Stage E → Option (List E)
  found Idle = None
  found (Waiting k) = None
  found (Holding k history) = Some history

  -- a pass has no slot, or it holds the turn and the slot, whose value is moved out
  abbrev pub IsStage : {T : Type 0} → Stage E → List (ℕ × Option T) → Type 0
  IsStage Idle slots = slots ≡ []
  IsStage (Waiting k) slots = ⊥
  IsStage (Holding k history) slots = slots ≡ (0, None) ∷ []

module _ {E F : Type 0} where
  -- the pass with this view, which has made this many turns
  abbrev pub pass_of : TableId → View E F → ℕ → Pass E F
  pass_of table v turns = record {
    lock = table;
    seen = v.seen;
    own = entries v.own;
    joined = map entries v.joined;
    turns = turns;
    weight = v.weight;
    turn = found v.stage;
    frame = v.frame;
  }

  -- what every pass keeps
  pub record IsPass {T : Type 0} (v : View E F) (slots : List (ℕ × Option T)) (made kept_weight : ℕ) : Type 0 where
    pub stage : IsStage v.stage slots
    pub told : v.told ≡ []
    pub turns : made ≤ MOST_TURNS
    pub weight : kept_weight ≡ v.weight
    pub positive : 1 ≤ v.weight
    pub bounded : v.weight ≤ WHOLE_WEIGHT
