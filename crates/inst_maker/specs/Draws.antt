-- Numbers drawn one after another from a seed, and how things are made of them.
use Rattle.std.specs.Prelude.{ℕ, zero, suc, ◌+◌, ◌*◌, ◌/◌, ◌%◌, ◌^◌, List, [], ◌∷◌, ◌++◌}

-- what was drawn, and the state that its draws leave
pub record Drawn (A : Type 0) : Type 0 where
  pub value : A
  pub state : ℕ

-- a way to draw something: what is drawn at each state
abbrev pub Draw : Type 0 → Type 0
Draw A = ℕ → Drawn A

-- the state after one draw
unfoldable pub next_state : ℕ → ℕ
next_state s = (1664525 * s + 1013904223) % 2 ^ 32

-- one draw of a number below n: the upper half of the next state, modulo n
unfoldable pub draw : ℕ → Draw ℕ
draw n s = record { value = (next_state s / 65536) % n; state = next_state s }

-- x, with nothing drawn
abbrev pub give : {A : Type 0} → A → Draw A
give x s = record { value = x; state = s }

infixl 10 ◌>>=◌
-- one thing is drawn, and then another that may depend on it: so the lines of a `do` follow one another
abbrev pub ◌>>=◌ : {A B : Type 0} → Draw A → (A → Draw B) → Draw B
◌>>=◌ first next s = next (first s).value (first s).state

-- f 0, f 1 and so on up to f (n - 1), drawn in this order
unfoldable pub in_order : {A : Type 0} → (ℕ → Draw A) → ℕ → Draw (List A)
in_order f zero = give []
in_order f (suc n) = do
  before ← in_order f n
  last ← f n
  give (before ++ last ∷ [])
