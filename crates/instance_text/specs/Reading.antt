-- What the steps of a reader promise: where a text stands up to a place, and where it is refused whatever follows.
use Rattle.std.specs.Prelude.{◌≡◌, ℕ, ◌*◌, List, ◌++◌, length, map, Some}
use Rattle.instance_text.specs.Lines.{Line}
use Rattle.instance_text.specs.Shape.{Field, line_refusal, lines_fault}
use Rattle.instance_text.specs.declared.contents.Contents.{Contents}
use Rattle.instance_text.specs.declared.refusal.Refusal.{Refusal}
use Rattle.strip_model.specs.Orbit.{Orbit}

-- the fields stand first in the old line, and the new one is what follows them: whatever follows, both are refused alike
abbrev pub Passes : List Field → Line → Line → Type 0
Passes fields old new = (more : List Field) → line_refusal (fields ++ more) old ≡ line_refusal more new

-- the line is refused at these fields, whatever must follow them
abbrev pub IsRefusedAt : List Field → Line → Refusal → Type 0
IsRefusedAt fields line r = (more : List Field) → line_refusal (fields ++ more) line ≡ Some r

-- What is left of a text: how many lines came before, how many lines the whole text has, and the lines that still count.
pub record Rest : Type 0 where
  pub passed : ℕ
  pub count : ℕ
  pub lines : List Line

-- the tokens of the lines that are left
abbrev pub words_of : Rest → List (List (List ℕ))
words_of rest = map (λ line. line.tokens) rest.lines

-- the same of lines
abbrev pub PassesLines : List (List Field) → Rest → Rest → Type 0
PassesLines forms old new =
    (more : List (List Field)) → lines_fault (forms ++ more) old.count old.lines ≡ lines_fault more new.count new.lines

abbrev pub IsRefusedAtLines : List (List Field) → Rest → Refusal → Type 0
IsRefusedAtLines forms rest r = (more : List (List Field)) → lines_fault (forms ++ more) rest.count rest.lines ≡ Some r

-- what the requests, the strips and the entries of a text make up
abbrev pub orbit_of : Contents → Orbit
orbit_of c = record {
  requests = c.requests.items;
  strips = c.strips.items;
  table = record { size = 2 * length c.strips.items; entries = c.entries.items };
}
