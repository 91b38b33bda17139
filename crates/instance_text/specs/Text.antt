-- Which bytes are an instance text, and of which instance.
use Rattle.std.specs.Prelude.{◌≡◌, ◌⊎◌, ℕ, ◌*◌, ◌-◌, ◌<◌, ◌≤◌, List, [], ◌∷◌, length, map, take, All, IfSome, codes, slice_index, slice_index_or}
use Rattle.std.specs.List.{AllByRecursion}
use Rattle.instance_text.specs.Lines.{LF, text_lines, tokens_of, lines_that_count}
use Rattle.instance_text.specs.Spelling.{lines_of}
use Rattle.manoeuvre.specs.declared.limits.TheConstants.{MAX_MANOEUVRE}
use Rattle.strip_model.specs.IsInstance.{IsInstance, IsWithinLimits}
use Rattle.strip_model.specs.Orbit.{Orbit, window_of}
use Rattle.strip_model.specs.declared.limits.TheConstants.{MAX_WINDOW_END}
use Rattle.strip_model.specs.declared.strip.Strip.{Strip}
use Rattle.strip_model.specs.declared.window.Window.{Window}

-- the ends of a window are within the limit of a text
pub record IsWindowInText (w : Window) : Type 0 where
  pub early : w.early ≤ MAX_WINDOW_END
  pub late : w.late ≤ MAX_WINDOW_END

-- so are those of both windows of a strip
pub record IsStripInText (s : Strip) : Type 0 where
  pub forth : IsWindowInText (window_of s 0)
  pub back : IsWindowInText (window_of s 1)

-- What a text can say, before the rules on twins and on the table: the limits of an instance and of a text, twins that are
-- strips, and a table with a row and a column for each directed strip.
pub record IsInForm (J : Orbit) : Type 0 where
  pub limits : IsWithinLimits J.requests J.strips
  pub twins : All (λ s. IfSome s.twin (λ i. i < length J.strips)) J.strips
  pub windows : All IsStripInText J.strips
  pub size : J.table.size ≡ 2 * length J.strips
  pub square : length J.table.entries ≡ J.table.size * J.table.size
  pub entries : All (λ m. m ≤ MAX_MANOEUVRE) J.table.entries

-- the lines of the bytes that count say J: token by token they are the lines of J
abbrev pub Say : List ℕ → Orbit → Type 0
Say bytes J = map (λ line. line.tokens) (lines_that_count bytes) ≡ lines_of J

-- The bytes are an instance text, and they stand for J: their lines that count have, token by token, the lines of J.
pub record IsText (bytes : List ℕ) (J : Orbit) : Type 0 where
  pub sound : IsInstance J
  pub windows : All IsStripInText J.strips
  pub lines : Say bytes J

-- a line `end`
abbrev pub IsEnd : List ℕ → Type 0
IsEnd line = tokens_of line ≡ codes "end" ∷ []

-- the last line of a text, and the lines before it
abbrev pub last_line : List ℕ → List ℕ
last_line bytes = slice_index_or (text_lines bytes) (length (text_lines bytes) - 1) []

abbrev pub lines_before_last : List ℕ → List (List ℕ)
lines_before_last bytes = take (length (text_lines bytes) - 1) (text_lines bytes)

-- The first n bytes are an instance text of J up to and with the line `end`, with its LF where it has one.
pub record IsFront (bytes : List ℕ) (n : ℕ) (J : Orbit) : Type 0 where
  pub within : n ≤ length bytes
  pub text : IsText (take n bytes) J
  pub ends : IsEnd (last_line (take n bytes))
  pub whole : (n ≡ length bytes) ⊎ (slice_index bytes (n - 1) ≡ LF)

-- What is looked at for a front: the first n bytes, up to and with the first line `end` and its LF, or else all.
pub record IsLookedAt (bytes : List ℕ) (n : ℕ) : Type 0 where
  pub within : n ≤ length bytes
  pub first : AllByRecursion (λ line. ¬ IsEnd line) (lines_before_last (take n bytes))
  pub over : (n ≡ length bytes) ⊎ (IsEnd (last_line (take n bytes)) × (slice_index bytes (n - 1) ≡ LF))
