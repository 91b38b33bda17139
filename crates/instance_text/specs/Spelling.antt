-- The lines of an instance, token by token, and its one spelling.
use Rattle.std.specs.Prelude.{ℕ, zero, suc, List, [], ◌∷◌, ◌++◌, length, map, take, drop, Option, None, Some, codes, decimal}
use Rattle.std.specs.List.{flat_map}
use Rattle.manoeuvre.specs.Grid.{Grid}
use Rattle.seq_io.specs.Line.{spelled_line}
use Rattle.strip_model.specs.Orbit.{Orbit, window_of}
use Rattle.strip_model.specs.declared.request.Request.{Request}
use Rattle.strip_model.specs.declared.strip.Strip.{Strip}
use Rattle.strip_model.specs.declared.window.Window.{Window}

-- `r` and the gain
abbrev pub request_line : Request → List (List ℕ)
request_line r = codes "r" ∷ decimal r.gain ∷ []

-- the twin, or `-`
abbrev pub twin_token : Option ℕ → List ℕ
twin_token None = codes "-"
twin_token (Some twin) = decimal twin

-- the ends of a window, and the duration
abbrev pub window_tokens : Window → List (List ℕ)
window_tokens w = decimal w.early ∷ decimal w.late ∷ decimal w.duration ∷ []

-- `s`, the request, the twin, the area, and the windows of both directions
abbrev pub strip_line : Strip → List (List ℕ)
strip_line s =
    codes "s" ∷ decimal s.request ∷ twin_token s.twin ∷ decimal s.area
    ∷ (window_tokens (window_of s 0) ++ window_tokens (window_of s 1))

-- that many rows of a table
abbrev pub rows_of : ℕ → ℕ → List ℕ → List (List ℕ)
rows_of zero size entries = []
rows_of (suc n) size entries = take size entries ∷ rows_of n size (drop size entries)

-- the entries of each row
abbrev pub table_lines : Grid → List (List (List ℕ))
table_lines t = map (λ row. map decimal row) (rows_of t.size t.size t.entries)

-- the head of a text, before the line that counts the requests: today the version alone
abbrev pub head_lines : List (List (List ℕ))
head_lines = (codes "orbit" ∷ decimal 1 ∷ []) ∷ []

-- the lines of an instance
abbrev pub lines_of : Orbit → List (List (List ℕ))
lines_of J =
    head_lines
    ++ (codes "requests" ∷ decimal (length J.requests) ∷ [])
    ∷ (map request_line J.requests
    ++ (codes "strips" ∷ decimal (length J.strips) ∷ [])
    ∷ (map strip_line J.strips
    ++ (codes "manoeuvres" ∷ [])
    ∷ (table_lines J.table
    ++ (codes "end" ∷ []) ∷ [])))

-- the one spelling of an instance
abbrev pub spelling : Orbit → List ℕ
spelling J = flat_map spelled_line (lines_of J)
