-- What a writing of a whole text comes to.
use Rattle.std.specs.Prelude.{◌≡◌, ◌<◌, ℕ, List, ◌++◌, length, Result, Ok, Err}
use Rattle.seq_io.specs.declared.writing.WriteFault.{WriteFault}

-- What a writing of all the bytes came to, where `front` are those that it appended: all of them,
-- or at a fault a prefix that lacks some.
abbrev pub IsWriting : Result (Unit {0}) WriteFault → List ℕ → List ℕ → Type 0
IsWriting (Ok _) front bytes = front ≡ bytes
IsWriting (Err _) front bytes = (rest : List ℕ) × (bytes ≡ front ++ rest) × (0 < length rest)
