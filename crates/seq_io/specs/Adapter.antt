-- The adapters over std's readers and writers, as contracts see them: the reader or the writer, and how often it failed.
use Rattle.std.specs.Prelude.{ℕ}

pub record ReaderState (R : Type 0) : Type 0 where
  pub reader : R
  pub faults : ℕ

pub record WriterState (W : Type 0) : Type 0 where
  pub writer : W
  pub faults : ℕ
