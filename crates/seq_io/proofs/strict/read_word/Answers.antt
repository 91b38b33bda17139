use Rattle.std.proofs.Common.{ℕ, List, IfSome, IfNone, MatchOption, Option, Some, None, Bor}
use Rattle.std.proofs.lemmas.Bool.Decides.{Decides-eqb}
use Rattle.std.proofs.lemmas.Slice.Eq.{strip_prefix_is}
use Rattle.seq_io.proofs.strict.read_word.Goals as goal

some_part : (N : Type 0) (P : Bor (List ℕ) → Type 0) (r : Option (Bor (List ℕ))) → MatchOption r N P → IfSome r P
some_part N P None h = tt
some_part N P (Some x) h = h

none_part : (N : Type 0) (P : Bor (List ℕ) → Type 0) (r : Option (Bor (List ℕ))) → MatchOption r N P → IfNone r N
none_part N P None h = h
none_part N P (Some x) h = tt

pub returns-clause-read : goal.returns-clause-read
returns-clause-read c =
    some_part _ _ c.strip_prefix.result (strip_prefix_is Decides-eqb c.args.text.now c.args.word.now c.strip_prefix.result c.strip_prefix.ensures.cases)

pub returns-clause-none : goal.returns-clause-none
returns-clause-none c =
    none_part _ _ c.strip_prefix.result (strip_prefix_is Decides-eqb c.args.text.now c.args.word.now c.strip_prefix.result c.strip_prefix.ensures.cases)
