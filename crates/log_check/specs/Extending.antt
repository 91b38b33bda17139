-- Whether what stands has its extensions.
use Rattle.std.specs.Prelude.{ℕ, ◌<◌, List, Option, MatchOption}
use Rattle.log_check.specs.Faults.{IsStanding, HasExtension, KeepsExtensionRule}
use Rattle.proof_log.specs.declared.log.Log.{Log}
use Rattle.strip_model.specs.Orbit.{Orbit}
use Rattle.strip_model.specs.declared.end.End.{End}

-- all that extends the path by one is listed
abbrev pub HasExtensions : Orbit → Log → End → List ℕ → Type 0
HasExtensions I log e path = (y : ℕ) → HasExtension I log e path y

-- The first seat of a side that lacks an extension: it stands, and those that stand before it lack none.
pub record IsFirstOpen (I : Orbit) (log : Log) (e : End) (p : ℕ) : Type 0 where
  pub standing : IsStanding log e p
  pub lacks : KeepsExtensionRule I log e p → ⊥
  pub before : (q : ℕ) → q < p → IsStanding log e q → KeepsExtensionRule I log e q

-- what was found at a side: no seat that stands lacks an extension, or the first that does
abbrev pub IsSideTested : Orbit → Log → End → Option ℕ → Type 0
IsSideTested I log e answer = MatchOption answer ((p : ℕ) → IsStanding log e p → KeepsExtensionRule I log e p) (IsFirstOpen I log e)
