-- How the refusals of twins and of tables become those of a text.
use Rattle.std.specs.Prelude.{⊤}
use Rattle.manoeuvre.specs.declared.refusal.TableRefusal.{TableRefusal}
use Rattle.manoeuvre.specs.declared.refusal.TableRefusal.TheVariants as table
use Rattle.stereo_twins.specs.declared.twin_refusal.TwinRefusal.{TwinRefusal}
use Rattle.stereo_twins.specs.declared.twin_refusal.TwinRefusal.TheVariants as twins
use Rattle.strip_model.specs.Orbit.{Orbit}
use Rattle.instance_text.specs.Refusal.{IsBreach}
use Rattle.instance_text.specs.declared.refusal.Cause.TheVariants.{TwinNotMutual, TwinSelf, TwinOtherRequest, SameStrip, Shortcut}
use Rattle.instance_text.specs.declared.rules.Unmade.{Unmade}
use Rattle.instance_text.specs.declared.rules.Unmade.TheVariants.{Broken, Memory}

-- the twins break this rule, or memory ran out
abbrev pub twins_broken : TwinRefusal → Unmade
twins_broken (twins.SelfTwin i) = Broken (TwinSelf i)
twins_broken (twins.OtherRequest i) = Broken (TwinOtherRequest i)
twins_broken (twins.NotMutual i) = Broken (TwinNotMutual i)
twins_broken twins.Memory = Memory

-- the table breaks this rule, or memory ran out; it has the right number of entries
abbrev pub table_broken : TableRefusal → Unmade
table_broken (table.SameStrip x y value) = Broken (SameStrip x y value)
table_broken (table.Shortcut x y z) = Broken (Shortcut x y z)
table_broken _ = Memory

-- the table has the right number of entries
abbrev pub IsNotShape : TableRefusal → Type 0
IsNotShape (table.Shape expected found) = ⊥
IsNotShape _ = ⊤

-- what is said breaks this rule first, or memory ran out
abbrev pub IsUnmade : Orbit → Unmade → Type 0
IsUnmade J (Broken cause) = IsBreach J cause
IsUnmade J Memory = ⊤
