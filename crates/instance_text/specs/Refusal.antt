-- Which refusal stands for which bytes.
use Rattle.std.specs.Prelude.{◌≡◌, ◌⊎◌, ℕ, ◌+◌, List, length, take, None, Some, Result, Ok, Err, ⊤, slice_index_or}
use Rattle.manoeuvre.specs.Refusal as table
use Rattle.manoeuvre.specs.declared.refusal.TableRefusal.TheVariants as table_refusal
use Rattle.stereo_twins.specs.Refusal as twins
use Rattle.stereo_twins.specs.declared.twin_refusal.TwinRefusal.TheVariants as twin_refusal
use Rattle.strip_model.specs.IsInstance.{KeepsTwins}
use Rattle.strip_model.specs.Orbit.{Orbit}
use Rattle.strip_model.specs.Refusal.{durations_of}
use Rattle.strip_model.specs.Twins.{twins_of, requests_of}
use Rattle.instance_text.specs.Lines.{lines_that_count}
use Rattle.instance_text.specs.Shape.{no_line, head_fields, form_fault}
use Rattle.instance_text.specs.Text.{IsInForm, Say, IsLookedAt}
use Rattle.instance_text.specs.declared.refusal.Cause.{Cause}
use Rattle.instance_text.specs.declared.refusal.Cause.TheVariants.{TwinNotMutual, TwinSelf, TwinOtherRequest, SameStrip, Shortcut}
use Rattle.instance_text.specs.declared.refusal.Refusal.{Refusal}
use Rattle.instance_text.specs.declared.refusal.TextRefusal.{TextRefusal}
use Rattle.instance_text.specs.declared.refusal.TextRefusal.TheVariants.{Refused, Memory}

-- The rules that J breaks begin with this one, at this least place: the twin rules come first, then those of the table.
abbrev pub IsBreach : Orbit → Cause → Type 0
IsBreach J (TwinSelf i) = twins.IsCause (twins_of J) (requests_of J) (twin_refusal.SelfTwin i)
IsBreach J (TwinOtherRequest i) = twins.IsCause (twins_of J) (requests_of J) (twin_refusal.OtherRequest i)
IsBreach J (TwinNotMutual i) = twins.IsCause (twins_of J) (requests_of J) (twin_refusal.NotMutual i)
IsBreach J (SameStrip x y value) =
    KeepsTwins J.strips × table.IsCause (durations_of J.strips) J.table.entries (table_refusal.SameStrip x y value)
IsBreach J (Shortcut x y z) =
    KeepsTwins J.strips × table.IsCause (durations_of J.strips) J.table.entries (table_refusal.Shortcut x y z)
IsBreach J _ = ⊥

-- the place of the line that shows it, from 0 among the lines that count, where there are that many requests and strips:
-- the line of the strip, or of row x
abbrev pub place_of : ℕ → ℕ → Cause → ℕ
place_of requests strips (TwinSelf i) = length head_fields + 2 + requests + i
place_of requests strips (TwinOtherRequest i) = length head_fields + 2 + requests + i
place_of requests strips (TwinNotMutual i) = length head_fields + 2 + requests + i
place_of requests strips (SameStrip x y value) = length head_fields + 3 + requests + strips + x
place_of requests strips (Shortcut x y z) = length head_fields + 3 + requests + strips + x
place_of requests strips _ = 0

-- the number of the line at a place among the lines that count
abbrev pub line_number : List ℕ → ℕ → ℕ
line_number bytes k = (slice_index_or (lines_that_count bytes) k no_line).number

-- The bytes have the form of a text. What they say, J, breaks a rule, and the refusal names it with its line.
pub record IsBroken (bytes : List ℕ) (r : Refusal) (J : Orbit) : Type 0 where
  pub form : form_fault bytes ≡ None
  pub said : Say bytes J
  pub limits : IsInForm J
  pub breach : IsBreach J r.cause
  pub line : r.line ≡ line_number bytes (place_of (length J.requests) (length J.strips) r.cause)

-- The refusal of these bytes: the first fault of their form, or else the first rule that what they say breaks.
abbrev pub IsRefusal : List ℕ → Refusal → Type 0
IsRefusal bytes r = (form_fault bytes ≡ Some r) ⊎ ((J : Orbit) × IsBroken bytes r J)

-- The refusal of these bytes where they should begin with an instance text: that of what is looked at.
pub record IsFrontRefusal (bytes : List ℕ) (r : Refusal) : Type 0 where
  pub looked_at : ℕ
  pub front : IsLookedAt bytes looked_at
  pub refusal : IsRefusal (take looked_at bytes) r

-- what holds of the refusal, where the bytes were refused and memory didn't run out
abbrev pub IfRefused : TextRefusal → (Refusal → Type 0) → Type 0
IfRefused (Refused r) P = P r
IfRefused Memory P = ⊤

-- J was read, unless memory ran out
abbrev pub IsReadAs : Result Orbit TextRefusal → Orbit → Type 0
IsReadAs (Ok read) J = read ≡ J
IsReadAs (Err refusal) J = refusal ≡ Memory

-- J was read, of the first n bytes, unless memory ran out
abbrev pub IsFrontReadAs : Result (Orbit × ℕ) TextRefusal → ℕ → Orbit → Type 0
IsFrontReadAs (Ok read) n J = (read.0 ≡ J) × (read.1 ≡ n)
IsFrontReadAs (Err refusal) n J = refusal ≡ Memory
