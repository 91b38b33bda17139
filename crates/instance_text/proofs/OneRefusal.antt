-- The refusal of a text is unique, and so is that of a front.
use Rattle.std.proofs.Common.{◌≡◌, ◌≢◌, ℕ, List, Option, Some, length, take, refl, sym, ap, subst, ◌∙◌, arith, inl, inr}
use Rattle.std.specs.Prelude.{◌⊎◌, slice_index}
use Rattle.manoeuvre.specs.Refusal as table
use Rattle.manoeuvre.specs.Grid.{entry_at}
use Rattle.stereo_twins.specs.Refusal as twins
use Rattle.stereo_twins.specs.declared.twin_refusal.TwinRefusal.{TwinRefusal}
use Rattle.stereo_twins.specs.declared.twin_refusal.TwinRefusal.TheVariants as twin_refusal
use Rattle.strip_model.proofs.TwinRules.{refused-twins_in}
use Rattle.strip_model.specs.Orbit.{Orbit}
use Rattle.strip_model.specs.Refusal.{durations_of}
use Rattle.strip_model.specs.Twins.{twins_in, requests_in}
use Rattle.instance_text.specs.Refusal.{IsBreach, IsBroken, IsRefusal, IsFrontRefusal, place_of, line_number}
use Rattle.instance_text.specs.declared.refusal.Cause.{Cause}
use Rattle.instance_text.specs.declared.refusal.Cause.TheVariants.{Ended, Word, Number, Range, TooMany, Extra, TwinNotMutual, TwinSelf, TwinOtherRequest, SameStrip, Shortcut, Version}
use Rattle.instance_text.specs.declared.refusal.Refusal.{Refusal}
use Rattle.instance_text.proofs.FrontLaws.{same_length}
use Rattle.instance_text.proofs.OneMeaning.{AreSame, one_meaning}
use Rattle.instance_text.proofs.OneTableCause.{one_same_strip, same_strip_broken, one_shortcut}
use Rattle.instance_text.proofs.OneTwinCause.{one_twin_cause}
use Rattle.instance_text.proofs.Only.{same_lists}

-- ---- the rule that is broken

-- the cause of a text for a cause of twins
abbrev twin_cause : TwinRefusal → Cause
twin_cause (twin_refusal.SelfTwin i) = TwinSelf i
twin_cause (twin_refusal.OtherRequest i) = TwinOtherRequest i
twin_cause (twin_refusal.NotMutual i) = TwinNotMutual i
twin_cause twin_refusal.Memory = Ended

-- no rule on twins is broken
abbrev TwinsStand : List (Option ℕ) → List ℕ → Type 0
TwinsStand ts rs = (refusal : TwinRefusal) → twins.IsCause ts rs refusal → refusal ≡ twin_refusal.Memory

-- the twins break a rule, for this cause
record BreakTwins (ts : List (Option ℕ)) (rs : List ℕ) (cause : Cause) : Type 0 where
  refusal : TwinRefusal
  named : refusal ≢ twin_refusal.Memory
  breaks : twins.IsCause ts rs refusal
  is : twin_cause refusal ≡ cause

-- the table breaks the same-strip rule, for this cause
record BreakSameStrip (ts : List (Option ℕ)) (rs ds es : List ℕ) (cause : Cause) : Type 0 where
  twins_stand : TwinsStand ts rs
  x : ℕ
  y : ℕ
  breaks : table.IsFirstSameStrip (table.grid_of ds es) x y
  is : SameStrip x y (entry_at (table.grid_of ds es) x y) ≡ cause

-- the table breaks the shortcut rule, for this cause
record BreakShortcut (ts : List (Option ℕ)) (rs ds es : List ℕ) (cause : Cause) : Type 0 where
  twins_stand : TwinsStand ts rs
  same_strip_stands : (x y : ℕ) → table.IsFirstSameStrip (table.grid_of ds es) x y → ⊥
  x : ℕ
  y : ℕ
  z : ℕ
  breaks : table.IsFirstShortcut (slice_index ds) (table.grid_of ds es) x y z
  is : Shortcut x y z ≡ cause

abbrev Broken : List (Option ℕ) → List ℕ → List ℕ → List ℕ → Cause → Type 0
Broken ts rs ds es cause = BreakTwins ts rs cause ⊎ (BreakSameStrip ts rs ds es cause ⊎ BreakShortcut ts rs ds es cause)

broken_from_breach : (J : Orbit) (cause : Cause) → IsBreach J cause → Broken (twins_in J.strips) (requests_in J.strips) (durations_of J.strips) J.table.entries cause
broken_from_breach J Ended h = absurd h
broken_from_breach J Word h = absurd h
broken_from_breach J Number h = absurd h
broken_from_breach J Range h = absurd h
broken_from_breach J TooMany h = absurd h
broken_from_breach J Extra h = absurd h
broken_from_breach J Version h = absurd h
broken_from_breach J (TwinSelf i) h = inl (record { refusal = twin_refusal.SelfTwin i; named = λ e. cc; breaks = h; is = refl })
broken_from_breach J (TwinOtherRequest i) h = inl (record { refusal = twin_refusal.OtherRequest i; named = λ e. cc; breaks = h; is = refl })
broken_from_breach J (TwinNotMutual i) h = inl (record { refusal = twin_refusal.NotMutual i; named = λ e. cc; breaks = h; is = refl })
broken_from_breach J (SameStrip x y value) h =
    inr (inl (record {
      twins_stand = λ refusal cause. refused-twins_in J.strips refusal h.0 cause;
      x = x;
      y = y;
      breaks = h.1.1;
      is = ap (λ (n : ℕ). SameStrip x y n) (sym h.1.2);
    }))
broken_from_breach J (Shortcut x y z) h =
    inr (inr (record {
      twins_stand = λ refusal cause. refused-twins_in J.strips refusal h.0 cause;
      same_strip_stands = λ a b first. same_strip_broken (table.grid_of (durations_of J.strips) J.table.entries) a b first h.1.1;
      x = x;
      y = y;
      z = z;
      breaks = h.1.2;
      is = refl;
    }))

same_strip_causes : (ts : List (Option ℕ)) (rs ds es : List ℕ) (c d : Cause) → BreakSameStrip ts rs ds es c → BreakSameStrip ts rs ds es d → c ≡ d
same_strip_causes ts rs ds es c d hc hd =
    let same = one_same_strip (table.grid_of ds es) hc.x hc.y hd.x hd.y hc.breaks hd.breaks in
    sym hc.is ∙ ap (λ (x : ℕ). SameStrip x hc.y (entry_at (table.grid_of ds es) x hc.y)) same.0
    ∙ ap (λ (y : ℕ). SameStrip hd.x y (entry_at (table.grid_of ds es) hd.x y)) same.1 ∙ hd.is

shortcut_causes : (ts : List (Option ℕ)) (rs ds es : List ℕ) (c d : Cause) → BreakShortcut ts rs ds es c → BreakShortcut ts rs ds es d → c ≡ d
shortcut_causes ts rs ds es c d hc hd =
    let same = one_shortcut (slice_index ds) (table.grid_of ds es) hc.x hc.y hc.z hd.x hd.y hd.z hc.breaks hd.breaks in
    sym hc.is ∙ ap (λ (x : ℕ). Shortcut x hc.y hc.z) same.0 ∙ ap (λ (y : ℕ). Shortcut hd.x y hc.z) same.1 ∙ ap (λ (z : ℕ). Shortcut hd.x hd.y z) same.2 ∙ hd.is

one_cause : (ts : List (Option ℕ)) (rs ds es : List ℕ) (c d : Cause) → Broken ts rs ds es c → Broken ts rs ds es d → c ≡ d
one_cause ts rs ds es c d (inl hc) (inl hd) =
    sym hc.is ∙ ap (λ (t : TwinRefusal). twin_cause t) (one_twin_cause ts rs hc.refusal hd.refusal hc.named hd.named hc.breaks hd.breaks) ∙ hd.is
one_cause ts rs ds es c d (inl hc) (inr (inl hd)) = absurd (hc.named (hd.twins_stand hc.refusal hc.breaks))
one_cause ts rs ds es c d (inl hc) (inr (inr hd)) = absurd (hc.named (hd.twins_stand hc.refusal hc.breaks))
one_cause ts rs ds es c d (inr (inl hc)) (inl hd) = absurd (hd.named (hc.twins_stand hd.refusal hd.breaks))
one_cause ts rs ds es c d (inr (inl hc)) (inr (inl hd)) = same_strip_causes ts rs ds es c d hc hd
one_cause ts rs ds es c d (inr (inl hc)) (inr (inr hd)) = absurd (hd.same_strip_stands hc.x hc.y hc.breaks)
one_cause ts rs ds es c d (inr (inr hc)) (inl hd) = absurd (hd.named (hc.twins_stand hd.refusal hd.breaks))
one_cause ts rs ds es c d (inr (inr hc)) (inr (inl hd)) = absurd (hc.same_strip_stands hd.x hd.y hd.breaks)
one_cause ts rs ds es c d (inr (inr hc)) (inr (inr hd)) = shortcut_causes ts rs ds es c d hc hd

-- what bytes say breaks a rule for one cause
one_breach : (J K : Orbit) (c d : Cause) → AreSame K J → IsBreach J c → IsBreach K d → c ≡ d
one_breach J K c d same hc hd =
    let lists = same_lists J K same in
    let broken = broken_from_breach K d hd in
    one_cause (twins_in J.strips) (requests_in J.strips) (durations_of J.strips) J.table.entries c d (broken_from_breach J c hc)
    (rw (lists.twins, lists.requests, lists.durations, lists.entries) at broken)

-- ---- refusals

one_if_broken : (bytes : List ℕ) (r s : Refusal) (J K : Orbit) → IsBroken bytes r J → IsBroken bytes s K → r ≡ s
one_if_broken bytes r s J K hr hs =
    let same = one_meaning K J hs.limits hr.limits (sym hs.said ∙ hr.said) in
    let cause : r.cause ≡ s.cause = one_breach J K r.cause s.cause same hr.breach hs.breach in
    let requests : length J.requests ≡ length K.requests = sym (ap length same.requests) in
    let strips : length J.strips ≡ length K.strips = omega (arith, hr.limits.size, hs.limits.size, same.size) in
    let line : r.line ≡ s.line =
    hr.line
    ∙ ap (λ (n : ℕ). line_number bytes (place_of n (length J.strips) r.cause)) requests
    ∙ ap (λ (n : ℕ). line_number bytes (place_of (length K.requests) n r.cause)) strips
    ∙ ap (λ (c : Cause). line_number bytes (place_of (length K.requests) (length K.strips) c)) cause
    ∙ sym hs.line in
    ap (λ (n : ℕ). record { line = n; cause = r.cause }) line ∙ ap (λ (c : Cause). record { line = s.line; cause = c }) cause

-- Bytes have one refusal.
pub one_refusal : (bytes : List ℕ) (r s : Refusal) → IsRefusal bytes r → IsRefusal bytes s → r ≡ s
one_refusal bytes r s (inl hr) (inl hs) = let same : Some r ≡ Some s = sym hr ∙ hs in cc
one_refusal bytes r s (inl hr) (inr (K, hs)) = let none = hs.form in cc
one_refusal bytes r s (inr (J, hr)) (inl hs) = let none = hr.form in cc
one_refusal bytes r s (inr (J, hr)) (inr (K, hs)) = one_if_broken bytes r s J K hr hs

-- So have bytes that should begin with a text.
pub one_front_refusal : (bytes : List ℕ) (r s : Refusal) → IsFrontRefusal bytes r → IsFrontRefusal bytes s → r ≡ s
one_front_refusal bytes r s hr hs =
    let same = same_length bytes hr.looked_at hs.looked_at hr.front hs.front in
    one_refusal (take hs.looked_at bytes) r s (subst (λ (n : ℕ). IsRefusal (take n bytes) r) same hr.refusal) hs.refusal
