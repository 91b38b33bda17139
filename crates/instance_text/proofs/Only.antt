-- What is an instance text is read, as the one instance that it says.
use Rattle.std.proofs.Common.{◌≡◌, ◌≢◌, ℕ, List, [], ◌∷◌, map, get_or, Option, Some, refl, sym, ap, subst, ◌∙◌, arith, inl, inr}
use Rattle.std.proofs.lemmas.List.{get_or_default}
use Rattle.std.proofs.lemmas.Option.{IfSome_then}
use Rattle.manoeuvre.specs.Grid.{Grid}
use Rattle.manoeuvre.specs.Refusal as table
use Rattle.manoeuvre.specs.declared.refusal.TableRefusal.TheVariants as table_refusal
use Rattle.stereo_twins.specs.Refusal as twins
use Rattle.stereo_twins.specs.declared.twin_refusal.TwinRefusal.{TwinRefusal}
use Rattle.stereo_twins.specs.declared.twin_refusal.TwinRefusal.TheVariants as twin_refusal
use Rattle.strip_model.proofs.TwinRules.{refused-twins_in}
use Rattle.strip_model.proofs.Durations.{length-durations_of, durations_of-at}
use Rattle.strip_model.specs.IsInstance.{IsInstance, KeepsTwins}
use Rattle.strip_model.specs.Orbit.{Orbit, no_strip, strip_in, window_of, duration_at}
use Rattle.strip_model.specs.Refusal.{durations_of}
use Rattle.strip_model.specs.Twins.{twins_in, requests_in}
use Rattle.strip_model.specs.declared.strip.Strip.{Strip}
use Rattle.instance_text.specs.Refusal.{IsBreach, IsRefusal, IfRefused}
use Rattle.instance_text.specs.Shape.{form_fault}
use Rattle.instance_text.specs.Text.{IsInForm, IsText}
use Rattle.instance_text.specs.declared.refusal.Cause.{Cause}
use Rattle.instance_text.specs.declared.refusal.Cause.TheVariants.{Ended, Word, Number, Range, TooMany, Extra, TwinNotMutual, TwinSelf, TwinOtherRequest, SameStrip, Shortcut, Version}
use Rattle.instance_text.specs.declared.refusal.Refusal.{Refusal}
use Rattle.instance_text.specs.declared.refusal.TextRefusal.{TextRefusal}
use Rattle.instance_text.specs.declared.refusal.TextRefusal.TheVariants.{Refused, Memory}
use Rattle.instance_text.proofs.OneMeaning.{AreSame, one_meaning, with_two_windows}
use Rattle.instance_text.proofs.Standing.{form_stands}

-- an instance of a text has the form of one
pub in_form : (bytes : List ℕ) (J : Orbit) → IsText bytes J → IsInForm J
in_form bytes J t = record {
  limits = t.sound.limits;
  twins = λ k d lt. rw (get_or_default J.strips k d no_strip lt) (IfSome_then (strip_in J.strips k).twin (t.sound.twins k lt) (λ j h. h.there));
  windows = t.windows;
  size = t.sound.table_size;
  square = t.sound.table.square;
  entries = t.sound.table.bounded;
}

-- ---- an instance breaks no rule

no_twin_cause : (ss : List Strip) (refusal : TwinRefusal) → KeepsTwins ss → twins.IsCause (twins_in ss) (requests_in ss) refusal → refusal ≢ twin_refusal.Memory → ⊥
no_twin_cause ss refusal keeps h other = other (refused-twins_in ss refusal keeps h)

grid_is : (J : Orbit) → IsInstance J → J.table ≡ table.grid_of (durations_of J.strips) J.table.entries
grid_is J sound = ap (λ (n : ℕ). record { size = n; entries = J.table.entries }) (sound.table_size ∙ sym (length-durations_of J.strips))

no_same_strip : (J : Orbit) (x y value : ℕ) → IsInstance J → table.IsCause (durations_of J.strips) J.table.entries (table_refusal.SameStrip x y value) → ⊥
no_same_strip J x y value sound h =
    let breaks = subst (λ (t : Grid). table.BreaksSameStrip t x y) (sym (grid_is J sound)) h.1.breaks in
    breaks.takes_time (sound.table.same_strip.at_each x y breaks.row breaks.column breaks.one_strip)

no_shortcut : (J : Orbit) (x y z : ℕ) → IsInstance J → table.IsCause (durations_of J.strips) J.table.entries (table_refusal.Shortcut x y z) → ⊥
no_shortcut J x y z sound h =
    let breaks = subst (λ (t : Grid). table.BreaksShortcut (λ y. get_or (durations_of J.strips) y 0) t x y z) (sym (grid_is J sound)) h.2.breaks in
    let kept = sound.shortcut.at_each x y z breaks.first breaks.second breaks.third breaks.three_strips in
    let duration : get_or (durations_of J.strips) y 0 ≡ duration_at J y = durations_of-at J.strips y 0 (omega (arith, sound.table_size, breaks.second)) in
    let saves = breaks.saves_time in
    omega arith

twins_through : (ss : List Strip) → twins_in (map with_two_windows ss) ≡ twins_in ss
twins_through [] = refl
twins_through (s ∷ ss) = ap (λ (os : List (Option ℕ)). s.twin ∷ os) (twins_through ss)

requests_through : (ss : List Strip) → requests_in (map with_two_windows ss) ≡ requests_in ss
requests_through [] = refl
requests_through (s ∷ ss) = ap (λ (ns : List ℕ). s.request ∷ ns) (requests_through ss)

durations_through : (ss : List Strip) → durations_of (map with_two_windows ss) ≡ durations_of ss
durations_through [] = refl
durations_through (s ∷ ss) = ap (λ (ns : List ℕ). (window_of s 0).duration ∷ (window_of s 1).duration ∷ ns) (durations_through ss)

-- instances of one list of lines have the same lists, by which rules are tested
pub record SameLists (J K : Orbit) : Type 0 where
  pub twins : twins_in K.strips ≡ twins_in J.strips
  pub requests : requests_in K.strips ≡ requests_in J.strips
  pub durations : durations_of K.strips ≡ durations_of J.strips
  pub entries : K.table.entries ≡ J.table.entries

pub same_lists : (J K : Orbit) → AreSame K J → SameLists J K
same_lists J K same = record {
  twins = sym (twins_through K.strips) ∙ ap twins_in same.strips ∙ twins_through J.strips;
  requests = sym (requests_through K.strips) ∙ ap requests_in same.strips ∙ requests_through J.strips;
  durations = sym (durations_through K.strips) ∙ ap durations_of same.strips ∙ durations_through J.strips;
  entries = same.entries;
}

no_breach : (J K : Orbit) (cause : Cause) → IsInstance J → AreSame K J → IsBreach K cause → ⊥
no_breach J K cause sound same h =
    let lists = same_lists J K same in
    by_cause J K cause sound lists.twins lists.requests lists.durations lists.entries h where
      by_cause : (J K : Orbit) (cause : Cause) → IsInstance J → twins_in K.strips ≡ twins_in J.strips → requests_in K.strips ≡ requests_in J.strips → durations_of K.strips ≡ durations_of J.strips
          → K.table.entries ≡ J.table.entries → IsBreach K cause → ⊥
      by_cause J K Ended sound t r d e h = h
      by_cause J K Word sound t r d e h = h
      by_cause J K Number sound t r d e h = h
      by_cause J K Range sound t r d e h = h
      by_cause J K TooMany sound t r d e h = h
      by_cause J K Extra sound t r d e h = h
      by_cause J K Version sound t r d e h = h
      by_cause J K (TwinSelf i) sound t r d e h = no_twin_cause J.strips (twin_refusal.SelfTwin i) sound.twins (rw (t, r) at h) (λ e. cc)
      by_cause J K (TwinOtherRequest i) sound t r d e h = no_twin_cause J.strips (twin_refusal.OtherRequest i) sound.twins (rw (t, r) at h) (λ e. cc)
      by_cause J K (TwinNotMutual i) sound t r d e h = no_twin_cause J.strips (twin_refusal.NotMutual i) sound.twins (rw (t, r) at h) (λ e. cc)
      by_cause J K (SameStrip x y value) sound t r d e h = no_same_strip J x y value sound (rw (d, e) at h.1)
      by_cause J K (Shortcut x y z) sound t r d e h = no_shortcut J x y z sound (rw (d, e) at h.1)

-- ---- what was read

pub not_refused : (bytes : List ℕ) (J : Orbit) (r : Refusal) → IsText bytes J → IsRefusal bytes r → ⊥
not_refused bytes J r t (inl fault) = let none = form_stands bytes J (in_form bytes J t) t.lines in cc
not_refused bytes J r t (inr (K, broken)) =
    no_breach J K r.cause t.sound (one_meaning K J broken.limits (in_form bytes J t) (sym broken.said ∙ t.lines)) broken.breach

pub memory_only : (bytes : List ℕ) (e : TextRefusal) (J : Orbit) → IsText bytes J → IfRefused e (λ r. form_fault bytes ≡ Some r) → e ≡ Memory
memory_only bytes Memory J t h = refl
memory_only bytes (Refused r) J t h = absurd (not_refused bytes J r t (inl h))
