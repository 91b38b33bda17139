-- A list of twins is refused for one cause.
use Rattle.std.proofs.Common.{◌≡◌, ◌≢◌, ℕ, List, Option, Some, refl, sym, ap, ◌∙◌, inl, inr}
use Rattle.std.specs.Prelude.{slice_index}
use Rattle.std.proofs.lemmas.Bool.{cases_order}
use Rattle.stereo_twins.specs.Refusal.{IsCause, KeepsRules, KeptBelow}
use Rattle.stereo_twins.specs.Twins.{twin}
use Rattle.stereo_twins.specs.declared.twin_refusal.TwinRefusal.{TwinRefusal}
use Rattle.stereo_twins.specs.declared.twin_refusal.TwinRefusal.TheVariants.{SelfTwin, OtherRequest, NotMutual, Memory}

-- the strip that a refusal names
abbrev strip_named : TwinRefusal → ℕ
strip_named (SelfTwin i) = i
strip_named (OtherRequest i) = i
strip_named (NotMutual i) = i
strip_named Memory = 0

-- the strips before it keep the rules
kept_before : (ts : List (Option ℕ)) (rs : List ℕ) (r : TwinRefusal) → r ≢ Memory → IsCause ts rs r → KeptBelow ts rs (strip_named r)
kept_before ts rs (SelfTwin i) named h = h.0
kept_before ts rs (OtherRequest i) named h = h.0
kept_before ts rs (NotMutual i) named h = h.0
kept_before ts rs Memory named h = absurd (named refl)

-- and it doesn't
broken_there : (ts : List (Option ℕ)) (rs : List ℕ) (r : TwinRefusal) → r ≢ Memory → IsCause ts rs r → KeepsRules ts rs (strip_named r) → ⊥
broken_there ts rs (SelfTwin i) named h keeps = keeps.differs i h.1 refl
broken_there ts rs (OtherRequest i) named h keeps = h.1.3 (keeps.one_request h.1.0 h.1.1)
broken_there ts rs (NotMutual i) named h keeps = h.1.4 (keeps.returns h.1.0 h.1.1)
broken_there ts rs Memory named h keeps = named refl

one_strip_named : (ts : List (Option ℕ)) (rs : List ℕ) (r s : TwinRefusal) → r ≢ Memory → s ≢ Memory → IsCause ts rs r → IsCause ts rs s → strip_named r ≡ strip_named s
one_strip_named ts rs r s named_r named_s hr hs =
    elim (cases_order (strip_named r) (strip_named s)) [
      | inl e ↦ e
      | inr (inl lt) ↦ absurd (broken_there ts rs r named_r hr (kept_before ts rs s named_s hs (strip_named r) lt))
      | inr (inr lt) ↦ absurd (broken_there ts rs s named_s hs (kept_before ts rs r named_r hr (strip_named s) lt))
    ]

-- a strip has one twin
one_twin : (ts : List (Option ℕ)) (i k a b : ℕ) → i ≡ k → twin ts i ≡ Some a → twin ts k ≡ Some b → a ≡ b
one_twin ts i k a b e ha hb =
    let same : Some a ≡ Some b = sym ha ∙ ap (λ (n : ℕ). twin ts n) e ∙ hb in
    cc

-- who is its own twin has no other
not_own : (ts : List (Option ℕ)) (i k j : ℕ) → i ≡ k → twin ts i ≡ Some i → twin ts k ≡ Some j → j ≢ k → ⊥
not_own ts i k j e own other differs = differs (sym (one_twin ts i k i j e own other) ∙ e)

-- whose twin is of another request has none of its own
not_of_both : (ts : List (Option ℕ)) (rs : List ℕ) (i k a b : ℕ) → i ≡ k → twin ts i ≡ Some a → twin ts k ≡ Some b
    → slice_index rs a ≢ slice_index rs i → slice_index rs b ≡ slice_index rs k → ⊥
not_of_both ts rs i k a b e ha hb other same =
    other (ap (λ (n : ℕ). slice_index rs n) (one_twin ts i k a b e ha hb) ∙ same ∙ ap (λ (n : ℕ). slice_index rs n) (sym e))

-- The refusal of a list of twins is unique.
pub one_twin_cause : (ts : List (Option ℕ)) (rs : List ℕ) (r s : TwinRefusal) → r ≢ Memory → s ≢ Memory → IsCause ts rs r → IsCause ts rs s → r ≡ s
one_twin_cause ts rs r s named_r named_s hr hs = by_cause r s named_r named_s (one_strip_named ts rs r s named_r named_s hr hs) hr hs where
  by_cause : (r s : TwinRefusal) → r ≢ Memory → s ≢ Memory → strip_named r ≡ strip_named s → IsCause ts rs r → IsCause ts rs s → r ≡ s
  by_cause (SelfTwin i) (SelfTwin k) named_r named_s e hr hs = ap (λ (n : ℕ). SelfTwin n) e
  by_cause (SelfTwin i) (OtherRequest k) named_r named_s e hr hs = absurd (not_own ts i k hs.1.0 e hr.1 hs.1.1 hs.1.2)
  by_cause (SelfTwin i) (NotMutual k) named_r named_s e hr hs = absurd (not_own ts i k hs.1.0 e hr.1 hs.1.1 hs.1.2)
  by_cause (SelfTwin i) Memory named_r named_s e hr hs = absurd (named_s refl)
  by_cause (OtherRequest i) (SelfTwin k) named_r named_s e hr hs = absurd (not_own ts k i hr.1.0 (sym e) hs.1 hr.1.1 hr.1.2)
  by_cause (OtherRequest i) (OtherRequest k) named_r named_s e hr hs = ap (λ (n : ℕ). OtherRequest n) e
  by_cause (OtherRequest i) (NotMutual k) named_r named_s e hr hs = absurd (not_of_both ts rs i k hr.1.0 hs.1.0 e hr.1.1 hs.1.1 hr.1.3 hs.1.3)
  by_cause (OtherRequest i) Memory named_r named_s e hr hs = absurd (named_s refl)
  by_cause (NotMutual i) (SelfTwin k) named_r named_s e hr hs = absurd (not_own ts k i hr.1.0 (sym e) hs.1 hr.1.1 hr.1.2)
  by_cause (NotMutual i) (OtherRequest k) named_r named_s e hr hs = absurd (not_of_both ts rs k i hs.1.0 hr.1.0 (sym e) hs.1.1 hr.1.1 hs.1.3 hr.1.3)
  by_cause (NotMutual i) (NotMutual k) named_r named_s e hr hs = ap (λ (n : ℕ). NotMutual n) e
  by_cause (NotMutual i) Memory named_r named_s e hr hs = absurd (named_s refl)
  by_cause Memory s named_r named_s e hr hs = absurd (named_r refl)
