-- The bound of a path, by its sets.
use Rattle.std.proofs.Common.{◌≡◌, ℕ, ◌+◌, ◌≤◌, Bool, true, false, not, ◌&&◌, ◌||◌, List, [], ◌∷◌, ◌++◌, refl, sym, ◌∙◌, ap, ap₂, inl, inr, le_trans, le_of_eq, true≢false}
use Rattle.std.proofs.lemmas.Bool.{cond-true, cond-false, and_from}
use Rattle.std.specs.List.{list_all}
use Rattle.label.proofs.PathAreas.{set_area-path, set_area-reach, area_where-either, reaches_strip-new, reaches_strip-set}
use Rattle.label.proofs.SetDifferences.{area_where_same}
use Rattle.label.specs.Outlines.{HasBoundSets, reaches_strip}
use Rattle.label.specs.Gaining.{set_area, set_gain}
use Rattle.strip_model.proofs.Completing.{completion_bounded}
use Rattle.strip_model.proofs.Orders.{IsFeasibleOrder-earliest}
use Rattle.strip_model.proofs.Shares.{gain_with_same}
use Rattle.strip_model.proofs.Starts.{gain_of-earliest}
use Rattle.strip_model.proofs.Words.{has_head, has_tail, has_cons_cases}
use Rattle.strip_model.specs.Directed.{has, has_strip}
use Rattle.strip_model.specs.Gain.{area_in, gain_with}
use Rattle.strip_model.specs.IsInstance.{IsInstance}
use Rattle.strip_model.specs.Orbit.{Orbit}
use Rattle.strip_model.specs.Plan.{Feasible, gain_of}
use Rattle.strip_model.specs.Reach.{needs, reaches, area_reached, bound}
use Rattle.strip_model.specs.Starts.{Root, earliest}

-- a test that passes each member passes the list
list_all-each : (p : ℕ → Bool) (xs : List ℕ) → ((z : ℕ) → has z xs ≡ true → p z ≡ true) → list_all p xs ≡ true
list_all-each p [] h = refl
list_all-each p (x ∷ xs) h = and_from (p x) (list_all p xs) (h x (has_head x xs)) (list_all-each p xs (λ z t. h z (has_tail z x xs t)))

-- a test that one member fails doesn't
list_all-but_one : (p : ℕ → Bool) (xs : List ℕ) (z : ℕ) → has z xs ≡ true → p z ≡ false → list_all p xs ≡ false
list_all-but_one p [] z there fails = absurd (true≢false (sym there))
list_all-but_one p (x ∷ xs) z there fails =
    elim (has_cons_cases z x xs there) [
      | inl same ↦ first (p x) (list_all p xs) (ap p (sym same) ∙ fails)
      | inr later ↦ rest (p x) (list_all p xs) (list_all-but_one p xs z later fails)
    ]
  where
    first : (a b : Bool) → a ≡ false → (a && b) ≡ false
    first false b e = refl
    first true b e = absurd (true≢false e)

    rest : (a b : Bool) → b ≡ false → (a && b) ≡ false
    rest false b e = refl
    rest true b e = e

-- the bound where a need isn't in reach
pub bound-unmet : (J : Orbit) (path : List ℕ) (z : ℕ) → has z (needs J path) ≡ true → reaches J path z ≡ false → bound J path ≡ 0
unfolding bound
bound-unmet J path z needed out =
    cond-false (list_all (reaches J path) (needs J path)) (gain_with J (λ r. area_in J r path + area_reached J r path)) 0
    (list_all-but_one (reaches J path) (needs J path) z needed out)

-- the bound where all needs are in reach
pub bound-met : (J : Orbit) (path : List ℕ) → ((z : ℕ) → has z (needs J path) ≡ true → reaches J path z ≡ true)
    → bound J path ≡ gain_with J (λ r. area_in J r path + area_reached J r path)
unfolding bound
bound-met J path met =
    cond-true (list_all (reaches J path) (needs J path)) (gain_with J (λ r. area_in J r path + area_reached J r path)) 0
    (list_all-each (reaches J path) (needs J path) met)

-- the strips of a path and those in its reach together gain what the bound says
pub set_gain-with_reach : (J : Orbit) (path visited needed reach strips both : List ℕ) → HasBoundSets J path visited needed reach
    → ((i : ℕ) → has i strips ≡ has_strip i reach) → ((i : ℕ) → has i both ≡ (has i visited || has i strips))
    → set_gain J both ≡ gain_with J (λ r. area_in J r path + area_reached J r path)
set_gain-with_reach J path visited needed reach strips both h strips_are joined =
    let in_reach : (i : ℕ) → has i strips ≡ reaches_strip J path i = λ i. strips_are i ∙ reaches_strip-set J path reach h.reach i in
    gain_with_same J (set_area J both) (λ r. area_in J r path + area_reached J r path)
    (λ r l.
    area_where_same J r (λ i. has i both) (λ i. has i visited || has i strips) joined
    ∙ area_where-either J r (λ i. has i visited) (λ i. has i strips) (λ i t. h.visited i ∙ reaches_strip-new J path i (sym (in_reach i) ∙ t))
    ∙ ap₂ (λ (p q : ℕ). p + q) (set_area-path J r path visited h.in_time h.visited) (set_area-reach J r path strips in_reach))

-- no need outside the reach: all are in reach
pub met_in_sets : (J : Orbit) (path visited needed reach missing : List ℕ) → HasBoundSets J path visited needed reach
    → ((z : ℕ) → has z missing ≡ (has z needed && not (has z reach))) → missing ≡ []
    → (z : ℕ) → has z (needs J path) ≡ true → reaches J path z ≡ true
met_in_sets J path visited needed reach missing h missing_are none z need =
    sym (h.reach z) ∙ all_in (has z needed) (has z reach) (sym (missing_are z) ∙ ap (λ (xs : List ℕ). has z xs) none) (h.needed z ∙ need)
  where
    all_in : (n r : Bool) → (n && not r) ≡ false → n ≡ true → r ≡ true
    all_in true true e t = refl
    all_in true false e t = absurd (true≢false e)
    all_in false r e t = absurd (true≢false (sym t))

-- a need outside the reach
pub unmet_in_sets : (J : Orbit) (path visited needed reach missing : List ℕ) (z : ℕ) → HasBoundSets J path visited needed reach
    → ((z : ℕ) → has z missing ≡ (has z needed && not (has z reach))) → has z missing ≡ true → bound J path ≡ 0
unmet_in_sets J path visited needed reach missing z h missing_are there =
    let parts = split (has z needed) (has z reach) (sym (missing_are z) ∙ there) in
    bound-unmet J path z (sym (h.needed z) ∙ parts.0) (sym (h.reach z) ∙ parts.1)
  where
    split : (n r : Bool) → (n && not r) ≡ true → (n ≡ true) × (r ≡ false)
    split true false e = (refl, refl)
    split true true e = absurd (true≢false (sym e))
    split false r e = absurd (true≢false (sym e))

-- no completion to a feasible plan gains more than the bound
pub completion-le-bound : (J : Orbit) → IsInstance J → (a c : List ℕ) (limit : ℕ) → limit ≡ bound J a → Feasible J (earliest J Root (a ++ c))
    → gain_of J (earliest J Root (a ++ c)) ≤ limit
completion-le-bound J inst a c limit is h =
    le_trans (le_of_eq (gain_of-earliest J (a ++ c))) (le_trans (completion_bounded J inst a c (IsFeasibleOrder-earliest J (a ++ c) h)) (le_of_eq (sym is)))
