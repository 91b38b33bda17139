-- Which entries stand for the labels of a list.
use Rattle.std.proofs.Common.{◌≡◌, ℕ, zero, suc, ◌*◌, ◌<◌, ◌≤◌, List, [], ◌∷◌, All, Option, Some, length, get_or, slice_get, refl, sym, ◌∙◌, ap, subst, inl, inr, arith}
use Rattle.std.proofs.lemmas.List.Sorted.{Contains-permutation, IsPermutation-sym}
use Rattle.std.proofs.lemmas.Option.{slice_get_within, slice_get-get_or}
use Rattle.std.specs.List.Sorted.{IsNonDecreasingBy, IsPermutation}
use Rattle.joiner.proofs.Looking.{IsSound-root, place_of_element, element_of_place}
use Rattle.joiner.specs.Entries.{root, IsSound, IsOfLast, IsAmong}
use Rattle.joiner.specs.Grouping.{IsGathered}
use Rattle.joiner.specs.Pairs.{place_of}
use Rattle.joiner.specs.Represented.{IsEntry, AreEntries, IsRanked, AreRanked, IsEntryAt, Represents, IsFirst, IsRanking}
use Rattle.joiner.specs.Tips.{IsTipAt}
use Rattle.joiner.specs.declared.entry.Entry.{Entry}
use Rattle.joiner.specs.declared.group.Group.{Group}
use Rattle.joiner.specs.declared.ranked.Ranked.{Ranked}
use Rattle.joiner.specs.declared.tip.Tip.{Tip}
use Rattle.label.specs.Labels.{path_of}
use Rattle.label.specs.declared.label.Label.{Label}
use Rattle.strip_model.specs.Directed.{strip_of}
use Rattle.strip_model.specs.Orbit.{Orbit}
use Rattle.strip_model.specs.Reach.{bound}
use Rattle.strip_model.specs.declared.end.End.{End}
use Rattle.strip_model.specs.declared.end.End.TheVariants.{Forward, Backward}

-- the root's entry
pub IsEntryAt-root : (J : Orbit) (e : End) (labels : List Label) → IsEntryAt J e labels 0 root
IsEntryAt-root J e labels = record { there = omega arith; tip = refl; place = refl; sound = IsSound-root J }

-- a label's entry
pub IsEntryAt-label : (J : Orbit) (e : End) (labels : List Label) (k : ℕ) (label : Label) (w : Entry) → slice_get labels k ≡ Some label
    → IsEntry J e k label w → IsEntryAt J e labels (suc k) w
IsEntryAt-label J e labels k label w at h = record {
  there = slice_get_within labels k label at;
  tip = subst (λ (o : Option Label). IsTipAt J e (path_of o) w.tip) (sym at)
      (subst (λ (o : Option Tip). IsTipAt J e label.path.items o) (sym h.has_tip) h.of);
  place = ap (λ (o : Option ℕ). place_of o) h.place;
  sound = h.sound;
}

-- the tip of a label's entry
pub IsTipAt-entry : (J : Orbit) (e : End) (k : ℕ) (label : Label) (w : Entry) → IsEntry J e k label w → IsTipAt J e label.path.items w.tip
IsTipAt-entry J e k label w h = subst (λ (o : Option Tip). IsTipAt J e label.path.items o) (sym h.has_tip) h.of

-- there is an element at each place
pub element_there : {X : Type 0} (xs : List X) (k : ℕ) → k < length xs → (x : X) × (slice_get xs k ≡ Some x)
element_there [] k l = absurd (omega arith)
element_there (x ∷ xs) zero l = (x, refl)
element_there (x ∷ xs) (suc k) l = element_there xs k (omega arith)

-- ---- the ranking

module _ (J : Orbit) (labels : List Label) (ranked order : List Ranked) (h : AreRanked J labels (length labels) ranked) (same : IsPermutation ranked order) where
  -- the label of one in the ranking
  ranked_label : (k : ℕ) (r : Ranked) → slice_get order k ≡ Some r → (m : ℕ) × (label : Label) × (slice_get labels m ≡ Some label) × IsRanked J m label r
  ranked_label k r at =
      let there = Contains-permutation order ranked r (IsPermutation-sym ranked order same) (element_of_place order r k at) in
      let label = element_there labels there.0 (omega (arith, h.size, there.1)) in
      (there.0, label.0, label.1, h.each there.0 label.0 r label.1 (place_of_element ranked r there.0 there.1 there.2))

  each_ranked : (f : Entry) → IsFirst order f → (i : ℕ) × IsEntryAt J Forward labels i f
  each_ranked f (inl is) = (0, subst (λ (e : Entry). IsEntryAt J Forward labels 0 e) (sym is) (IsEntryAt-root J Forward labels))
  each_ranked f (inr of) =
      let label = ranked_label of.0 of.1 of.2 in (
        suc label.0,
        subst (λ (e : Entry). IsEntryAt J Forward labels (suc label.0) e) of.3
            (IsEntryAt-label J Forward labels label.0 label.1 (of.1).entry label.2 (label.3).entry),
      )

  all_ranked : (i : ℕ) → i ≤ length labels → (f : Entry) × IsFirst order f × IsEntryAt J Forward labels i f
  all_ranked zero l = (root, inl refl, IsEntryAt-root J Forward labels)
  all_ranked (suc k) l =
      let label = element_there labels k (omega arith) in
      let r = element_there ranked k (omega (arith, h.size)) in
      let there = Contains-permutation ranked order r.0 same (element_of_place ranked r.0 k r.1) in (
        (r.0).entry,
        inr (there.0, r.0, place_of_element order r.0 there.0 there.1 there.2, refl),
        IsEntryAt-label J Forward labels k label.0 (r.0).entry label.1 (h.each k label.0 r.0 label.1 r.1).entry,
      )

  -- a permutation of the labels with their bounds is their ranking, if it rises
  pub IsRanking-sorted : IsNonDecreasingBy (λ r. r.bound) order → IsRanking J labels order
  IsRanking-sorted rising = record {
    represents = record { each = each_ranked; all = all_ranked };
    bounds = λ k r at.
        let label = ranked_label k r at in (
          suc label.0,
          IsEntryAt-label J Forward labels label.0 label.1 r.entry label.2 (label.3).entry,
          (label.3).bound ∙ ap (λ (o : Option Label). bound J (path_of o)) (sym label.2),
        );
    rising = rising;
  }

-- ---- the groups

-- the entries of labels are sound
pub AreEntries-sound : (J : Orbit) (e : End) (labels : List Label) (entries : List Entry) → AreEntries J e labels (length labels) entries → All (IsSound J) entries
AreEntries-sound J e labels entries h k d l =
    let label = element_there labels k (omega (arith, h.size, l)) in
    (h.each k label.0 (get_or entries k d) label.1 (slice_get-get_or entries k d l)).sound

module _ (J : Orbit) (labels : List Label) (entries : List Entry) (groups : List Group) (h : AreEntries J Backward labels (length labels) entries)
    (size : length groups ≡ 2 * length J.strips) (gathered : (y : ℕ) (g : Group) → slice_get groups y ≡ Some g → IsGathered entries y g.waiting.items) where
  each_among : (w : Entry) → IsAmong groups w → (i : ℕ) × IsEntryAt J Backward labels i w
  each_among w (inl is) = (0, subst (λ (e : Entry). IsEntryAt J Backward labels 0 e) (sym is) (IsEntryAt-root J Backward labels))
  each_among w (inr of) =
      let there = (gathered of.0 of.1 of.2).each w of.3 in
      let label = element_there labels there.0 (omega (arith, h.size, there.1)) in (
        suc there.0,
        IsEntryAt-label J Backward labels there.0 label.0 w label.1
            (h.each there.0 label.0 w label.1 (place_of_element entries w there.0 there.1 there.2)),
      )

  all_among : (i : ℕ) → i ≤ length labels → (w : Entry) × IsAmong groups w × IsEntryAt J Backward labels i w
  all_among zero l = (root, inl refl, IsEntryAt-root J Backward labels)
  all_among (suc k) l =
      let label = element_there labels k (omega arith) in
      let w = element_there entries k (omega (arith, h.size)) in
      let entry = h.each k label.0 w.0 label.1 w.1 in
      let y = entry.tip.last in
      let exist : strip_of y < length J.strips = entry.of.within.exist in
      let g = element_there groups y (omega (arith, size, exist)) in
      let last : IsOfLast y (w.0).tip = subst (λ (o : Option Tip). IsOfLast y o) (sym entry.has_tip) refl in (
        w.0,
        inr (y, g.0, g.1, (gathered y g.0 g.1).all w.0 (element_of_place entries w.0 k w.1) last),
        IsEntryAt-label J Backward labels k label.0 w.0 label.1 entry,
      )

  -- the groups of the labels' entries stand for the labels
  pub Represents-grouped : Represents J Backward labels (IsAmong groups)
  Represents-grouped = record { each = each_among; all = all_among }
