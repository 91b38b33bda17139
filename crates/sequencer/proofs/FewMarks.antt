-- A proof has no more marks than labels: each mark is of a label that is there, and no two are of one.
use Rattle.std.proofs.Common.{◌≡◌, ◌≢◌, ℕ, ◌+◌, ◌<◌, ◌≤◌, ◌==◌, true, false, length, map, take, get_or, slice_get, Some, AllPairs, Contains, refl, sym, ◌∙◌, ap, subst, arith, true≢false}
use Rattle.std.proofs.lemmas.Bool.{and_from, eq-eqb}
use Rattle.std.proofs.lemmas.Bool.Decides.{Decides-eqb}
use Rattle.std.proofs.lemmas.Cmp.{nat_eq_equiv}
use Rattle.std.proofs.lemmas.List.{get_or-map, get_or-take, length-map, length-take}
use Rattle.std.proofs.lemmas.List.Elements.{Contains-get_or}
use Rattle.std.proofs.lemmas.List.FromFn.{length-range_with_len, get_or-range_with_len}
use Rattle.std.proofs.lemmas.Map.Keys.{any_passes_from_place}
use Rattle.std.proofs.lemmas.Map.Made.{is_member-Decides, length-le_from_is_member, IsDistinct-from_AllPairs}
use Rattle.std.proofs.lemmas.Option.{slice_get-get_or}
use Rattle.std.specs.List.{range_with_len}
use Rattle.std.specs.declared.alloc.Global.{Global}
use Rattle.std.specs.declared.vec.Vec.{Vec}
use Rattle.label_core.proofs.SameIds.{same_end_same}
use Rattle.proof_log.specs.AnswerText.{label_count}
use Rattle.proof_log.specs.Labels.{same_end, paths_in, is_mark_of, is_marked}
use Rattle.proof_log.specs.Rules.{NamesLabels, KeepsRetireRule, KeepsCutRule, IsProof}
use Rattle.proof_log.specs.declared.log.Log.{Log}
use Rattle.proof_log.specs.declared.mark.Mark.{Mark}
use Rattle.proof_log.specs.declared.mark.Mark.TheVariants.{Retire, Cut}
use Rattle.strip_model.specs.Orbit.{Orbit}
use Rattle.strip_model.specs.declared.end.End.{End}
use Rattle.strip_model.specs.declared.end.End.TheVariants.{Forward, Backward}

-- the label that a mark is of
abbrev side_of : Mark → End
side_of (Retire e a b) = e
side_of (Cut e a) = e

abbrev label_of : Mark → ℕ
label_of (Retire e a b) = a
label_of (Cut e a) = a

-- labels of both sides in one row
abbrev place : ℕ → End → ℕ → ℕ
place forward Forward a = a
place forward Backward a = forward + a

marks_own : (m : Mark) → is_mark_of (side_of m) (label_of m) m ≡ true
marks_own (Retire e a b) = and_from (same_end e e) (a == a) (same_end_same e) (eq-eqb a a refl)
marks_own (Cut e a) = and_from (same_end e e) (a == a) (same_end_same e) (eq-eqb a a refl)

-- two labels at one place are one
one_label : (forward : ℕ) (e f : End) (a b : ℕ) → (e ≡ Forward → a < forward) → (f ≡ Forward → b < forward) → place forward e a ≡ place forward f b
    → (e ≡ f) × (a ≡ b)
one_label forward Forward Forward a b ha hb same = (refl, same)
one_label forward Backward Backward a b ha hb same = (refl, omega (arith, same))
one_label forward Forward Backward a b ha hb same = absurd (omega (arith, ha refl, same))
one_label forward Backward Forward a b ha hb same = absurd (omega (arith, hb refl, same))

module _ (I : Orbit) (log : Log) (proof : IsProof I log) where
  sides : (length (paths_in log Forward) ≡ length log.forward.items) × (length (paths_in log Backward) ≡ length log.backward.items)
  sides = (length-map log.forward.items (λ (path : Vec ℕ Global). path.items), length-map log.backward.items (λ (path : Vec ℕ Global). path.items))

  there : (m : Mark) → NamesLabels log m → label_of m < length (paths_in log (side_of m))
  there (Retire e a b) h = h.0
  there (Cut e a) h = h

  unmarked_before : (j : ℕ) (m : Mark) → KeepsRetireRule I log (take j log.marks.items) m → KeepsCutRule I log (take j log.marks.items) m
      → is_marked (side_of m) (label_of m) (take j log.marks.items) ≡ false
  unmarked_before j (Retire e a b) h k = h.unmarked
  unmarked_before j (Cut e a) h k = k.unmarked

  abbrev code : Mark → ℕ
  code m = place (length (paths_in log Forward)) (side_of m) (label_of m)

  abbrev mark_at : ℕ → Mark → Mark
  mark_at j d = get_or log.marks.items j d

  is_there : (j : ℕ) (d : Mark) → j < length log.marks.items → label_of (mark_at j d) < length (paths_in log (side_of (mark_at j d)))
  is_there j d low = there (mark_at j d) (proof.there j (mark_at j d) (slice_get-get_or log.marks.items j d low))

  forward_low : (m : Mark) → label_of m < length (paths_in log (side_of m)) → side_of m ≡ Forward → label_of m < length (paths_in log Forward)
  forward_low m low side = subst (λ (e : End). label_of m < length (paths_in log e)) side low

  -- no two marks are of one label
  differ : (d : Mark) (j k : ℕ) → j < k → k < length log.marks.items → code (mark_at j d) ≢ code (mark_at k d)
  differ d j k less low same =
      let at_j = is_there j d (omega (arith, less, low)) in
      let at_k = is_there k d low in
      let one = one_label (length (paths_in log Forward)) (side_of (mark_at j d)) (side_of (mark_at k d)) (label_of (mark_at j d)) (label_of (mark_at k d))
      (forward_low (mark_at j d) at_j) (forward_low (mark_at k d) at_k) same in
      let get = slice_get-get_or log.marks.items k d low in
      let unmarked = unmarked_before k (mark_at k d) (proof.retired k (mark_at k d) get) (proof.cut_off k (mark_at k d) get) in
      let in_front : j < length (take k log.marks.items) = omega (arith, less, low, length-take k log.marks.items) in
      let in_take : slice_get (take k log.marks.items) j ≡ Some (mark_at j d) =
      slice_get-get_or (take k log.marks.items) j d in_front ∙ ap (λ (m : Mark). Some m) (get_or-take k log.marks.items j d less) in
      let own : is_mark_of (side_of (mark_at k d)) (label_of (mark_at k d)) (mark_at j d) ≡ true =
      subst (λ (e : End). is_mark_of e (label_of (mark_at k d)) (mark_at j d) ≡ true) one.0
      (subst (λ (a : ℕ). is_mark_of (side_of (mark_at j d)) a (mark_at j d) ≡ true) one.1 (marks_own (mark_at j d))) in
      let marked : is_marked (side_of (mark_at k d)) (label_of (mark_at k d)) (take k log.marks.items) ≡ true =
      any_passes_from_place (is_mark_of (side_of (mark_at k d)) (label_of (mark_at k d))) (take k log.marks.items) j (mark_at j d) in_take own in
      true≢false (sym marked ∙ unmarked)

  AllPairs-codes : AllPairs (λ x y. x ≢ y) (map code log.marks.items)
  AllPairs-codes j k d less low same =
      let below : k < length log.marks.items = omega (arith, low, length-map log.marks.items code) in
      differ (Cut Forward 0) j k less below
      (sym (get_or-map code log.marks.items j (Cut Forward 0) d (omega (arith, less, below))) ∙ same
      ∙ get_or-map code log.marks.items k (Cut Forward 0) d below)

  place_below : (e : End) (a : ℕ) → a < length (paths_in log e)
      → place (length (paths_in log Forward)) e a < length (paths_in log Forward) + length (paths_in log Backward)
  place_below Forward a low = omega (arith, low)
  place_below Backward a low = omega (arith, low)

  in_row : (q n : ℕ) → q < n → Contains (range_with_len 0 n) q
  in_row q n low =
      let is : get_or (range_with_len 0 n) q 0 ≡ q = omega (arith, get_or-range_with_len 0 n q 0 low) in
      subst (λ (x : ℕ). Contains (range_with_len 0 n) x) is
      (Contains-get_or (range_with_len 0 n) q 0 (omega (arith, low, length-range_with_len 0 n)))

  code_in_row : (q : ℕ) → Contains (map code log.marks.items) q
      → Contains (range_with_len 0 (length (paths_in log Forward) + length (paths_in log Backward))) q
  code_in_row q (i, low, is) =
      let below : i < length log.marks.items = omega (arith, low, length-map log.marks.items code) in
      let at_i = is_there i (Cut Forward 0) below in
      let of_mark : code (mark_at i (Cut Forward 0)) ≡ q = sym (get_or-map code log.marks.items i (Cut Forward 0) q below) ∙ is in
      in_row q (length (paths_in log Forward) + length (paths_in log Backward))
      (subst (λ (x : ℕ). x < length (paths_in log Forward) + length (paths_in log Backward)) of_mark
      (place_below (side_of (mark_at i (Cut Forward 0))) (label_of (mark_at i (Cut Forward 0))) at_i))

  pub marks_few : length log.marks.items ≤ label_count log
  marks_few =
      let le : length (map code log.marks.items) ≤ length (range_with_len 0 (length (paths_in log Forward) + length (paths_in log Backward))) =
      length-le_from_is_member nat_eq_equiv (map code log.marks.items) (range_with_len 0 (length (paths_in log Forward) + length (paths_in log Backward)))
      (IsDistinct-from_AllPairs Decides-eqb (map code log.marks.items) AllPairs-codes)
      (λ q inside.
      (is_member-Decides Decides-eqb (range_with_len 0 (length (paths_in log Forward) + length (paths_in log Backward))) q).1
      (code_in_row q ((is_member-Decides Decides-eqb (map code log.marks.items) q).0 inside))) in
      omega (
        arith,
        le,
        length-map log.marks.items code,
        length-range_with_len 0 (length (paths_in log Forward) + length (paths_in log Backward)),
        sides.0,
        sides.1,
      )
