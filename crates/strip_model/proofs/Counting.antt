-- The number of label paths: whoever has that many different ones has all, and nobody has more.
use Rattle.std.proofs.Common.{◌≡◌, ◌≢◌, ℕ, zero, suc, ◌+◌, ◌*◌, ◌/◌, ◌<◌, ◌≤◌, List, [], ◌∷◌, length, get_or, filter, AllPairs, Contains, sym, ◌∙◌, inl, inr, arith}
use Rattle.std.proofs.lemmas.Bool.{cases_Bool, both_ways}
use Rattle.std.proofs.lemmas.Cmp.{nat_list_eq_equiv}
use Rattle.std.proofs.lemmas.List.{get_or_default}
use Rattle.std.proofs.lemmas.List.Elements.{All-contains, All-from_get_or, filter_passes}
use Rattle.std.proofs.lemmas.List.Kept.{AllPairs-filter}
use Rattle.std.proofs.lemmas.List.Sums.{length-filter}
use Rattle.std.proofs.lemmas.Map.Made.{is_member-Decides, length-le_from_is_member, IsDistinct-from_AllPairs}
use Rattle.std.proofs.lemmas.Slice.Eq.{bytes_eq-Decides}
use Rattle.std.specs.List.{AllByRecursion}
use Rattle.std.specs.Set.{is_member}
use Rattle.std.specs.Str.{bytes_eq}
use Rattle.strip_model.proofs.Distinct.{length_distinct-le}
use Rattle.strip_model.proofs.LabelPathTest.{Decides-is_label_path}
use Rattle.strip_model.proofs.Lists.{Contains-filter, lists_up_to-different, lists_up_to-all}
use Rattle.strip_model.specs.Directed.{strip_of}
use Rattle.strip_model.specs.LabelPath.{LabelPath}
use Rattle.strip_model.specs.Orbit.{Orbit}
use Rattle.strip_model.specs.PathCount.{is_label_path, lists_up_to, path_count, path_count_of, AreLabelPaths, HasAllPaths}
use Rattle.strip_model.specs.Side.{Face, face_of}
use Rattle.strip_model.specs.declared.end.End.{End}
use Rattle.strip_model.specs.declared.end.End.TheVariants.{Forward, Backward}

-- all label paths of a side
abbrev pub label_paths : Face → List (List ℕ)
label_paths S = filter (is_label_path S) (lists_up_to (2 * length S.instance.strips) (length S.instance.strips))

-- there are as many of them as are counted
pub length-label_paths : (S : Face) → length (label_paths S) ≡ path_count S
unfolding path_count
length-label_paths S = length-filter (is_label_path S) (lists_up_to (2 * length S.instance.strips) (length S.instance.strips))

AllByRecursion-weaker : (P Q : ℕ → Type 0) → ((x : ℕ) → P x → Q x) → (xs : List ℕ) → AllByRecursion P xs → AllByRecursion Q xs
AllByRecursion-weaker P Q weaker [] h = tt
AllByRecursion-weaker P Q weaker (x ∷ xs) h = (weaker x h.0, AllByRecursion-weaker P Q weaker xs h.1)

-- each label path is one of them: its strips exist and are distinct, so it is no longer than there are strips
pub HasAllPaths-label_paths : (S : Face) → HasAllPaths S (label_paths S)
HasAllPaths-label_paths S path h =
    let n = length S.instance.strips in
    Contains-filter (is_label_path S) (lists_up_to (2 * n) n) path
    (lists_up_to-all (2 * n) n path
    (AllByRecursion-weaker (λ x. strip_of x < n) (λ x. x < 2 * n) (λ x l. below x n l) path h.in_time.exist)
    (length_distinct-le S.instance path h.in_time.exist h.in_time.distinct))
    ((Decides-is_label_path S path).1 h)
  where
    below : (x n : ℕ) → x / 2 < n → x < 2 * n
    below x n l = omega arith

-- they are label paths, none of them twice
pub AreLabelPaths-label_paths : (S : Face) → AreLabelPaths S (label_paths S)
AreLabelPaths-label_paths S =
    let n = length S.instance.strips in
    let all = lists_up_to (2 * n) n in
    record {
      each = λ k l. (Decides-is_label_path S (get_or (label_paths S) k [])).0 (filter_passes (is_label_path S) all k [] l);
      once = λ j k l below. AllPairs-filter (λ xs ys. xs ≢ ys) (is_label_path S) all (lists_up_to-different (2 * n) n) j k [] l below;
    }

-- different label paths at any default
AllPairs-AreLabelPaths : (S : Face) (paths : List (List ℕ)) → AreLabelPaths S paths → AllPairs (λ xs ys. xs ≢ ys) paths
AllPairs-AreLabelPaths S paths h j k d l below e =
    h.once j k l below (get_or_default paths j [] d (omega arith) ∙ e ∙ get_or_default paths k d [] below)

-- nobody has more different label paths of a side than are counted
pub length-le-path_count : (S : Face) (paths : List (List ℕ)) → AreLabelPaths S paths → length paths ≤ path_count S
length-le-path_count S paths h =
    rw (← length-label_paths S)
    (length-le_from_is_member nat_list_eq_equiv paths (label_paths S)
    (IsDistinct-from_AllPairs bytes_eq-Decides paths (AllPairs-AreLabelPaths S paths h))
    (λ path there. (is_member-Decides bytes_eq-Decides (label_paths S) path).1
    (HasAllPaths-label_paths S path
    (All-contains (LabelPath S) paths path (All-from_get_or (LabelPath S) paths [] h.each)
    ((is_member-Decides bytes_eq-Decides paths path).0 there)))))

-- a label path that doesn't stand among different ones is one more
AreLabelPaths-cons : (S : Face) (paths : List (List ℕ)) (path : List ℕ) → AreLabelPaths S paths → LabelPath S path
    → (Contains paths path → ⊥) → AreLabelPaths S (path ∷ paths)
AreLabelPaths-cons S paths path h is_path new = record { each = each; once = once }
  where
    each : (k : ℕ) → k < length (path ∷ paths) → LabelPath S (get_or (path ∷ paths) k [])
    each zero l = is_path
    each (suc k) l = h.each k (omega arith)

    once : (j k : ℕ) → j < k → k < length (path ∷ paths) → get_or (path ∷ paths) j [] ≢ get_or (path ∷ paths) k []
    once j zero l below = absurd (omega arith)
    once zero (suc k) l below = λ e. new (k, omega arith, get_or_default paths k path [] (omega arith) ∙ sym e)
    once (suc j) (suc k) l below = h.once j k (omega arith) (omega arith)

-- whoever has as many different label paths of a side as are counted has all
pub HasAllPaths-from_count : (S : Face) (paths : List (List ℕ)) → AreLabelPaths S paths → path_count S ≤ length paths → HasAllPaths S paths
HasAllPaths-from_count S paths h enough path is_path =
    let d = is_member-Decides bytes_eq-Decides paths path in
    elim (cases_Bool (is_member bytes_eq paths path)) [
      | inl there ↦ d.0 there
      | inr new ↦ absurd (omega (
        arith,
        enough,
        length-le-path_count S (path ∷ paths) (AreLabelPaths-cons S paths path h is_path (λ c. both_ways (is_member bytes_eq paths path) new (d.1 c))),
      ))
    ]

-- ---- both sides together

-- nobody has more different label paths of both sides than are counted
pub length-le-path_count_of : (J : Orbit) (cut : ℕ) (paths : End → List (List ℕ)) → ((e : End) → AreLabelPaths (face_of J cut e) (paths e))
    → length (paths Forward) + length (paths Backward) ≤ path_count_of J cut
length-le-path_count_of J cut paths h =
    let forward = length-le-path_count (face_of J cut Forward) (paths Forward) (h Forward) in
    let backward = length-le-path_count (face_of J cut Backward) (paths Backward) (h Backward) in
    omega (arith, forward, backward)

-- whoever has as many different label paths of both sides as are counted has all
pub HasAllPaths-from_count_of : (J : Orbit) (cut : ℕ) (paths : End → List (List ℕ)) → ((e : End) → AreLabelPaths (face_of J cut e) (paths e))
    → path_count_of J cut ≤ length (paths Forward) + length (paths Backward) → (e : End) → HasAllPaths (face_of J cut e) (paths e)
HasAllPaths-from_count_of J cut paths h enough e =
    HasAllPaths-from_count (face_of J cut e) (paths e) (h e) (of_side e)
  where
    of_side : (e : End) → path_count (face_of J cut e) ≤ length (paths e)
    of_side Forward = omega (arith, enough, length-le-path_count (face_of J cut Backward) (paths Backward) (h Backward))
    of_side Backward = omega (arith, enough, length-le-path_count (face_of J cut Forward) (paths Forward) (h Forward))
