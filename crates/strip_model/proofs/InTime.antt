-- An order that is in time, with one more directed strip.
use Rattle.std.proofs.Common.{◌≡◌, ℕ, ◌+◌, ◌<◌, ◌≤◌, true, false, List, [], ◌∷◌, ◌++◌, length, take, drop, get_or, sym, ◌∙◌, ap, subst, arith}
use Rattle.std.proofs.lemmas.Bool.{both_ways}
use Rattle.std.proofs.lemmas.List.{take_more, take-append-drop}
use Rattle.strip_model.proofs.Starts.{earliest_push, Fits-push, Fits-push_parts, Fits-append_parts}
use Rattle.strip_model.proofs.Words.{StripsExist-push, StripsExist-append_parts, StripsDistinct-push, StripsDistinct-push_parts, StripsDistinct-append_parts, order_of-append}
use Rattle.strip_model.specs.Directed.{strip_of, has_strip}
use Rattle.strip_model.specs.Orbit.{Orbit, late_at}
use Rattle.strip_model.specs.Plan.{order_of}
use Rattle.strip_model.specs.Starts.{arrive, earliest, place_after, IsInTime, HasEarliestStarts}
use Rattle.strip_model.specs.Starts.Place.{Root}
use Rattle.strip_model.specs.declared.acquisition.Acquisition.{Acquisition}

pub IsInTime-push : (J : Orbit) (xs : List ℕ) (x : ℕ) → IsInTime J xs → strip_of x < length J.strips → has_strip (strip_of x) xs ≡ false
    → (start late : ℕ) → start ≡ arrive J (place_after J Root xs) x → late ≡ late_at J x → start ≤ late → IsInTime J (xs ++ x ∷ [])
IsInTime-push J xs x h exists new start late starts ends in_time = record {
  exist = StripsExist-push J xs x h.exist exists;
  distinct = StripsDistinct-push xs x h.distinct new;
  fits = Fits-push J Root xs x h.fits (within start late _ _ starts ends in_time);
}
  where
    within : (start late s l : ℕ) → start ≡ s → late ≡ l → start ≤ late → s ≤ l
    within start late s l e f h = omega arith

-- a strip that doesn't exist can't follow
pub no_strip_follows : (J : Orbit) (xs : List ℕ) (x : ℕ) → length J.strips ≤ strip_of x → IsInTime J (xs ++ x ∷ []) → ⊥
no_strip_follows J xs x none h = let exist = StripsExist-append_parts J xs (x ∷ []) h.exist in omega (arith, exist.1.0, none)

-- nor one that stands in the order
pub none_follows_twice : (J : Orbit) (xs : List ℕ) (x : ℕ) → has_strip (strip_of x) xs ≡ true → IsInTime J (xs ++ x ∷ []) → ⊥
none_follows_twice J xs x twice h = both_ways _ (StripsDistinct-push_parts xs x h.distinct).1 twice

-- nor one that would start late
pub none_follows_late : (J : Orbit) (xs : List ℕ) (x start late : ℕ) → start ≡ arrive J (place_after J Root xs) x → late ≡ late_at J x → late < start
    → IsInTime J (xs ++ x ∷ []) → ⊥
none_follows_late J xs x start late starts ends past h = clash start late _ _ starts ends past (Fits-push_parts J Root xs x h.fits).1
  where
    clash : (start late s l : ℕ) → start ≡ s → late ≡ l → late < start → s ≤ l → ⊥
    clash start late s l e f h k = omega arith

-- the beginning of an order that is in time is so
pub IsInTime-front : (J : Orbit) (xs ys : List ℕ) → IsInTime J (xs ++ ys) → IsInTime J xs
IsInTime-front J xs ys h = record {
  exist = (StripsExist-append_parts J xs ys h.exist).0;
  distinct = (StripsDistinct-append_parts xs ys h.distinct).0;
  fits = (Fits-append_parts J Root xs ys h.fits).0;
}

-- where an order isn't in time up to a directed strip, the whole isn't
pub none_in_time : (J : Orbit) (order front : List ℕ) (i x : ℕ) → i < length order → x ≡ get_or order i x → front ≡ take i order
    → (IsInTime J (front ++ x ∷ []) → ⊥) → IsInTime J order → ⊥
none_in_time J order front i x l at before none h =
    let T : List ℕ → Type 0 = λ xs. IsInTime J xs in
    let so_far : take (i + 1) order ≡ front ++ x ∷ [] =
    take_more order i x l ∙ ap (λ (xs : List ℕ). xs ++ get_or order i x ∷ []) (sym before) ∙ ap (λ (y : ℕ). front ++ y ∷ []) (sym at) in
    none (subst T so_far (IsInTime-front J (take (i + 1) order) (drop (i + 1) order) (subst T (sym (take-append-drop (i + 1) order)) h)))

-- the order of a plan with one more acquisition
pub order_of-push : (plan : List Acquisition) (a : Acquisition) → order_of (plan ++ a ∷ []) ≡ order_of plan ++ a.at ∷ []
order_of-push plan a = order_of-append plan (a ∷ [])

-- a plan at earliest starts has them with one more that starts as early as it can
pub HasEarliestStarts-push : (J : Orbit) (plan : List Acquisition) (start x : ℕ) → HasEarliestStarts J plan
    → start ≡ arrive J (place_after J Root (order_of plan)) x → HasEarliestStarts J (plan ++ record { start = start; at = x } ∷ [])
HasEarliestStarts-push J plan start x h e =
    let order = order_of plan in
    let made : ℕ → Acquisition = λ start. record { start = start; at = x } in
    ap (λ (front : List Acquisition). front ++ made start ∷ []) h
    ∙ ap (λ (s : ℕ). earliest J Root order ++ made s ∷ []) e
    ∙ sym (earliest_push J Root order x)
    ∙ ap (λ (xs : List ℕ). earliest J Root xs) (sym (order_of-push plan (made start)))
