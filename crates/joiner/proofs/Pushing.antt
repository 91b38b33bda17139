-- Lists that grow label by label.
use Rattle.std.proofs.Common.{◌≡◌, ℕ, ◌+◌, ◌<◌, ◌≤◌, All, option_map, List, [], ◌∷◌, ◌++◌, Some, length, get_or, slice_get, map, refl, sym, ◌∙◌, ap, subst, inl, inr, arith}
use Rattle.std.proofs.lemmas.Bool.{cases_lt}
use Rattle.std.proofs.lemmas.List.{get_or_append_left, get_or_push, length-append}
use Rattle.std.proofs.lemmas.Option.{get_or_from_slice_get, slice_get_within, slice_get-get_or, slice_get_read, slice_get-map, same_Some}
use Rattle.joiner.proofs.Looking.{All-at}
use Rattle.joiner.specs.Represented.{IsEntry, AreEntries, IsRanked, AreRanked, IsPushed}
use Rattle.joiner.specs.declared.entry.Entry.{Entry}
use Rattle.joiner.specs.declared.ranked.Ranked.{Ranked}
use Rattle.label.specs.declared.label.Label.{Label}
use Rattle.strip_model.specs.Orbit.{Orbit}
use Rattle.strip_model.specs.declared.end.End.{End}

-- an element of a list with one more
pub slice_get_before : {X : Type 0} (xs : List X) (x y : X) (k : ℕ) → k < length xs → slice_get (xs ++ x ∷ []) k ≡ Some y → slice_get xs k ≡ Some y
slice_get_before xs x y k l at =
    slice_get-get_or xs k y l
    ∙ ap (λ z. Some z) (sym (get_or_append_left xs (x ∷ []) y k l) ∙ get_or_from_slice_get (xs ++ x ∷ []) k y y at)

pub slice_get_last : {X : Type 0} (xs : List X) (x y : X) (k : ℕ) → length xs ≡ k → slice_get (xs ++ x ∷ []) k ≡ Some y → y ≡ x
slice_get_last xs x y k size at = sym (get_or_from_slice_get (xs ++ x ∷ []) k y y at) ∙ get_or_push xs x y k size

-- what holds of the elements at equal places of two lists holds with one more
pub each_more : {X Y : Type 0} (P : ℕ → X → Y → Type 0) (xs : List X) (ys : List Y) (n : ℕ) (x : X) (y : Y) → length ys ≡ n
    → slice_get xs n ≡ Some x → ((k : ℕ) (a : X) (b : Y) → slice_get xs k ≡ Some a → slice_get ys k ≡ Some b → P k a b) → P n x y
    → (k : ℕ) (a : X) (b : Y) → slice_get xs k ≡ Some a → slice_get (ys ++ y ∷ []) k ≡ Some b → P k a b
each_more P xs ys n x y size there so_far here k a b at also =
    elim (cases_lt k n) [
      | inl earlier ↦ so_far k a b at (slice_get_before ys y b k (omega (arith, earlier, size)) also)
      | inr later ↦
          let within : k < length (ys ++ y ∷ []) = slice_get_within (ys ++ y ∷ []) k b also in
          let same : n ≡ k = ends n k (length ys) (length (ys ++ y ∷ [])) size (length-append ys (y ∷ [])) later within in
          let is_x : x ≡ a = same_Some x a (sym there ∙ ap (λ (i : ℕ). slice_get xs i) same ∙ at) in
          let is_y : y ≡ b = sym (slice_get_last ys y b k (size ∙ same) also) in
          subst (λ (i : ℕ). P i a b) same (subst (λ v. P n v b) is_x (subst (λ v. P n x v) is_y here))
    ]
  where
    ends : (n k l m : ℕ) → l ≡ n → m ≡ l + 1 → n ≤ k → k < m → n ≡ k
    ends n k l m e f h w = omega arith

-- the entries of the first labels with that of the next
pub AreEntries-more : (J : Orbit) (e : End) (labels : List Label) (entries later : List Entry) (n : ℕ) (label : Label) → AreEntries J e labels n entries
    → slice_get labels n ≡ Some label → IsPushed (IsEntry J e (length entries) label) entries later → AreEntries J e labels (n + 1) later
AreEntries-more J e labels entries later n label h at pushed =
    let whole : List Entry → Type 0 = λ ws. AreEntries J e labels (n + 1) ws in
    subst whole (sym pushed.is) (record {
      size = length-append entries (pushed.added ∷ []) ∙ ap (λ (k : ℕ). k + 1) h.size;
      each = each_more (λ k label w. IsEntry J e k label w) labels entries n label pushed.added h.size at h.each
          (subst (λ (k : ℕ). IsEntry J e k label pushed.added) h.size pushed.holds);
    })

pub AreRanked-more : (J : Orbit) (labels : List Label) (order later : List Ranked) (n : ℕ) (label : Label) → AreRanked J labels n order
    → slice_get labels n ≡ Some label → IsPushed (IsRanked J (length order) label) order later → AreRanked J labels (n + 1) later
AreRanked-more J labels order later n label h at pushed =
    let whole : List Ranked → Type 0 = λ rs. AreRanked J labels (n + 1) rs in
    subst whole (sym pushed.is) (record {
      size = length-append order (pushed.added ∷ []) ∙ ap (λ (k : ℕ). k + 1) h.size;
      each = each_more (λ k label r. IsRanked J k label r) labels order n label pushed.added h.size at h.each
          (subst (λ (k : ℕ). IsRanked J k label pushed.added) h.size pushed.holds);
    })

-- the label behind a reference of a list
pub label_behind : {X Y : Type 0} (f : X → Y) (xs : List X) (n : ℕ) (x : X) → n < length xs → x ≡ get_or xs n x → slice_get (map f xs) n ≡ Some (f x)
label_behind f xs n x l is = slice_get-map f xs n ∙ ap (λ o. option_map f o) (slice_get_read xs (length xs) n x refl l is)

-- what holds of all labels holds of the one behind a reference
pub All-behind : {X Y : Type 0} (P : Y → Type 0) (f : X → Y) (xs : List X) (n : ℕ) (x : X) → n < length xs → x ≡ get_or xs n x → All P (map f xs) → P (f x)
All-behind P f xs n x l is h = All-at P (map f xs) n (f x) h (label_behind f xs n x l is)

-- what holds of each element at its place holds with one more
pub pushed_each : {X : Type 0} (P : ℕ → X → Type 0) (xs : List X) (n : ℕ) (x : X) → length xs ≡ n → ((k : ℕ) (a : X) → slice_get xs k ≡ Some a → P k a)
    → P n x → (k : ℕ) (a : X) → slice_get (xs ++ x ∷ []) k ≡ Some a → P k a
pushed_each P xs n x size so_far here k a at =
    elim (cases_lt k n) [
      | inl earlier ↦ so_far k a (slice_get_before xs x a k (omega (arith, earlier, size)) at)
      | inr later ↦
          let within : k < length (xs ++ x ∷ []) = slice_get_within (xs ++ x ∷ []) k a at in
          let same : n ≡ k = ends n k (length xs) (length (xs ++ x ∷ [])) size (length-append xs (x ∷ [])) later within in
          let is : x ≡ a = sym (slice_get_last xs x a k (size ∙ same) at) in
          subst (λ (i : ℕ). P i a) same (subst (λ v. P n v) is here)
    ]
  where
    ends : (n k l m : ℕ) → l ≡ n → m ≡ l + 1 → n ≤ k → k < m → n ≡ k
    ends n k l m e f h w = omega arith
