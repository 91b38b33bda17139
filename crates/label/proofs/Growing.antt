-- A label with one more directed strip, and what may come next by the directed strips of a path alone.
use Rattle.std.proofs.Common.{◌≡◌, ℕ, ◌<◌, ◌≤◌, Bool, true, false, ◌||◌, ◌==◌, if◌then◌else◌, List, [], ◌∷◌, ◌++◌, length, refl, sym, ◌∙◌, ap, ap₂, subst, inl, inr, arith}
use Rattle.std.proofs.lemmas.Bool.{cases_eq, eq-eqb, ne_eqb}
use Rattle.label.proofs.Deadlines.{past_deadline}
use Rattle.label.proofs.Members.{HaveSame, HaveSame-push, has_strip-same, is_open-same, directed_below}
use Rattle.label.specs.Labels.{IsFace, IsLabelOf, Exist, IsNewIn, IsNext}
use Rattle.label.specs.Tables.{deadline_at}
use Rattle.label.specs.declared.label.Label.{Label}
use Rattle.strip_model.proofs.Extending.{LabelPath-push, MayExtend-last}
use Rattle.strip_model.proofs.Starts.{place_after_push}
use Rattle.strip_model.proofs.Words.{has_cons_cases}
use Rattle.strip_model.specs.Directed.{strip_of, has}
use Rattle.strip_model.specs.LabelPath.{LabelPath, MayExtend}
use Rattle.strip_model.specs.Orbit.{Orbit, early_at, late_at}
use Rattle.strip_model.specs.Plan.{StripsExist}
use Rattle.strip_model.specs.Reach.{is_open}
use Rattle.strip_model.specs.Side.{Face, IsWithinCap, facing}
use Rattle.strip_model.specs.Mirror.{mirror_of, flip_strip}
use Rattle.strip_model.specs.Horizon.{horizon_of}
use Rattle.std.proofs.lemmas.List.{length-map}
use Rattle.strip_model.specs.declared.end.End.TheVariants.{Forward, Backward}
use Rattle.strip_set.specs.declared.directed_set.TheConstants.{MAX_DIRECTED}
use Rattle.strip_model.specs.Starts.{Place, Root, After, arrive, place_after, Fits}
use Rattle.strip_model.specs.declared.end.End.{End}

-- from either end an instance has its requests, and as many strips
pub requests-facing : (J : Orbit) (e : End) → (facing J e).requests ≡ J.requests
unfolding mirror_of
requests-facing J Forward = refl
requests-facing J Backward = refl

pub length-facing : (J : Orbit) (e : End) → length (facing J e).strips ≡ length J.strips
unfolding mirror_of
length-facing J Forward = refl
length-facing J Backward = length-map J.strips (flip_strip (horizon_of J))

-- what stands in a list of strips that exist is of a strip that exists
pub Exist-from : (J : Orbit) (xs : List ℕ) → StripsExist J xs → Exist J xs
Exist-from J [] h y there = absurd (no there)
  where
    no : false ≡ true → ⊥
    no e = cc
Exist-from J (x ∷ xs) h y there =
    elim (has_cons_cases y x xs there) [
      | inl same ↦ subst (λ (z : ℕ). strip_of z < length J.strips) (sym same) h.0
      | inr later ↦ Exist-from J xs h.1 y later
    ]

-- the directed strips of a path exist, in whichever list they stand
pub Exist-same : (J : Orbit) (xs ys : List ℕ) → HaveSame xs ys → StripsExist J ys → Exist J xs
Exist-same J xs ys same h y there = Exist-from J ys h y (sym (same y) ∙ there)

-- what is new in a path is new among its directed strips
pub IsNewIn-from : (S : Face) (path visited : List ℕ) (x : ℕ) → HaveSame visited path → MayExtend S path x → IsNewIn S.instance visited x
IsNewIn-from S path visited x same may = record {
  new_strip = has_strip-same visited path same (strip_of x) ∙ may.new_strip;
  agrees = λ y there twin. may.agrees y (sym (same y) ∙ there) twin;
}

-- x may extend a path if it is new among its directed strips, in time and within the cap
pub MayExtend-from : (S : Face) (path visited : List ℕ) (x start : ℕ) → HaveSame visited path → IsNewIn S.instance visited x
    → strip_of x < length S.instance.strips → start ≡ arrive S.instance (place_after S.instance Root path) x
    → start ≤ late_at S.instance x → IsWithinCap S.end S (After start x) → MayExtend S path x
MayExtend-from S path visited x start same is_new exists at in_time cap = record {
  exist = exists;
  new_strip = sym (has_strip-same visited path same (strip_of x)) ∙ is_new.new_strip;
  agrees = λ y there twin. is_new.agrees y (same y ∙ there) twin;
  in_time = subst (λ (s : ℕ). s ≤ late_at S.instance x) at in_time;
  cap = subst (λ (s : ℕ). IsWithinCap S.end S (After s x)) at cap;
}

-- the last acquisition of a list in time exists and is in time
last_in_time-from : (J : Orbit) (t z : ℕ) (path : List ℕ) (s x : ℕ) → strip_of z < length J.strips → t ≤ late_at J z → StripsExist J path → Fits J (After t z) path
    → place_after J (After t z) path ≡ After s x → (strip_of x < length J.strips) × (s ≤ late_at J x)
last_in_time-from J t z [] s x exists in_time exist fits at = (
  subst (λ (y : ℕ). strip_of y < length J.strips) (lasts at) exists,
  subst (λ (y : ℕ). s ≤ late_at J y) (lasts at) (subst (λ (u : ℕ). u ≤ late_at J z) (starts at) in_time),
)
  where
    lasts : {t z s x : ℕ} → After t z ≡ After s x → z ≡ x
    lasts e = cc

    starts : {t z s x : ℕ} → After t z ≡ After s x → t ≡ s
    starts e = cc
last_in_time-from J t z (y ∷ ys) s x exists in_time exist fits at =
    last_in_time-from J (arrive J (After t z) y) y ys s x exist.0 fits.0 exist.1 fits.1 at

pub last_in_time : (J : Orbit) (path : List ℕ) (s x : ℕ) → StripsExist J path → Fits J Root path → place_after J Root path ≡ After s x
    → (strip_of x < length J.strips) × (s ≤ late_at J x)
last_in_time J [] s x exist fits at = absurd (no at)
  where
    no : {s x : ℕ} → Root ≡ After s x → ⊥
    no e = cc
last_in_time J (y ∷ ys) s x exist fits at = last_in_time-from J (arrive J Root y) y ys s x exist.0 fits.0 exist.1 fits.1 at

-- the last directed strip of a label exists, and starts in its window
pub label_last : (S : Face) (l : Label) → IsLabelOf S l → (strip_of l.last < length S.instance.strips) × (l.start ≤ late_at S.instance l.last)
label_last S l h = last_in_time S.instance l.path.items l.start l.last h.path.in_time.exist h.path.in_time.fits h.at

-- what comes after a label arrives after its last
arrive-label : (S : Face) (l : Label) (x : ℕ) → IsLabelOf S l
    → arrive S.instance (place_after S.instance Root l.path.items) x ≡ arrive S.instance (After l.start l.last) x
arrive-label S l x h = ap (λ (q : Place). arrive S.instance q x) h.at

-- a label has no extension by what can't start before its deadline
pub no_extension-late : (S : Face) (l : Label) (x deadline : ℕ) → IsLabelOf S l → deadline ≡ deadline_at S.instance l.last x → deadline ≤ l.start
    → LabelPath S (l.path.items ++ x ∷ []) → ⊥
no_extension-late S l x deadline h is past longer =
    past_deadline S.instance l.start l.last x deadline is past
    (subst (λ (s : ℕ). s ≤ late_at S.instance x) (arrive-label S l x h) (MayExtend-last S l.path.items x longer).in_time)

-- nor by what isn't new
pub no_extension-not_new : (S : Face) (l : Label) (x : ℕ) → IsLabelOf S l → (IsNewIn S.instance l.visited x → ⊥) → LabelPath S (l.path.items ++ x ∷ []) → ⊥
no_extension-not_new S l x h not_new longer = not_new (IsNewIn-from S l.path.items l.visited x h.visited (MayExtend-last S l.path.items x longer))

-- nor by what isn't within the cap
pub no_extension-past_cap : (S : Face) (l : Label) (x start : ℕ) → IsLabelOf S l → start ≡ arrive S.instance (After l.start l.last) x
    → (IsWithinCap S.end S (After start x) → ⊥) → LabelPath S (l.path.items ++ x ∷ []) → ⊥
no_extension-past_cap S l x start h at past longer =
    past (subst (λ (s : ℕ). IsWithinCap S.end S (After s x)) (arrive-label S l x h ∙ sym at) (MayExtend-last S l.path.items x longer).cap)

-- and it has one where none of these stands against it
pub IsNext-label : (S : Face) (l : Label) (x start : ℕ) → IsFace S → IsLabelOf S l → strip_of x < length S.instance.strips → IsNewIn S.instance l.visited x
    → start ≡ arrive S.instance (After l.start l.last) x → start ≤ late_at S.instance x → IsWithinCap S.end S (After start x)
    → IsNext S l.path.items x start
IsNext-label S l x start face h exists is_new at in_time cap =
    let here = at ∙ sym (arrive-label S l x h) in
    let may = MayExtend-from S l.path.items l.visited x start h.visited is_new exists here in_time cap in
    record {
      label_path = LabelPath-push S face.instance l.path.items x h.path.in_time h.path.one_way may;
      earliest_start = here;
    }

-- what comes next is new among the directed strips of its path
pub IsNewIn-next : (S : Face) (path visited : List ℕ) (x start : ℕ) → HaveSame visited path → IsNext S path x start → IsNewIn S.instance visited x
IsNewIn-next S path visited x start same next = IsNewIn-from S path visited x same (MayExtend-last S path x next.label_path)

-- its strip exists
pub next_exists : (S : Face) (path : List ℕ) (x start : ℕ) → IsNext S path x start → strip_of x < length S.instance.strips
next_exists S path x start next = (MayExtend-last S path x next.label_path).exist

-- and its number has room in a set
pub next_below : (S : Face) (path : List ℕ) (x start : ℕ) → IsFace S → IsNext S path x start → x < MAX_DIRECTED
next_below S path x start face next = directed_below S.instance x face.instance (next_exists S path x start next)

-- what is open in a path is open among its directed strips
pub opens_among : (J : Orbit) (path visited lone : List ℕ) → HaveSame visited path → ((y : ℕ) → has y lone ≡ is_open J path y)
    → (y : ℕ) → has y lone ≡ is_open J visited y
opens_among J path visited lone same opens y = opens y ∙ sym (is_open-same J visited path same y)

-- the first of a label path
pub IsNext-root : (S : Face) (x : ℕ) → IsFace S → strip_of x < length S.instance.strips → early_at S.instance x ≤ late_at S.instance x
    → IsWithinCap S.end S (After (early_at S.instance x) x) → IsNext S [] x (early_at S.instance x)
IsNext-root S x face exists in_time cap =
    let at : early_at S.instance x ≡ arrive S.instance Root x = omega arith in
    let new : IsNewIn S.instance [] x = record { new_strip = refl; agrees = λ y there twin. absurd (no there) } in
    let may = MayExtend-from S [] [] x (early_at S.instance x) (λ y. refl) new exists at in_time cap in
    record {
      label_path = LabelPath-push S face.instance [] x (record { exist = tt; distinct = tt; fits = tt }) (λ y z y_there z_there twin. absurd (no y_there)) may;
      earliest_start = at;
    }
  where
    no : false ≡ true → ⊥
    no e = cc

-- the label with one more directed strip is a label of its side
pub IsLabelOf-grown : (S : Face) (m : Label) (path visited : List ℕ) (x start : ℕ) → ((y : ℕ) → has y visited ≡ has y path) → IsNext S path x start
    → m.end ≡ S.end → m.path.items ≡ path ++ x ∷ [] → m.last ≡ x → m.start ≡ start
    → ((y : ℕ) → has y m.visited ≡ (if y == x then true else has y visited)) → ((y : ℕ) → has y m.lone ≡ is_open S.instance (x ∷ visited) y)
    → IsLabelOf S m
IsLabelOf-grown S m path visited x start are_visited next end longer last starts members opens =
    let same = HaveSame-push x visited path are_visited in
    record {
      side = end;
      path = subst (λ (xs : List ℕ). LabelPath S xs) (sym longer) next.label_path;
      at =
          ap (λ (xs : List ℕ). place_after S.instance Root xs) longer
          ∙ place_after_push S.instance Root path x
          ∙ ap₂ (λ (s y : ℕ). After s y) (sym (starts ∙ next.earliest_start)) (sym last);
      visited = λ y. members y ∙ as_head y ∙ same y ∙ ap (λ (xs : List ℕ). has y xs) (sym longer);
      lone = λ y. opens y ∙ is_open-same S.instance (x ∷ visited) (path ++ x ∷ []) same y ∙ ap (λ (xs : List ℕ). is_open S.instance xs y) (sym longer);
    }
  where
    as_head : (y : ℕ) → (if y == x then true else has y visited) ≡ has y (x ∷ visited)
    as_head y =
        elim (cases_eq y x) [
          | inl same ↦ ap (λ (b : Bool). if b then true else has y visited) (eq-eqb y x same)
              ∙ sym (ap (λ (b : Bool). b || has y visited) (eq-eqb x y (sym same)))
          | inr other ↦ ap (λ (b : Bool). if b then true else has y visited) (ne_eqb y x other)
              ∙ sym (ap (λ (b : Bool). b || has y visited) (ne_eqb x y (λ same. other (sym same))))
        ]
