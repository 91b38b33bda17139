-- The last directed strip of a path, by which its label has its bucket and its antichain.
use Rattle.std.proofs.Common.{◌≡◌, ◌≢◌, ℕ, ◌+◌, ◌*◌, ◌/◌, ◌%◌, ◌<◌, true, List, [], ◌∷◌, length, refl, sym, ap, ◌∙◌, subst, arith}
use Rattle.label_list.specs.Labels.{last_of}
use Rattle.bucket.specs.Histories.{bucket_of}
use Rattle.bucket.specs.declared.limits.TheConstants.{BUCKETS}
use Rattle.label.specs.Labels.{IsLabelOf}
use Rattle.label.specs.declared.label.Label.{Label}
use Rattle.strip_model.proofs.Words.{has_head, has_tail, StripsExist-at}
use Rattle.strip_model.specs.Directed.{has, strip_of}
use Rattle.strip_model.specs.LabelPath.{LabelPath}
use Rattle.strip_model.specs.Plan.{StripsExist}
use Rattle.strip_model.specs.Side.{Face}
use Rattle.strip_model.specs.Dominance.{Dominates, IsNoLater}
use Rattle.strip_model.specs.Orbit.{Orbit}
use Rattle.strip_model.specs.Starts.{Place, arrive, place_after}
use Rattle.strip_model.specs.Starts.Place.{Root, After}

-- the last directed strip at a place
last_in : Place → ℕ
last_in Root = 0
last_in (After s x) = x

last_in-after : (J : Orbit) (q : Place) (x : ℕ) (xs : List ℕ) → last_in (place_after J q (x ∷ xs)) ≡ last_of (x ∷ xs)
unfolding last_in
last_in-after J q x [] = refl
last_in-after J q x (y ∷ ys) = last_in-after J (After (arrive J q x) x) y ys

last_in-path : (J : Orbit) (path : List ℕ) → last_in (place_after J Root path) ≡ last_of path
unfolding last_in
last_in-path J [] = refl
last_in-path J (x ∷ xs) = last_in-after J Root x xs

-- where a path has come to tells its last directed strip
pub last_of-place : (J : Orbit) (path : List ℕ) (s x : ℕ) → place_after J Root path ≡ After s x → last_of path ≡ x
unfolding last_in
last_of-place J path s x at = sym (last_in-path J path) ∙ ap last_in at

last_in-no_later : (p q : Place) → IsNoLater p q → last_in p ≡ last_in q
unfolding last_in
last_in-no_later Root q l = elim l [ ]
last_in-no_later (After s x) Root l = elim l [ ]
last_in-no_later (After s x) (After t y) l = l.0

-- a path dominates only one with its own last directed strip
pub last_of-dominates : (J : Orbit) (b a : List ℕ) → Dominates J b a → last_of b ≡ last_of a
last_of-dominates J b a d =
    sym (last_in-path J b) ∙ last_in-no_later (place_after J Root b) (place_after J Root a) d.no_later ∙ last_in-path J a

has-last : (x : ℕ) (xs : List ℕ) → has (last_of (x ∷ xs)) (x ∷ xs) ≡ true
has-last x [] = has_head x []
has-last x (y ∷ ys) = has_tail (last_of (y ∷ ys)) x (y ∷ ys) (has-last y ys)

last-exists : (J : Orbit) (path : List ℕ) → path ≢ [] → StripsExist J path → strip_of (last_of path) < length J.strips
last-exists J [] some exist = absurd (some refl)
last-exists J (x ∷ xs) some exist = StripsExist-at J (x ∷ xs) (last_of (x ∷ xs)) exist (has-last x xs)

-- the last directed strip of a label path is there
pub strip-there : (S : Face) (path : List ℕ) (x : ℕ) → LabelPath S path → last_of path ≡ x → strip_of x < length S.instance.strips
strip-there S path x p is =
    subst (λ (y : ℕ). strip_of y < length S.instance.strips) is (last-exists S.instance path p.some p.in_time.exist)

-- where the antichain of a directed strip stands that falls into the bucket with this number
pub place-of : (x p n : ℕ) → p ≡ x / BUCKETS → x % BUCKETS ≡ n → x ≡ p * BUCKETS + n
place-of x p n is here = omega arith

-- and that of a label
pub place-of_label : (S : Face) (l : Label) (x p n : ℕ) → IsLabelOf S l → bucket_of l.path.items ≡ n → x ≡ l.last → p ≡ x / BUCKETS
    → last_of l.path.items ≡ p * BUCKETS + n
place-of_label S l x p n label_of here is at =
    let ends : last_of l.path.items ≡ l.last = last_of-place S.instance l.path.items l.start l.last label_of.at in
    place-of (last_of l.path.items) p n (at ∙ ap (λ (y : ℕ). y / BUCKETS) (is ∙ sym ends)) here
