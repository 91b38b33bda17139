-- A plan is feasible exactly where its mirrored plan is feasible on the mirror, and gains the same.
use Rattle.std.proofs.Common.{◌≡◌, ℕ, ◌+◌, ◌-◌, ◌<◌, ◌≤◌, List, [], ◌∷◌, length, map, reverse, refl, sym, ◌∙◌, ap, subst, arith}
use mathlib.Core.List.{reverse_aux}
use Rattle.std.proofs.lemmas.List.{reverse-reverse}
use Rattle.std.proofs.lemmas.List.Sums.{sum_by-cons}
use Rattle.std.specs.List.{AllByRecursion}
use Rattle.strip_model.proofs.Shares.{gain_with-along}
use Rattle.strip_model.proofs.Gains.{area_in-reverse}
use Rattle.strip_model.proofs.Horizons.{horizon_of-late}
use Rattle.strip_model.proofs.Mirrored.{Mirrors, Mirrors-back, StripsExist-mirror}
use Rattle.strip_model.proofs.Orders.{IsFeasibleOrder, IsFeasibleOrder-order_of, Feasible-order}
use Rattle.strip_model.proofs.Starts.{order_of-earliest}
use Rattle.strip_model.proofs.Words.{has-reverse, StripsExist-reverse, StripsDistinct-reverse}
use Rattle.strip_model.specs.Directed.{strip_of}
use Rattle.strip_model.specs.Gain.{area_for, area_in, gain_in}
use Rattle.strip_model.specs.Horizon.{horizon_of}
use Rattle.strip_model.specs.Mirror.{flip, flip_plan, IsOverBy}
use Rattle.strip_model.specs.Orbit.{Orbit, strip_at, early_at, late_at, duration_at, manoeuvre_at}
use Rattle.strip_model.specs.Plan.{order_of, StripsExist, StripsDistinct, IsInWindow, KeepsManoeuvres, KeepsTwinsTogether, Feasible, gain_of}
use Rattle.strip_model.specs.Starts.{Root, earliest}
use Rattle.strip_model.specs.declared.acquisition.Acquisition.{Acquisition}

-- ---- acquisitions that are over by M

-- acquisitions in their windows are over by M, where the latest one of each strip is
IsOverBy-windows : (M : ℕ) (J : Orbit) → ((x : ℕ) → strip_of x < length J.strips → late_at J x + duration_at J x ≤ M)
    → (plan : List Acquisition) → StripsExist J (order_of plan) → AllByRecursion (IsInWindow J) plan → AllByRecursion (IsOverBy M J) plan
IsOverBy-windows M J latest [] exist windows = tt
IsOverBy-windows M J latest (a ∷ plan) exist windows = (
  record { exist = exist.0; over = sooner M a.start (late_at J a.at) (duration_at J a.at) windows.0.1 (latest a.at exist.0) },
  IsOverBy-windows M J latest plan exist.1 windows.1,
)
  where
    sooner : (M s l d : ℕ) → s ≤ l → l + d ≤ M → s + d ≤ M
    sooner M s l d within over = omega arith

-- the acquisitions of a feasible plan exist and are over by the horizon
pub IsOverBy-Feasible : (J : Orbit) (plan : List Acquisition) → Feasible J plan → AllByRecursion (IsOverBy (horizon_of J) J) plan
IsOverBy-Feasible J plan h = IsOverBy-windows (horizon_of J) J (horizon_of-late J) plan h.exist h.windows

-- they are also over by M, where another instance is a mirror at M
IsOverBy-mirror : (M : ℕ) (J K : Orbit) → Mirrors M J K → (plan : List Acquisition) → Feasible J plan → AllByRecursion (IsOverBy M J) plan
IsOverBy-mirror M J K m plan h = IsOverBy-windows M J (λ x l. part (early_at K x) (late_at J x) (duration_at J x) M (m.early_is x l)) plan h.exist h.windows
  where
    part : (e l d M : ℕ) → e + l + d ≡ M → l + d ≤ M
    part e l d M mirrored = omega arith

-- ---- one acquisition from the end on

-- it lies in the window of the mirror
IsInWindow-flip : (M : ℕ) (J K : Orbit) → Mirrors M J K → (a : Acquisition) → strip_of a.at < length J.strips → IsInWindow J a → IsInWindow K (flip M J a)
IsInWindow-flip M J K m a l w =
    let x = a.at in (
      early M (early_at K x) a.start (late_at J x) (duration_at J x) w.1 (m.early_is x l),
      late M (late_at K x) a.start (early_at J x) (duration_at J x) w.0 (m.late_is x l),
    )
  where
    early : (M e s l d : ℕ) → s ≤ l → e + l + d ≡ M → e ≤ M - s - d
    early M e s l d within mirrored = omega arith

    late : (M l s e d : ℕ) → e ≤ s → l + e + d ≡ M → M - s - d ≤ l
    late M l s e d within mirrored = omega arith

-- from the end on again, it is what it was
flip-flip : (M : ℕ) (J K : Orbit) → Mirrors M J K → (a : Acquisition) → IsOverBy M J a → flip M K (flip M J a) ≡ a
flip-flip M J K m a over =
    ap (λ (s : ℕ). let b : Acquisition = record { start = s; at = a.at } in b)
    (twice M a.start (duration_at J a.at) (duration_at K a.at) (m.same_duration a.at over.exist) over.over)
  where
    twice : (M s d e : ℕ) → e ≡ d → s + d ≤ M → M - (M - s - d) - e ≡ s
    twice M s d e same over = omega arith

-- ---- lists turned round

-- what holds of each element of two lists holds of each of the first turned round onto the second
AllByRecursion-reverse_aux : {X : Type 0} (P : X → Type 0) (xs ys : List X) → AllByRecursion P xs → AllByRecursion P ys → AllByRecursion P (reverse_aux xs ys)
AllByRecursion-reverse_aux P [] ys hx hy = hy
AllByRecursion-reverse_aux P (x ∷ xs) ys hx hy = AllByRecursion-reverse_aux P xs (x ∷ ys) hx.1 (hx.0, hy)

-- a function of each element of one list turned round onto another
map-reverse_aux : {X Y : Type 0} (f : X → Y) (xs ys : List X) → map f (reverse_aux xs ys) ≡ reverse_aux (map f xs) (map f ys)
map-reverse_aux f [] ys = refl
map-reverse_aux f (x ∷ xs) ys = map-reverse_aux f xs (x ∷ ys)

-- the order of the mirrored plan is the order turned round
pub order_of-flip_plan : (M : ℕ) (J : Orbit) (plan : List Acquisition) → order_of (flip_plan M J plan) ≡ reverse (order_of plan)
order_of-flip_plan M J plan =
    map-reverse_aux (λ (a : Acquisition). a.at) (map (flip M J) plan) []
    ∙ ap (λ (xs : List ℕ). reverse xs) (order_of-flipped M J plan)
  where
    order_of-flipped : (M : ℕ) (J : Orbit) (plan : List Acquisition) → order_of (map (flip M J) plan) ≡ order_of plan
    order_of-flipped M J [] = refl
    order_of-flipped M J (a ∷ plan) = ap (λ (xs : List ℕ). a.at ∷ xs) (order_of-flipped M J plan)

-- the mirrored plan's mirrored plan is the plan
flip_plan-flip_plan : (M : ℕ) (J K : Orbit) → Mirrors M J K → (plan : List Acquisition) → AllByRecursion (IsOverBy M J) plan
    → flip_plan M K (flip_plan M J plan) ≡ plan
flip_plan-flip_plan M J K m plan over =
    ap (λ (plan : List Acquisition). reverse plan) (map-reverse_aux (flip M K) (map (flip M J) plan) [])
    ∙ reverse-reverse (map (flip M K) (map (flip M J) plan))
    ∙ twice M J K m plan over
  where
    twice : (M : ℕ) (J K : Orbit) → Mirrors M J K → (plan : List Acquisition) → AllByRecursion (IsOverBy M J) plan
        → map (flip M K) (map (flip M J) plan) ≡ plan
    twice M J K m [] over = refl
    twice M J K m (a ∷ plan) over =
        ap (λ (b : Acquisition). b ∷ map (flip M K) (map (flip M J) plan)) (flip-flip M J K m a over.0)
        ∙ ap (λ (rest : List Acquisition). a ∷ rest) (twice M J K m plan over.1)

-- ---- the whole plan

-- its acquisitions from the end on lie in the windows of the mirror
IsInWindow-flipped : (M : ℕ) (J K : Orbit) → Mirrors M J K → (plan : List Acquisition) → StripsExist J (order_of plan)
    → AllByRecursion (IsInWindow J) plan → AllByRecursion (IsInWindow K) (map (flip M J) plan)
IsInWindow-flipped M J K m [] exist windows = tt
IsInWindow-flipped M J K m (a ∷ plan) exist windows =
    (IsInWindow-flip M J K m a exist.0 windows.0, IsInWindow-flipped M J K m plan exist.1 windows.1)

-- an acquisition that leaves the next its manoeuvre does so after it, from the end on
flipped_link : (M : ℕ) (J K : Orbit) → Mirrors M J K → (a b : Acquisition) → IsOverBy M J a → IsOverBy M J b
    → a.start + duration_at J a.at + manoeuvre_at J a.at b.at ≤ b.start
    → (flip M J b).start + duration_at K b.at + manoeuvre_at K b.at a.at ≤ (flip M J a).start
flipped_link M J K m a b oa ob h =
    link M a.start (duration_at J a.at) b.start (duration_at J b.at) (duration_at K b.at) (manoeuvre_at J a.at b.at) (manoeuvre_at K b.at a.at)
    ob.over (m.same_duration b.at ob.exist) (m.turned_manoeuvre b.at a.at ob.exist oa.exist) h
  where
    link : (M s d t e f g k : ℕ) → t + e ≤ M → f ≡ e → k ≡ g → s + d + g ≤ t → M - t - e + f + k ≤ M - s - d
    link M s d t e f g k over same turned h = omega arith

-- the rest of a plan after a, turned round onto a and what stands behind it
KeepsManoeuvres-flipped_onto : (M : ℕ) (J K : Orbit) → Mirrors M J K → (a : Acquisition) (plan behind : List Acquisition)
    → AllByRecursion (IsOverBy M J) (a ∷ plan) → KeepsManoeuvres J (a ∷ plan) → KeepsManoeuvres K (flip M J a ∷ behind)
    → KeepsManoeuvres K (reverse_aux (map (flip M J) plan) (flip M J a ∷ behind))
KeepsManoeuvres-flipped_onto M J K m a [] behind over h k = k
KeepsManoeuvres-flipped_onto M J K m a (b ∷ plan) behind over h k =
    KeepsManoeuvres-flipped_onto M J K m b plan (flip M J a ∷ behind) over.1 h.1
    (flipped_link M J K m a b over.0 over.1.0 h.0, k)

-- the mirrored plan keeps the manoeuvres of the mirror
KeepsManoeuvres-flip_plan : (M : ℕ) (J K : Orbit) → Mirrors M J K → (plan : List Acquisition)
    → AllByRecursion (IsOverBy M J) plan → KeepsManoeuvres J plan → KeepsManoeuvres K (flip_plan M J plan)
KeepsManoeuvres-flip_plan M J K m [] over h = tt
KeepsManoeuvres-flip_plan M J K m (a ∷ plan) over h = KeepsManoeuvres-flipped_onto M J K m a plan [] over h tt

-- a list turned round keeps twins together on the mirror
KeepsTwinsTogether-mirror : (M : ℕ) (J K : Orbit) → Mirrors M J K → (xs : List ℕ) → KeepsTwinsTogether J xs → KeepsTwinsTogether K (reverse xs)
KeepsTwinsTogether-mirror M J K m xs h x y there twin =
    has-reverse y xs ∙ h x y (sym (has-reverse x xs) ∙ there) (sym (m.same_partner x) ∙ twin)

-- a feasible plan's mirrored plan is feasible on the mirror
pub Feasible-mirror : (M : ℕ) (J K : Orbit) → Mirrors M J K → (plan : List Acquisition) → Feasible J plan → Feasible K (flip_plan M J plan)
Feasible-mirror M J K m plan h =
    let back = sym (order_of-flip_plan M J plan) in
    let xs = order_of plan in
    record {
      exist = subst (λ (ys : List ℕ). StripsExist K ys) back (StripsExist-reverse K xs (StripsExist-mirror M J K m xs h.exist));
      distinct = subst (λ (ys : List ℕ). StripsDistinct ys) back (StripsDistinct-reverse xs h.distinct);
      windows = AllByRecursion-reverse_aux (IsInWindow K) (map (flip M J) plan) [] (IsInWindow-flipped M J K m plan h.exist h.windows) tt;
      manoeuvres = KeepsManoeuvres-flip_plan M J K m plan (IsOverBy-mirror M J K m plan h) h.manoeuvres;
      twins = subst (λ (ys : List ℕ). KeepsTwinsTogether K ys) back (KeepsTwinsTogether-mirror M J K m xs h.twins);
    }

-- where the mirrored plan of acquisitions that are over by M is feasible on the mirror, the plan is feasible
pub Feasible-mirror_back : (M : ℕ) (J K : Orbit) → Mirrors M J K → (plan : List Acquisition) → AllByRecursion (IsOverBy M J) plan
    → Feasible K (flip_plan M J plan) → Feasible J plan
Feasible-mirror_back M J K m plan over h =
    subst (λ (again : List Acquisition). Feasible J again) (flip_plan-flip_plan M J K m plan over)
    (Feasible-mirror M K J (Mirrors-back M J K m) (flip_plan M J plan) h)

-- ---- orders and gains

-- a feasible order turned round is one of the mirror
pub IsFeasibleOrder-mirror : (M : ℕ) (J K : Orbit) → Mirrors M J K → (xs : List ℕ) → IsFeasibleOrder J xs → IsFeasibleOrder K (reverse xs)
IsFeasibleOrder-mirror M J K m xs h =
    let plan = earliest J Root xs in
    subst (λ (ys : List ℕ). IsFeasibleOrder K ys)
    (order_of-flip_plan M J plan ∙ ap (λ (ys : List ℕ). reverse ys) (order_of-earliest J Root xs))
    (IsFeasibleOrder-order_of K (flip_plan M J plan) (Feasible-mirror M J K m plan (Feasible-order J xs h)))

-- a list acquires the same area on the mirror
area_in-mirror : (M : ℕ) (J K : Orbit) → Mirrors M J K → (r : ℕ) (xs : List ℕ) → area_in K r xs ≡ area_in J r xs
area_in-mirror M J K m r [] = refl
area_in-mirror M J K m r (x ∷ xs) =
    let f : Orbit → ℕ → ℕ = λ H x. area_for r (strip_at H (strip_of x)) in
    omega (arith, sum_by-cons (f K) x xs, sum_by-cons (f J) x xs, m.same_area r (strip_of x), area_in-mirror M J K m r xs)

-- a list turned round gains on the mirror what the list gains
pub gain_in-mirror : (M : ℕ) (J K : Orbit) → Mirrors M J K → (xs : List ℕ) → gain_in K (reverse xs) ≡ gain_in J xs
gain_in-mirror M J K m xs =
    gain_with-along J K (λ r. area_in J r xs) (λ r. area_in K r (reverse xs)) m.same_requests m.same_whole_area
    (λ r. area_in-reverse K r xs ∙ area_in-mirror M J K m r xs)

-- the mirrored plan gains what the plan gains
pub gain_of-mirror : (M : ℕ) (J K : Orbit) → Mirrors M J K → (plan : List Acquisition) → gain_of K (flip_plan M J plan) ≡ gain_of J plan
gain_of-mirror M J K m plan =
    ap (λ (xs : List ℕ). gain_in K xs) (order_of-flip_plan M J plan) ∙ gain_in-mirror M J K m (order_of plan)
