-- The mirror of an instance is an instance, in which everything stands where it is turned round.
use Rattle.std.proofs.Common.{◌≡◌, ℕ, zero, suc, ◌+◌, ◌-◌, ◌*◌, ◌<◌, ◌≤◌, max, List, [], ◌∷◌, length, map, sum_by, get_or, None, Some, Option, IfSome, option_map, refl, sym, ◌∙◌, ap, subst, arith}
use Rattle.std.proofs.lemmas.List.{length-map, get_or-map}
use Rattle.std.proofs.lemmas.List.Elements.{All-map}
use Rattle.std.proofs.lemmas.List.Sums.{sum_by-cons}
use Rattle.std.specs.List.{AllByRecursion}
use Rattle.manoeuvre.proofs.TurnedTables.{entry_at-turned, IsTable-turned, KeepsShortcut-turned}
use Rattle.manoeuvre.specs.Grid.{Grid, turned}
use Rattle.manoeuvre.specs.declared.limits.TheConstants.{MAX_DURATION}
use Rattle.strip_model.proofs.Durations.{KeepsShortcut-along}
use Rattle.strip_model.proofs.Horizons.{horizon_of-early, horizon_of-late, horizon_of-le}
use Rattle.strip_model.specs.Directed.{strip_of, direction_of}
use Rattle.strip_model.specs.Gain.{area_for, whole_area}
use Rattle.strip_model.specs.Horizon.{horizon_of}
use Rattle.strip_model.specs.IsInstance.{IsInstance, IsStrip, IsWindow, IsTwinOf, HasTwoWindows, KeepsTwins}
use Rattle.strip_model.specs.Mirror.{mirror_of, flip_strip, flip_window}
use Rattle.strip_model.specs.Orbit.{Orbit, no_strip, strip_in, strip_at, window_of, window_at, early_at, late_at, duration_at, manoeuvre_at, partner_of}
use Rattle.strip_model.specs.Plan.{StripsExist}
use Rattle.strip_model.specs.declared.limits.TheConstants.{MAX_HORIZON}
use Rattle.strip_model.specs.declared.request.Request.{Request}
use Rattle.strip_model.specs.declared.strip.Strip.{Strip}
use Rattle.strip_model.specs.declared.window.Window.{Window}

-- Two instances that are mirrors of each other at M: the same requests, areas, twins and durations, each window from M on,
-- and each manoeuvre the other way. It is symmetric; a mirror's own mirror is at another horizon, and isn't the instance.
pub record Mirrors (M : ℕ) (J K : Orbit) : Type 0 where
  pub same_requests : K.requests ≡ J.requests
  pub same_size : length K.strips ≡ length J.strips
  pub same_area : (r i : ℕ) → area_for r (strip_at K i) ≡ area_for r (strip_at J i)
  pub same_whole_area : (r : ℕ) → whole_area K r ≡ whole_area J r
  pub same_partner : (x : ℕ) → partner_of K x ≡ partner_of J x
  pub same_duration : (x : ℕ) → strip_of x < length J.strips → duration_at K x ≡ duration_at J x
  pub early_is : (x : ℕ) → strip_of x < length J.strips → early_at K x + late_at J x + duration_at J x ≡ M
  pub late_is : (x : ℕ) → strip_of x < length J.strips → late_at K x + early_at J x + duration_at J x ≡ M
  pub turned_manoeuvre : (x y : ℕ) → strip_of x < length J.strips → strip_of y < length J.strips → manoeuvre_at K x y ≡ manoeuvre_at J y x

-- where one instance is a mirror of another, so is the other of the one
pub Mirrors-back : (M : ℕ) (J K : Orbit) → Mirrors M J K → Mirrors M K J
Mirrors-back M J K m =
    let here : (i : ℕ) → i < length K.strips → i < length J.strips = λ i l. subst (λ (n : ℕ). i < n) m.same_size l in
    record {
      same_requests = sym m.same_requests;
      same_size = sym m.same_size;
      same_area = λ r i. sym (m.same_area r i);
      same_whole_area = λ r. sym (m.same_whole_area r);
      same_partner = λ x. sym (m.same_partner x);
      same_duration = λ x l. sym (m.same_duration x (here (strip_of x) l));
      early_is = λ x l. swapped _ _ _ _ M (m.late_is x (here (strip_of x) l)) (m.same_duration x (here (strip_of x) l));
      late_is = λ x l. swapped _ _ _ _ M (m.early_is x (here (strip_of x) l)) (m.same_duration x (here (strip_of x) l));
      turned_manoeuvre = λ x y lx ly. sym (m.turned_manoeuvre y x (here (strip_of y) ly) (here (strip_of x) lx));
    }
  where
    swapped : (a b d e M : ℕ) → a + b + d ≡ M → e ≡ d → b + a + e ≡ M
    swapped a b d e M h same = omega arith

-- the strips of a list exist in both or in neither
pub StripsExist-mirror : (M : ℕ) (J K : Orbit) → Mirrors M J K → (xs : List ℕ) → StripsExist J xs → StripsExist K xs
StripsExist-mirror M J K m xs = subst (λ (n : ℕ). AllByRecursion (λ (x : ℕ). strip_of x < n) xs) (sym m.same_size)

-- ---- a strip of the mirror

-- a flipped strip has its windows flipped
window_of-flip_strip : (M : ℕ) (s : Strip) (d : ℕ) → d < 2 → window_of (flip_strip M s) d ≡ flip_window M (window_of s d)
window_of-flip_strip M s zero l = refl
window_of-flip_strip M s (suc zero) l = refl
window_of-flip_strip M s (suc (suc d)) l = absurd (omega arith)

-- the mirror's window of a directed strip that exists
window_at-mirror_of : (J : Orbit) (x : ℕ) → strip_of x < length J.strips
    → window_at (mirror_of J) x ≡ flip_window (horizon_of J) (window_at J x)
unfolding mirror_of
window_at-mirror_of J x l =
    let M = horizon_of J in
    ap (λ (s : Strip). window_of s (direction_of x)) (get_or-map (flip_strip M) J.strips (strip_of x) no_strip no_strip l)
    ∙ window_of-flip_strip M (strip_at J (strip_of x)) (direction_of x) (omega arith)

-- request, area and twin of a flipped strip are the strip's, also past the end
twin-flipped : (M : ℕ) (ss : List Strip) (i : ℕ) → (strip_in (map (flip_strip M) ss) i).twin ≡ (strip_in ss i).twin
twin-flipped M [] i = refl
twin-flipped M (s ∷ ss) zero = refl
twin-flipped M (s ∷ ss) (suc i) = twin-flipped M ss i

request-flipped : (M : ℕ) (ss : List Strip) (i : ℕ) → (strip_in (map (flip_strip M) ss) i).request ≡ (strip_in ss i).request
request-flipped M [] i = refl
request-flipped M (s ∷ ss) zero = refl
request-flipped M (s ∷ ss) (suc i) = request-flipped M ss i

area_for-flipped : (M r : ℕ) (ss : List Strip) (i : ℕ) → area_for r (strip_in (map (flip_strip M) ss) i) ≡ area_for r (strip_in ss i)
area_for-flipped M r [] i = refl
area_for-flipped M r (s ∷ ss) zero = refl
area_for-flipped M r (s ∷ ss) (suc i) = area_for-flipped M r ss i

whole_area-flipped : (M r : ℕ) (ss : List Strip) → sum_by (area_for r) (map (flip_strip M) ss) ≡ sum_by (area_for r) ss
whole_area-flipped M r [] = refl
whole_area-flipped M r (s ∷ ss) =
    sum_by-cons (area_for r) (flip_strip M s) (map (flip_strip M) ss)
    ∙ ap (λ (n : ℕ). area_for r s + n) (whole_area-flipped M r ss)
    ∙ sym (sum_by-cons (area_for r) s ss)

-- what is left of M, with what was taken from it, is M
left_of : (M a d e : ℕ) → e ≡ M - a - d → a + d ≤ M → e + a + d ≡ M
left_of M a d e h l = omega arith

-- a directed strip of a strip that exists is one of the table's
in_table : (J : Orbit) → IsInstance J → (x : ℕ) → strip_of x < length J.strips → x < J.table.size
in_table J h x l = omega (arith, h.table_size)

-- the mirror of an instance is its mirror at its horizon
pub Mirrors-mirror_of : (J : Orbit) → IsInstance J → Mirrors (horizon_of J) J (mirror_of J)
unfolding mirror_of
Mirrors-mirror_of J h =
    let M = horizon_of J in
    let ss = J.strips in
    record {
      same_requests = refl;
      same_size = length-map ss (flip_strip M);
      same_area = λ r i. area_for-flipped M r ss i;
      same_whole_area = λ r. whole_area-flipped M r ss;
      same_partner = λ x. ap (λ (o : Option ℕ). option_map (λ (twin : ℕ). 2 * twin + direction_of x) o) (twin-flipped M ss (strip_of x));
      same_duration = λ x l. ap (λ (w : Window). w.duration) (window_at-mirror_of J x l);
      early_is = λ x l. left_of M (late_at J x) (duration_at J x) (early_at (mirror_of J) x)
          (ap (λ (w : Window). w.early) (window_at-mirror_of J x l)) (horizon_of-late J x l);
      late_is = λ x l. left_of M (early_at J x) (duration_at J x) (late_at (mirror_of J) x)
          (ap (λ (w : Window). w.late) (window_at-mirror_of J x l)) (horizon_of-early J x l);
      turned_manoeuvre = λ x y lx ly. entry_at-turned J.table x y (in_table J h x lx) (in_table J h y ly);
    }

-- ---- the mirror is an instance

-- a flipped window keeps the limits, where the horizon does
IsWindow-flip_window : (M : ℕ) (w : Window) → M ≤ MAX_HORIZON → IsWindow w → IsWindow (flip_window M w)
IsWindow-flip_window M w below h =
    record { takes_time = h.takes_time; short = h.short; over = over M w.early w.late w.duration below h.short }
  where
    over : (M e l d : ℕ) → M ≤ MAX_HORIZON → d ≤ MAX_DURATION → max (M - l - d) (M - e - d) + d ≤ MAX_HORIZON
    over M e l d below short = omega arith

IsStrip-flip_strip : (M n : ℕ) (s : Strip) → M ≤ MAX_HORIZON → IsStrip n s → IsStrip n (flip_strip M s)
IsStrip-flip_strip M n s below h = record {
  request = h.request;
  some_area = h.some_area;
  small = h.small;
  windows = record {
    forth = IsWindow-flip_window M (window_of s 0) below h.windows.forth;
    back = IsWindow-flip_window M (window_of s 1) below h.windows.back;
  };
}

-- flipped strips keep the twin rule
KeepsTwins-flipped : (M : ℕ) (ss : List Strip) → KeepsTwins ss → KeepsTwins (map (flip_strip M) ss)
KeepsTwins-flipped M ss h i l =
    let ts = map (flip_strip M) ss in
    let size = length-map ss (flip_strip M) in
    let there : i < length ss = omega (arith, size, l) in
    subst (λ (o : Option ℕ). IfSome o (IsTwinOf ts i)) (sym (twin-flipped M ss i)) (each M ss i (strip_in ss i).twin (h i there))
  where
    each : (M : ℕ) (ss : List Strip) (i : ℕ) (o : Option ℕ) → IfSome o (IsTwinOf ss i) → IfSome o (IsTwinOf (map (flip_strip M) ss) i)
    each M ss i None h = tt
    each M ss i (Some j) h = record {
      there = rw (length-map ss (flip_strip M)) h.there;
      other = h.other;
      in_turn = twin-flipped M ss j ∙ h.in_turn;
      same_request = request-flipped M ss j ∙ h.same_request ∙ sym (request-flipped M ss i);
    }

-- the mirror of an instance is an instance
pub IsInstance-mirror_of : (J : Orbit) → IsInstance J → IsInstance (mirror_of J)
unfolding mirror_of turned
IsInstance-mirror_of J h =
    let M = horizon_of J in
    let ss = J.strips in
    let n = length J.requests in
    record {
      limits = record {
        few_requests = h.limits.few_requests;
        gains = h.limits.gains;
        few_strips = rw (length-map ss (flip_strip M)) h.limits.few_strips;
        each_strip = All-map (IsStrip n) (flip_strip M) ss (λ k d l. IsStrip-flip_strip M n (get_or ss k d) (horizon_of-le J h) (h.limits.each_strip k d l));
      };
      two_windows = All-map HasTwoWindows (flip_strip M) ss (λ k d l. refl);
      twins = KeepsTwins-flipped M ss h.twins;
      table = IsTable-turned J.table h.table;
      table_size = h.table_size ∙ ap (λ (k : ℕ). 2 * k) (sym (length-map ss (flip_strip M)));
      shortcut = KeepsShortcut-along (duration_at J) (duration_at (mirror_of J)) (turned J.table)
          (λ y l. ap (λ (w : Window). w.duration) (sym (window_at-mirror_of J y (below J y h l))))
          (KeepsShortcut-turned (duration_at J) J.table h.shortcut);
    }
  where
    below : (J : Orbit) (y : ℕ) → IsInstance J → y < (turned J.table).size → strip_of y < length J.strips
    below J y h l = omega (arith, h.table_size)

-- the mirror of an instance, by its parts
pub mirror_made : (J : Orbit) (requests : List Request) (ss strips : List Strip) (horizon : ℕ) (t table : Grid) → requests ≡ J.requests
    → strips ≡ map (flip_strip horizon) ss → horizon ≡ horizon_of J → ss ≡ J.strips → table ≡ turned t → t ≡ J.table
    → record { requests = requests; strips = strips; table = table } ≡ mirror_of J
unfolding mirror_of
mirror_made J requests ss strips horizon t table qs flipped at all round of =
    let is : strips ≡ map (flip_strip (horizon_of J)) J.strips =
    flipped ∙ ap (λ (h : ℕ). map (flip_strip h) ss) at ∙ ap (λ (ss : List Strip). map (flip_strip (horizon_of J)) ss) all in
    let around : table ≡ turned J.table = round ∙ ap (λ (t : Grid). turned t) of in
    cc
