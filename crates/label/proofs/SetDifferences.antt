-- The least differences of two sets, request by request.
use Rattle.std.proofs.Common.{◌≡◌, ℕ, zero, suc, ◌+◌, ◌*◌, ◌<◌, ◌≤◌, Bool, true, false, ◌&&◌, ◌==◌, nat_lt, if◌then◌else◌, List, length, ℤ, pos, ◌-ℤ◌, ◌*ℤ◌, ◌≤ℤ◌, ◌+ℤ◌, to_z, of_z, w64, refl, ◌∙◌, ap, ap₂, arith}
use Rattle.std.proofs.lemmas.Bool.{lt-ltb}
use Rattle.std.proofs.Math.IntN.{*ℤ-zero}
use Rattle.std.proofs.lemmas.Int.{ints}
use Rattle.gain_curve.specs.Curve.{phi}
use Rattle.gain_curve.specs.Difference.{worst}
use Rattle.label.specs.Gaining.{set_area, area_in_set, set_difference}
use Rattle.label.specs.Tables.{is_strip_of}
use Rattle.std.specs.Int.Signed.{le_z}
use Rattle.std.specs.Prelude.{neg_ℤ, IsTrue, ◌↔◌}
use Rattle.strip_model.proofs.Reaching.{area_where-apart}
use Rattle.gain_curve.specs.declared.curve.TheConstants.{MAX_AREA}
use Rattle.strip_model.specs.declared.limits.TheConstants.{MAX_GAIN}
use Rattle.strip_model.proofs.Sums.{sum_below_same}
use Rattle.strip_model.proofs.Weighing.{int_sum_below_same}
use Rattle.strip_model.specs.Directed.{has}
use Rattle.strip_model.specs.Dominance.{int_sum_below}
use Rattle.strip_model.specs.Gain.{area_for, whole_area}
use Rattle.std.specs.Prelude.{slice_index_or}
use Rattle.strip_model.specs.declared.request.Request.{Request}
use Rattle.strip_model.specs.Orbit.{no_request, Orbit, gain_at, strip_at, area_at, request_at}
use Rattle.strip_model.specs.Reach.{area_where}

-- two tests that pass the same strips find the same area
pub area_where_same : (J : Orbit) (r : ℕ) (p q : ℕ → Bool) → ((i : ℕ) → p i ≡ q i) → area_where J r p ≡ area_where J r q
area_where_same J r p q same =
    sum_below_same (length J.strips) (λ i. if p i then area_for r (strip_at J i) else 0) (λ i. if q i then area_for r (strip_at J i) else 0)
    (λ i l. ap (λ (t : Bool). if t then area_for r (strip_at J i) else 0) (same i))

-- the area of the members that are of request r is what the set acquires of it
pub area_in_set-own : (J : Orbit) (r : ℕ) (set own both : List ℕ) → ((i : ℕ) → has i own ≡ is_strip_of J r i)
    → ((i : ℕ) → has i both ≡ (has i set && has i own)) → area_in_set J both ≡ set_area J set r
area_in_set-own J r set own both of_request meet =
    sum_below_same (length J.strips) (λ i. if has i both then area_at J i else 0) (λ i. if has i set then area_for r (strip_at J i) else 0)
    (λ i l.
    ap (λ (t : Bool). if t then area_at J i else 0)
    (meet i ∙ ap (λ (t : Bool). has i set && t) (of_request i ∙ ap (λ (t : Bool). t && request_at J i == r) (lt-ltb i (length J.strips) l)))
    ∙ nested (has i set) (request_at J i == r) (area_at J i))
  where
    nested : (p q : Bool) (v : ℕ) → (if p && q then v else 0) ≡ (if p then (if q then v else 0) else 0)
    nested true q v = refl
    nested false q v = refl

-- the same as the code has it, of an instance that is this one
pub own_area : (J K : Orbit) (r v : ℕ) (set own both : List ℕ) → K ≡ J → v ≡ area_in_set K both → ((i : ℕ) → has i own ≡ is_strip_of J r i)
    → ((i : ℕ) → has i both ≡ (has i set && has i own)) → v ≡ set_area J set r
own_area J K r v set own both this is of_request meet =
    is ∙ ap (λ (I : Orbit). area_in_set I both) this ∙ area_in_set-own J r set own both of_request meet

-- sets of the same strips have the same area
pub area_in_set_same : (J : Orbit) (a b : List ℕ) → ((i : ℕ) → has i a ≡ has i b) → area_in_set J a ≡ area_in_set J b
area_in_set_same J a b same =
    sum_below_same (length J.strips) (λ i. if has i a then area_at J i else 0) (λ i. if has i b then area_at J i else 0)
    (λ i l. ap (λ (t : Bool). if t then area_at J i else 0) (same i))

-- where both acquire the same, the least difference is 0
difference-none : (g a c area : ℕ) → pos g *ℤ worst a a c area ≡ pos 0
difference-none g a c area =
    let added = if nat_lt a a then c else 0 in
    ap (λ (d : ℤ). pos g *ℤ d) (nothing (phi (a + added) area)) ∙ *ℤ-zero (pos g)
  where
    nothing : (x : ℕ) → pos x -ℤ pos x ≡ pos 0
    nothing x = omega (arith, ints)

pub set_difference-none : (J : Orbit) (b a : List ℕ) (room : ℕ → ℕ) (r : ℕ) → set_area J b r ≡ set_area J a r → set_difference J b a room r ≡ pos 0
set_difference-none J b a room r same =
    ap (λ (k : ℕ). pos (gain_at J r) *ℤ worst k (set_area J a r) (room r) (whole_area J r)) same
    ∙ difference-none (gain_at J r) (set_area J a r) (room r) (whole_area J r)

-- summands of 0 add up to 0
pub int_sum_below-zero : (n : ℕ) (f : ℕ → ℤ) → ((i : ℕ) → i < n → f i ≡ pos 0) → int_sum_below n f ≡ pos 0
int_sum_below-zero zero f h = refl
int_sum_below-zero (suc n) f h = omega (arith, ints, h n (omega arith), int_sum_below-zero n f (λ i l. h i (omega arith)))

-- only the room's area counts
pub set_difference_same : (J : Orbit) (b a : List ℕ) (p q : ℕ → ℕ) → ((r : ℕ) → p r ≡ q r)
    → int_sum_below (length J.requests) (set_difference J b a p) ≡ int_sum_below (length J.requests) (set_difference J b a q)
set_difference_same J b a p q same =
    int_sum_below_same (length J.requests) (set_difference J b a p) (set_difference J b a q)
    (λ r l. ap (λ (k : ℕ). pos (gain_at J r) *ℤ worst (set_area J b r) (set_area J a r) k (whole_area J r)) (same r))

-- what a request can differ by at most, weighted
abbrev pub MOST : ℕ
MOST = 20 * MAX_AREA * MAX_GAIN

-- an integer of this size reads back as it was written
pub read_back : (z : ℤ) → neg_ℤ (pos (64 * MOST)) ≤ℤ z → z ≤ℤ pos (64 * MOST) → to_z w64 (of_z w64 z) ≡ z
read_back z low high = omega (arith, ints)

-- the numbers f of the first requests, added up, each within its bounds
pub record IsSummed (f : ℕ → ℤ) (n : ℕ) (sum : ℤ) : Type 0 where
  pub so_far : sum ≡ int_sum_below n f
  pub at_least : neg_ℤ (pos (n * MOST)) ≤ℤ sum
  pub at_most : sum ≤ℤ pos (n * MOST)

-- one more of them
pub IsSummed-step : (f : ℕ → ℤ) (n : ℕ) (sum d : ℤ) → n < 64 → IsSummed f n sum → d ≡ f n → neg_ℤ (pos MOST) ≤ℤ d → d ≤ℤ pos MOST
    → IsSummed f (n + 1) (to_z w64 (of_z w64 (sum +ℤ to_z w64 (of_z w64 d))))
IsSummed-step f n sum d few h is low high =
    let one : to_z w64 (of_z w64 d) ≡ d = read_back d (omega (arith, ints)) (omega (arith, ints)) in
    let both : to_z w64 (of_z w64 (sum +ℤ d)) ≡ sum +ℤ d = read_back (sum +ℤ d) (omega (arith, ints, h.at_least)) (omega (arith, ints, h.at_most)) in
    let next : n + 1 ≡ suc n = omega arith in
    rw one (rw both (rw next (record {
      so_far = ap₂ (λ (a b : ℤ). a +ℤ b) h.so_far is;
      at_least = omega (arith, ints, h.at_least);
      at_most = omega (arith, ints, h.at_most);
    })))

-- whether such a sum is at least 0, as the code asks
pub at_least_zero : (z s : ℤ) → z ≡ s → neg_ℤ (pos (64 * MOST)) ≤ℤ z → z ≤ℤ pos (64 * MOST)
    → IsTrue (le_z (pos 0) (to_z w64 (of_z w64 z))) ↔ (pos 0 ≤ℤ s)
at_least_zero z s same low high = rw (read_back z low high) (rw same (decides (pos 0) s))
  where
    decides : (a b : ℤ) → IsTrue (le_z a b) ↔ (a ≤ℤ b)
    decides a b = (λ t. grind (arith, ints), λ t. grind (arith, ints))

-- the first of two apart sets acquires no more than the second leaves
pub set_area-room : (J : Orbit) (set room : List ℕ) (r : ℕ) → ((i : ℕ) → has i room ≡ true → has i set ≡ false)
    → set_area J set r + set_area J room r ≤ whole_area J r
set_area-room J set room r apart = area_where-apart J r (λ i. has i set) (λ i. has i room) apart

-- What the code makes of the areas that it added up is the least difference of the sets, weighted.
pub set_difference-is : (J K : Orbit) (b a room : List ℕ) (r k : ℕ) (requests : List Request) (first second added : ℕ) (least result : ℤ)
    → K ≡ J → requests ≡ K.requests → k ≡ r
    → first ≡ set_area J b r → second ≡ set_area J a r → added ≡ set_area J room r
    → least ≡ worst first second added (whole_area K r) → neg_ℤ (pos (20 * MAX_AREA)) ≤ℤ least → least ≤ℤ pos (20 * MAX_AREA)
    → result ≡ pos (slice_index_or requests k no_request).gain *ℤ to_z w64 (of_z w64 least) → neg_ℤ (pos MOST) ≤ℤ result → result ≤ℤ pos MOST
    → to_z w64 (of_z w64 result) ≡ set_difference J b a (set_area J room) r
set_difference-is J K b a room r k requests first second added least result this requests_are k_is b_is a_is room_is worst_is l_low l_high is low high =
    read_back result (omega (arith, ints)) (omega (arith, ints))
    ∙ is
    ∙ ap₂ (λ (g : ℕ) (d : ℤ). pos g *ℤ d)
    (ap₂ (λ (rs : List Request) (i : ℕ). (slice_index_or rs i no_request).gain) (requests_are ∙ ap (λ (I : Orbit). I.requests) this) k_is)
    (read_back least (omega (arith, ints)) (omega (arith, ints)) ∙ worst_is
    ∙ ap (λ (I : Orbit). worst first second added (whole_area I r)) this
    ∙ ap (λ (v : ℕ). worst v second added (whole_area J r)) b_is
    ∙ ap (λ (v : ℕ). worst (set_area J b r) v added (whole_area J r)) a_is
    ∙ ap (λ (v : ℕ). worst (set_area J b r) (set_area J a r) v (whole_area J r)) room_is)
