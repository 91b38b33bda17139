-- What may still come after a path, and what the whole can gain at most.
use Rattle.std.specs.Prelude.{ℕ, ◌+◌, ◌*◌, Bool, false, not, ◌&&◌, ◌||◌, nat_lt, nat_le, if◌then◌else◌, List, [], ◌∷◌, length}
use Rattle.std.specs.List.{flat_map, list_all}
use Rattle.std.specs.Option.{option_map_or}
use Rattle.strip_model.specs.Directed.{strip_of, has, has_strip}
use Rattle.strip_model.specs.Gain.{sum_below, area_for, area_in, gain_with}
use Rattle.strip_model.specs.Orbit.{Orbit, strip_at, late_at, twin_at, partner_of}
use Rattle.strip_model.specs.Starts.{Root, arrive, place_after}

-- the strip of x has a twin that doesn't stand in the path, in either direction
abbrev pub lacks_twin : Orbit → List ℕ → ℕ → Bool
lacks_twin J path x = option_map_or (λ t. not (has_strip t path)) (twin_at J (strip_of x)) false

-- Open: the directed strips of the path whose strip has a twin that doesn't stand in it.
abbrev pub is_open : Orbit → List ℕ → ℕ → Bool
is_open J path x = has x path && lacks_twin J path x

-- the twin of x in its direction, if x has one whose strip the path lacks
abbrev pub need_of : Orbit → List ℕ → ℕ → List ℕ
need_of J path x = option_map_or (λ z. if has_strip (strip_of z) path then [] else z ∷ []) (partner_of J x) []

-- Needs: for each open directed strip its twin in the same direction.
unfoldable pub needs : Orbit → List ℕ → List ℕ
needs J path = flat_map (need_of J path) path

-- Reach: y is of a strip that exists and isn't in the path, and it can start in its window directly after the path's last.
-- The cap plays no part.
unfoldable pub reaches : Orbit → List ℕ → ℕ → Bool
reaches J path y =
    nat_lt (strip_of y) (length J.strips)
    && (not (has_strip (strip_of y) path) && nat_le (arrive J (place_after J Root path) y) (late_at J y))

-- the area of the strips of request r for which a test holds
abbrev pub area_where : Orbit → ℕ → (ℕ → Bool) → ℕ
area_where J r test = sum_below (length J.strips) (λ i. if test i then area_for r (strip_at J i) else 0)

-- the area of the strips of request r of which a direction is in reach
unfoldable pub area_reached : Orbit → ℕ → List ℕ → ℕ
area_reached J r path = area_where J r (λ i. reaches J path (2 * i) || reaches J path (2 * i + 1))

-- Bound: the gain if all that is in reach were acquired too, and 0 where a need isn't in reach.
unfoldable pub bound : Orbit → List ℕ → ℕ
bound J path = if list_all (reaches J path) (needs J path) then gain_with J (λ r. area_in J r path + area_reached J r path) else 0
