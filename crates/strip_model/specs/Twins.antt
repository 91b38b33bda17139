-- Stereoscopic twins: the lists that a map of twins is made of, and the twin rule in its usual wording.
use Rattle.std.specs.Prelude.{◌≡◌, ℕ, Bool, true, List, map, Option, Some}
use Rattle.std.specs.Option.{option_map_or}
use Rattle.strip_model.specs.Directed.{strip_of, direction_of, has, has_strip}
use Rattle.strip_model.specs.Orbit.{Orbit, twin_at, partner_of}
use Rattle.strip_model.specs.declared.strip.Strip.{Strip}

-- the twin of each of these strips
abbrev pub twins_in : List Strip → List (Option ℕ)
twins_in strips = map (λ (s : Strip). s.twin) strips

-- the request of each of these strips
abbrev pub requests_in : List Strip → List ℕ
requests_in strips = map (λ (s : Strip). s.request) strips

-- the twin of each strip of an instance, by strip
abbrev pub twins_of : Orbit → List (Option ℕ)
twins_of J = twins_in J.strips

-- the request of each strip of an instance, by strip
abbrev pub requests_of : Orbit → List ℕ
requests_of J = requests_in J.strips

-- twins that both stand in the list have one direction
abbrev pub HasTwinsOneWay : Orbit → List ℕ → Type 0
HasTwinsOneWay J xs =
    (x y : ℕ) → has x xs ≡ true → has y xs ≡ true → twin_at J (strip_of x) ≡ Some (strip_of y) → direction_of y ≡ direction_of x

-- The twin rule in its usual wording: of two twins both stand in the list or neither, and they have one direction.
pub record KeepsTwinRule (J : Orbit) (xs : List ℕ) : Type 0 where
  pub both : (i j : ℕ) → twin_at J i ≡ Some j → has_strip i xs ≡ has_strip j xs
  pub one_way : HasTwinsOneWay J xs

-- whether the twin of x's strip stands in the list in the direction of x, if that strip has a twin
abbrev pub keeps_twin : Orbit → List ℕ → ℕ → Bool
keeps_twin J xs x = option_map_or (λ y. has y xs) (partner_of J x) true
