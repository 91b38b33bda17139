-- The members of antichains that stand in a list.
use Rattle.std.proofs.Common.{◌≡◌, ℕ, ◌<◌, List, length, get_or, set, sym, ◌∙◌, ap}
use Rattle.std.proofs.lemmas.List.{get_or-map, length-map, map-set}
use Rattle.admission.specs.Antichains.{members_of}
use Rattle.antichain.specs.Antichains.{Row}

pub length-members : (rows : List Row) → length (members_of rows) ≡ length rows
length-members rows = length-map rows (λ (r : Row). r.members)

-- those of the antichain that was read at a place
pub members-read : (rows : List Row) (x : ℕ) (row : Row) → x < length rows → row ≡ get_or rows x row → row.members ≡ get_or (members_of rows) x row.members
members-read rows x row below is = ap (λ (r : Row). r.members) is ∙ sym (get_or-map (λ (r : Row). r.members) rows x row row.members below)

-- one of them was written
pub members-written : (rows : List Row) (x : ℕ) (row : Row) → members_of (set rows x row) ≡ set (members_of rows) x row.members
members-written rows x row = map-set (λ (r : Row). r.members) rows x row
