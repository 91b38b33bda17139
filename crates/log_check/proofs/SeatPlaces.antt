-- The places of labels and of seats of both sides.
use Rattle.std.proofs.Common.{◌≡◌, ℕ, zero, suc, ◌+◌, ◌<◌, ◌≤◌, List, length, subst, arith}
use Rattle.std.proofs.lemmas.List.{length-map}
use Rattle.log_check.specs.Extending.{IsFirstOpen}
use Rattle.log_check.specs.Faults.{IsKept, IsFirstPlace, KeepsLabelRule, KeepsExtensionRule, IsStanding, first_seat}
use Rattle.log_check.specs.Faults.Rule.{LabelsAreRight, AllAreExtended}
use Rattle.log_check.specs.Listing.{IsListing}
use Rattle.log_check.specs.declared.listing.Listing.{Listing}
use Rattle.strip_model.specs.Side.{Face, face_of}
use Rattle.proof_log.specs.Labels.{paths_in}
use Rattle.proof_log.specs.declared.log.Log.{Log}
use Rattle.strip_model.specs.Orbit.{Orbit}
use Rattle.strip_model.specs.declared.end.End.{End}
use Rattle.strip_model.specs.declared.end.End.TheVariants.{Forward, Backward}

-- how many forward labels there are
pub forward_count : (log : Log) → length (paths_in log Forward) ≡ length log.forward.items
forward_count log = length-map log.forward.items _

-- the labels of a side with numbers below k keep the third rule
abbrev pub RightBelow : Orbit → Log → End → ℕ → Type 0
RightBelow I log e k = (j : ℕ) → j < k → KeepsLabelRule I log e j

-- the third rule is kept where it is on both sides
pub labels_right : (I : Orbit) (log : Log) → RightBelow I log Forward (length (paths_in log Forward)) → RightBelow I log Backward (length (paths_in log Backward))
    → IsKept I log LabelsAreRight
labels_right I log forward backward n Forward k there is = forward k there
labels_right I log forward backward n Backward k there is = backward k there

-- the first wrong label, where it is a forward one
pub wrong_forward : (I : Orbit) (log : Log) (k n : ℕ) → n ≡ k + 1 → k < length (paths_in log Forward) → (KeepsLabelRule I log Forward k → ⊥) → RightBelow I log Forward k
    → IsFirstPlace I log LabelsAreRight n
wrong_forward I log k n is there wrong right = record {
  broken = λ keeps. wrong (keeps Forward k there (omega arith));
  before = before;
}
  where
    before : (m : ℕ) → m < n → (e : End) (j : ℕ) → j < length (paths_in log e) → first_seat log e + suc j ≡ m → KeepsLabelRule I log e j
    before m l Forward j in_list at = right j (omega arith)
    before m l Backward j in_list at = absurd (omega (arith, forward_count log))

-- and where all forward ones are right
pub wrong_backward : (I : Orbit) (log : Log) (k n : ℕ) → n ≡ length log.forward.items + k + 2 → k < length (paths_in log Backward)
    → (KeepsLabelRule I log Backward k → ⊥) → RightBelow I log Forward (length (paths_in log Forward)) → RightBelow I log Backward k
    → IsFirstPlace I log LabelsAreRight n
wrong_backward I log k n is there wrong forward right = record {
  broken = λ keeps. wrong (keeps Backward k there (omega arith));
  before = before;
}
  where
    before : (m : ℕ) → m < n → (e : End) (j : ℕ) → j < length (paths_in log e) → first_seat log e + suc j ≡ m → KeepsLabelRule I log e j
    before m l Forward j in_list at = forward j in_list
    before m l Backward j in_list at = right j (omega arith)

-- all seats of a side keep the seventh rule
abbrev pub SideExtended : Orbit → Log → End → Type 0
SideExtended I log e = (p : ℕ) → IsStanding log e p → KeepsExtensionRule I log e p

-- the seventh rule is kept where it is on both sides
pub seats_extended : (I : Orbit) (log : Log) → SideExtended I log Forward → SideExtended I log Backward → IsKept I log AllAreExtended
seats_extended I log forward backward n Forward p standing is = forward p standing
seats_extended I log forward backward n Backward p standing is = backward p standing

-- a forward seat is no later than the forward labels
seat_within : (log : Log) (p : ℕ) → IsStanding log Forward p → p ≤ length log.forward.items
seat_within log zero standing = omega arith
seat_within log (suc k) standing = omega (arith, standing.0, forward_count log)

-- the first seat that lacks an extension, where it is a forward one
pub open_forward : (I : Orbit) (log : Log) (p : ℕ) → IsFirstOpen I log Forward p → IsFirstPlace I log AllAreExtended p
open_forward I log p first = record {
  broken = λ keeps. first.lacks (keeps Forward p first.standing (omega arith));
  before = before;
}
  where
    before : (m : ℕ) → m < p → (e : End) (q : ℕ) → IsStanding log e q → first_seat log e + q ≡ m → KeepsExtensionRule I log e q
    before m l Forward q standing at = first.before q (omega arith) standing
    before m l Backward q standing at = absurd (omega (arith, seat_within log p first.standing))

-- and where the forward ones lack none
pub open_backward : (I : Orbit) (log : Log) (p n : ℕ) → n ≡ length log.forward.items + 1 + p → SideExtended I log Forward → IsFirstOpen I log Backward p
    → IsFirstPlace I log AllAreExtended n
open_backward I log p n is forward first = record {
  broken = λ keeps. first.lacks (keeps Backward p first.standing (omega arith));
  before = before;
}
  where
    before : (m : ℕ) → m < n → (e : End) (q : ℕ) → IsStanding log e q → first_seat log e + q ≡ m → KeepsExtensionRule I log e q
    before m l Forward q standing at = forward q standing
    before m l Backward q standing at = first.before q (omega arith) standing

-- what was found of a list of paths was found of a side's
pub listing_at : (I : Orbit) (log : Log) (e : End) (S : Face) (paths : List (List ℕ)) (listing : Listing) → S ≡ face_of I log.cut e → paths ≡ paths_in log e
    → IsListing S paths listing → IsListing (face_of I log.cut e) (paths_in log e) listing
listing_at I log e S paths listing side listed is =
    subst (λ (paths : List (List ℕ)). IsListing (face_of I log.cut e) paths listing) listed (subst (λ (S : Face). IsListing S paths listing) side is)
