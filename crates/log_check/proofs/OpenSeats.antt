-- The first seat that lacks an extension.
use Rattle.std.proofs.Common.{◌≡◌, ℕ, zero, suc, ◌<◌, ◌≤◌, List, length, get_or, sym, subst, arith, inl, inr}
use Rattle.std.specs.Prelude.{slice_get, Some}
use Rattle.std.proofs.lemmas.Bool.{cases_lt}
use Rattle.std.proofs.lemmas.Option.{slice_get_within, slice_get-get_or}
use Rattle.label.specs.Labels.{IsLabelOf}
use Rattle.label.specs.declared.label.Label.{Label}
use Rattle.log_check.specs.Extending.{HasExtensions, IsFirstOpen}
use Rattle.log_check.specs.Faults.{IsStanding, KeepsExtensionRule, seat_path}
use Rattle.log_check.specs.Reading.{Read}
use Rattle.log_check.specs.Standing.{StandBelow}
use Rattle.proof_log.specs.Labels.{paths_in}
use Rattle.proof_log.specs.declared.log.Log.{Log}
use Rattle.strip_model.specs.Orbit.{Orbit}
use Rattle.strip_model.specs.Side.{Face, face_of}
use Rattle.strip_model.specs.declared.end.End.{End}

-- what is known of the extensions of a seat's path is known of the seat, whatever names the log
pub kept_at_seat : (r read : Read) (e : End) (p : ℕ) (path : List ℕ) → r ≡ read → path ≡ seat_path read.log e p → HasExtensions r.instance r.log e path
    → KeepsExtensionRule read.instance read.log e p
kept_at_seat r read e p path same at has =
    subst (λ (path : List ℕ). HasExtensions read.instance read.log e path) at (subst (λ (r : Read). HasExtensions r.instance r.log e path) same has)

-- and the other way round
pub has_at_seat : (r read : Read) (e : End) (p : ℕ) (path : List ℕ) → r ≡ read → path ≡ seat_path read.log e p → KeepsExtensionRule read.instance read.log e p
    → HasExtensions r.instance r.log e path
has_at_seat r read e p path same at keeps =
    subst (λ (r : Read). HasExtensions r.instance r.log e path) (sym same)
    (subst (λ (path : List ℕ). HasExtensions read.instance read.log e path) (sym at) keeps)

-- the seats of the root and of the first i of the labels that stand keep the rule
pub record KeptBelow (I : Orbit) (log : Log) (e : End) (places : List ℕ) (i : ℕ) : Type 0 where
  pub root : KeepsExtensionRule I log e 0
  pub labels : (j k : ℕ) → j < i → slice_get places j ≡ Some k → KeepsExtensionRule I log e (suc k)

-- one more does
pub KeptBelow-more : (I : Orbit) (log : Log) (e : End) (places : List ℕ) (i k : ℕ) → slice_get places i ≡ Some k → KeepsExtensionRule I log e (suc k)
    → KeptBelow I log e places i → KeptBelow I log e places (suc i)
KeptBelow-more I log e places i k at keeps h = record {
  root = h.root;
  labels = λ j m l there. elim (cases_lt j i) [
    | inl lt ↦ h.labels j m lt there
    | inr le ↦
        let here : j ≡ i = omega arith in
        let same : k ≡ m = let found : slice_get places i ≡ Some m = rw (← here) there in cc in
        subst (λ (n : ℕ). KeepsExtensionRule I log e (suc n)) same keeps
  ];
}

-- all that stand do
pub all_kept : (I : Orbit) (log : Log) (e : End) (labels : List Label) (places : List ℕ) (i : ℕ) → StandBelow I log e (length (paths_in log e)) labels places
    → length labels ≤ i → KeptBelow I log e places i → (p : ℕ) → IsStanding log e p → KeepsExtensionRule I log e p
all_kept I log e labels places i stand end h zero standing = h.root
all_kept I log e labels places i stand end h (suc k) standing =
    let found = stand.all k standing standing.0 in
    h.labels found.0 k (omega (arith, slice_get_within places found.0 k found.1, stand.size)) found.1

-- the label at place i is the first that doesn't
pub first_open_label : (I : Orbit) (log : Log) (e : End) (labels : List Label) (places : List ℕ) (i k : ℕ) (label : Label) → StandBelow I log e (length (paths_in log e)) labels places
    → slice_get labels i ≡ Some label → slice_get places i ≡ Some k → KeptBelow I log e places i → (KeepsExtensionRule I log e (suc k) → ⊥) → IsFirstOpen I log e (suc k)
first_open_label I log e labels places i k label stand at place h lacks = record {
  standing = (stand.each i k label at place).1;
  lacks = lacks;
  before = before;
}
  where
    before : (q : ℕ) → q < suc k → IsStanding log e q → KeepsExtensionRule I log e q
    before zero l standing = h.root
    before (suc m) l standing =
        let found = stand.all m standing standing.0 in
        elim (cases_lt found.0 i) [
          | inl lt ↦ h.labels found.0 m lt found.1
          | inr le ↦ elim (cases_lt i found.0) [
            | inl lt ↦ absurd (omega (arith, stand.rising i found.0 k m lt place found.1))
            | inr ge ↦ absurd (
                let here : found.0 ≡ i = omega arith in
                let same : k ≡ m = let there : slice_get places i ≡ Some m = rw (← here) found.1 in cc in
                omega arith
                )
          ]
        ]

-- where the root lacks an extension, it is the first
pub root_open : (I : Orbit) (log : Log) (e : End) → (KeepsExtensionRule I log e 0 → ⊥) → IsFirstOpen I log e 0
root_open I log e lacks = record { standing = tt; lacks = lacks; before = λ q l standing. absurd (omega arith) }

-- each label that stands has a number
pub number_at : (I : Orbit) (log : Log) (e : End) (count : ℕ) (labels : List Label) (places : List ℕ) (i : ℕ) (label : Label) → StandBelow I log e count labels places
    → slice_get labels i ≡ Some label → slice_get places i ≡ Some (get_or places i 0)
number_at I log e count labels places i label stand at =
    slice_get-get_or places i 0 (omega (arith, slice_get_within labels i label at, stand.size))

-- and is a label of its side
pub label_at_side : (I : Orbit) (log : Log) (e : End) (count : ℕ) (labels : List Label) (places : List ℕ) (i : ℕ) (label : Label) (S : Face)
    → StandBelow I log e count labels places → slice_get labels i ≡ Some label → S ≡ face_of I log.cut e → IsLabelOf S label
label_at_side I log e count labels places i label S stand at side =
    subst (λ (S : Face). IsLabelOf S label) (sym side) (stand.each i (get_or places i 0) label at (number_at I log e count labels places i label stand at)).0.1
