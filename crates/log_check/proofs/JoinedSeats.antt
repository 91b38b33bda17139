-- The eighth rule, from the first pair of labels that stand and join for more than the gain.
use Rattle.std.proofs.Common.{◌≡◌, ℕ, zero, suc, All, slice_get, Option, Some, ◌<◌, ◌≤◌, List, length, get_or, refl, sym, subst, ap, ◌∙◌, arith, inl, inr}
use Rattle.std.proofs.lemmas.Bool.{cases_lt}
use Rattle.std.proofs.lemmas.Option.{slice_get_within, slice_get-get_or, get_or_from_slice_get, slice_get_cases}
use Rattle.joiner.specs.Pairs.{NoneAbove, IsFirstOver, IsOver, place_of}
use Rattle.joiner.specs.LabelJoins.{IsLabelAt}
use Rattle.joiner.specs.Pairs as pairs
use Rattle.joiner.specs.declared.over.Over.{Over}
use Rattle.label.specs.Labels.{path_of}
use Rattle.label.specs.declared.label.Label.{Label}
use Rattle.log_check.proofs.OpenSeats.{number_at}
use Rattle.log_check.specs.Faults.{Keeps, IsFirstPlace, IsStanding, seat_path}
use Rattle.log_check.specs.Faults.Rule.{NoneJoinForMore}
use Rattle.log_check.specs.Seats.{seat_at}
use Rattle.log_check.specs.Standing.{StandBelow}
use Rattle.proof_log.specs.Labels.{paths_in}
use Rattle.proof_log.specs.declared.log.Log.{Log}
use Rattle.strip_model.specs.Join.{Joins, join_gain}
use Rattle.strip_model.specs.Orbit.{Orbit}
use Rattle.strip_model.specs.declared.end.End.{End}
use Rattle.strip_model.specs.declared.end.End.TheVariants.{Forward, Backward}

-- a place of the list has a seat that stands, with the same path
record HasSeat (log : Log) (e : End) (labels : List Label) (places : List ℕ) (i : ℕ) : Type 0 where
  standing : IsStanding log e (seat_at places i)
  path : pairs.path_at labels i ≡ seat_path log e (seat_at places i)

seat_of_place : (I : Orbit) (log : Log) (e : End) (count : ℕ) (labels : List Label) (places : List ℕ) (i : ℕ) → StandBelow I log e count labels places
    → i ≤ length labels → HasSeat log e labels places i
seat_of_place I log e count labels places zero stand l = record { standing = tt; path = refl }
seat_of_place I log e count labels places (suc k) stand l =
    elim (slice_get_cases labels k).1 [
      | inl found ↦
          let label = found.0 in
          let place = number_at I log e count labels places k label stand found.2 in
          let each = stand.each k (get_or places k 0) label found.2 place in
          record { standing = each.1; path = ap path_of found.2 ∙ each.0.0 }
      | inr past ↦ absurd (omega (arith, past.0))
    ]

-- a seat that stands has a place
record HasPlace (labels : List Label) (places : List ℕ) (p : ℕ) : Type 0 where
  place : ℕ
  there : place ≤ length labels
  is : seat_at places place ≡ p

place_of_seat : (I : Orbit) (log : Log) (e : End) (labels : List Label) (places : List ℕ) (p : ℕ) → StandBelow I log e (length (paths_in log e)) labels places
    → IsStanding log e p → HasPlace labels places p
place_of_seat I log e labels places zero stand standing = record { place = 0; there = omega arith; is = refl }
place_of_seat I log e labels places (suc k) stand standing =
    let found = stand.all k standing standing.0 in
    record {
      place = suc found.0;
      there = omega (arith, slice_get_within places found.0 k found.1, stand.size);
      is = ap (λ (n : ℕ). suc n) (get_or_from_slice_get places found.0 k 0 found.1);
    }

-- seats rise with their places
seats_rise : (I : Orbit) (log : Log) (e : End) (count : ℕ) (labels : List Label) (places : List ℕ) (i j : ℕ) → StandBelow I log e count labels places
    → i ≤ j → j ≤ length labels → seat_at places i ≤ seat_at places j
seats_rise I log e count labels places zero j stand l there = omega arith
seats_rise I log e count labels places (suc a) zero stand l there = absurd (omega arith)
seats_rise I log e count labels places (suc a) (suc b) stand l there =
    elim (cases_lt a b) [
      | inl lt ↦
          let first = slice_get-get_or places a 0 (omega (arith, stand.size)) in
          let second = slice_get-get_or places b 0 (omega (arith, stand.size)) in
          omega (arith, stand.rising a b (get_or places a 0) (get_or places b 0) lt first second)
      | inr le ↦ let same : a ≡ b = omega arith in rw same (omega arith)
    ]

-- what holds of the pair at two places holds at their seats
at_seats : (I : Orbit) (log : Log) (fs bs : List Label) (fp bp : List ℕ) (i j n q : ℕ)
    → HasSeat log Forward fs fp i → HasSeat log Backward bs bp j → seat_at fp i ≡ n → seat_at bp j ≡ q
    → (Joins I (pairs.path_at fs i) (pairs.path_at bs j) → join_gain I (pairs.path_at fs i) (pairs.path_at bs j) ≤ log.gain)
    → Joins I (seat_path log Forward n) (seat_path log Backward q) → join_gain I (seat_path log Forward n) (seat_path log Backward q) ≤ log.gain
at_seats I log fs bs fp bp i j n q first second f_is b_is holds =
    let P : List ℕ → List ℕ → Type 0 = λ f b. Joins I f b → join_gain I f b ≤ log.gain in
    let f = first.path ∙ ap (λ (p : ℕ). seat_path log Forward p) f_is in
    let b = second.path ∙ ap (λ (p : ℕ). seat_path log Backward p) b_is in
    subst (λ (f : List ℕ). P f (seat_path log Backward q)) f (subst (λ (b : List ℕ). P (pairs.path_at fs i) b) b holds)

-- where no pair gains more, each seat keeps the rule
pub none_above_kept : (I : Orbit) (log : Log) (fs bs : List Label) (fp bp : List ℕ)
    → StandBelow I log Forward (length (paths_in log Forward)) fs fp → StandBelow I log Backward (length (paths_in log Backward)) bs bp
    → NoneAbove I fs bs log.gain → (n : ℕ) → Keeps I log NoneJoinForMore n
none_above_kept I log fs bs fp bp forward backward none n standing q other =
    let f = place_of_seat I log Forward fs fp n forward standing in
    let b = place_of_seat I log Backward bs bp q backward other in
    at_seats I log fs bs fp bp f.place b.place n q
    (seat_of_place I log Forward _ fs fp f.place forward f.there) (seat_of_place I log Backward _ bs bp b.place backward b.there) f.is b.is
    (none f.place f.there b.place b.there)

-- else the first place that joins for more is that of the first seat that breaks it
pub first_over_first : (I : Orbit) (log : Log) (fs bs : List Label) (fp bp : List ℕ)
    → StandBelow I log Forward (length (paths_in log Forward)) fs fp → StandBelow I log Backward (length (paths_in log Backward)) bs bp
    → (over : Over) → IsFirstOver I fs bs log.gain over → IsFirstPlace I log NoneJoinForMore (seat_at fp (place_of over.forward))
first_over_first I log fs bs fp bp forward backward over first = record {
  broken = λ keeps.
      let p = place_of over.forward in
      let q = first.some.with in
      let f = seat_of_place I log Forward _ fs fp p forward first.there in
      let b = seat_of_place I log Backward _ bs bp q backward first.some.there in
      let at_most = keeps f.standing (seat_at bp q) b.standing in
      let P : List ℕ → List ℕ → Type 0 = λ f b. Joins I f b → join_gain I f b ≤ log.gain in
      let back = subst (λ (f : List ℕ). P f (pairs.path_at bs q)) (sym f.path) (subst (λ (b : List ℕ). P (seat_path log Forward (seat_at fp p)) b) (sym b.path) at_most) in
      omega (arith, back first.some.joins, first.some.over);
  before = λ n l standing q other.
      let f = place_of_seat I log Forward fs fp n forward standing in
      let b = place_of_seat I log Backward bs bp q backward other in
      let earlier : f.place < place_of over.forward =
      elim (cases_lt f.place (place_of over.forward)) [
        | inl lt ↦ lt
        | inr le ↦ absurd (omega (arith, seats_rise I log Forward _ fs fp (place_of over.forward) f.place forward le f.there, f.is))
      ] in
      at_seats I log fs bs fp bp f.place b.place n q
      (seat_of_place I log Forward _ fs fp f.place forward f.there) (seat_of_place I log Backward _ bs bp b.place backward b.there) f.is b.is
      (first.none_before f.place earlier b.place b.there);
}

-- all labels that stand are labels of their end
pub labels_at_end : (I : Orbit) (log : Log) (e : End) (count : ℕ) (labels : List Label) (places : List ℕ) (xs : List Label) → xs ≡ labels
    → StandBelow I log e count labels places → All (IsLabelAt I e) xs
labels_at_end I log e count labels places xs is stand =
    let A : List Label → Type 0 = λ xs. All (IsLabelAt I e) xs in
    subst A (sym is) (λ i d l. (
      log.cut,
      let at = slice_get-get_or labels i d l in
          (stand.each i (get_or places i 0) (get_or labels i d) at (number_at I log e count labels places i (get_or labels i d) stand at)).0.1,
    ))

-- a number is no less than its place
number_above : (I : Orbit) (log : Log) (e : End) (count : ℕ) (labels : List Label) (places : List ℕ) → StandBelow I log e count labels places
    → (i k : ℕ) → slice_get places i ≡ Some k → i ≤ k
number_above I log e count labels places stand zero k at = omega arith
number_above I log e count labels places stand (suc i) k at =
    let l = slice_get_within places (suc i) k at in
    let before = slice_get-get_or places i 0 (omega (arith, l)) in
    let least : i ≤ get_or places i 0 = number_above I log e count labels places stand i (get_or places i 0) before in
    omega (arith, least, stand.rising i (suc i) (get_or places i 0) k (omega arith) before at)

-- no more labels stand than there are
few_stand : (I : Orbit) (log : Log) (e : End) (count : ℕ) (labels : List Label) (places : List ℕ) (n : ℕ) → n ≡ length places
    → StandBelow I log e count labels places → n ≤ count
few_stand I log e count labels places zero is stand = omega arith
few_stand I log e count labels places (suc n) is stand =
    let last = slice_get-get_or places n 0 (omega arith) in
    omega (arith, number_above I log e count labels places stand n (get_or places n 0) last, stand.below n (get_or places n 0) last)

pub few_labels : (I : Orbit) (log : Log) (e : End) (count limit : ℕ) (labels : List Label) (places : List ℕ) (xs : List Label) → xs ≡ labels
    → StandBelow I log e count labels places → count ≤ limit → length xs ≤ limit
few_labels I log e count limit labels places xs is stand l =
    let size : length xs ≡ length labels = ap (λ (xs : List Label). length xs) is in
    omega (arith, few_stand I log e count labels places (length places) refl stand, stand.size)

-- they stand whatever names them
pub stand_as : (I : Orbit) (log : Log) (e : End) (count : ℕ) (labels : List Label) (places : List ℕ) (xs : List Label) → xs ≡ labels
    → StandBelow I log e count labels places → StandBelow I log e count xs places
stand_as I log e count labels places xs is stand = subst (λ (xs : List Label). StandBelow I log e count xs places) (sym is) stand

-- what was found of pairs was found of them whatever names the instance and the log
pub over_as : (J I : Orbit) (L log : Log) (fs bs : List Label) (answer : Option Over) → J ≡ I → L ≡ log → IsOver J fs bs L.gain answer → IsOver I fs bs log.gain answer
over_as J I L log fs bs answer instance same over =
    subst (λ (L : Log). IsOver I fs bs L.gain answer) same (subst (λ (J : Orbit). IsOver J fs bs L.gain answer) instance over)
