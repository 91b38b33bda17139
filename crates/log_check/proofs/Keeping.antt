-- A log is a proof exactly where each rule is kept at each place.
use Rattle.std.proofs.Common.{◌≡◌, ℕ, zero, suc, ◌+◌, ◌≤◌, List, refl, sym, subst, inl, inr}
use Rattle.log_check.specs.Faults.{Rule, Keeps, IsStanding, seat_path, first_seat, HasExtension}
use Rattle.log_check.specs.Faults.Rule.{PlanIsFeasible, GainIsWritten, LabelsAreRight, MarksNameLabels, RetiredAreDominated, CutAreBounded, AllAreExtended, NoneJoinForMore}
use Rattle.plan_check.proofs.Faults.{Feasible-faultless, faultless-Feasible}
use Rattle.plan_check.specs.Fault.{place_of_fault}
use Rattle.proof_log.specs.Labels.{Stands}
use Rattle.proof_log.specs.Rules.{IsProof}
use Rattle.proof_log.specs.declared.log.Log.{Log}
use Rattle.strip_model.specs.Join.{Joins, join_gain}
use Rattle.strip_model.specs.Orbit.{Orbit}
use Rattle.strip_model.specs.declared.end.End.{End}
use Rattle.strip_model.specs.declared.end.End.TheVariants.{Forward, Backward}

-- what stands has a seat
pub record Seat (log : Log) (e : End) (path : List ℕ) : Type 0 where
  pub seat : ℕ
  pub standing : IsStanding log e seat
  pub is : seat_path log e seat ≡ path

pub seat_of : (log : Log) (e : End) (path : List ℕ) → Stands log e path → Seat log e path
seat_of log e path (inl root) = record { seat = 0; standing = tt; is = sym root }
seat_of log e path (inr label) = record { seat = suc label.0; standing = (label.1, label.3); is = label.2 }

-- the path of a standing seat stands
pub stands_at : (log : Log) (e : End) (p : ℕ) → IsStanding log e p → Stands log e (seat_path log e p)
stands_at log e zero standing = inl refl
stands_at log e (suc k) standing = inr (k, standing.0, refl, standing.1)

-- a proof keeps each rule at each place
pub keeps_from_proof : (I : Orbit) (log : Log) → IsProof I log → (rule : Rule) (place : ℕ) → Keeps I log rule place
keeps_from_proof I log h PlanIsFeasible n = λ fault has _. faultless-Feasible I log.plan.items h.feasible fault has
keeps_from_proof I log h GainIsWritten n = λ _. h.gain
keeps_from_proof I log h LabelsAreRight n = λ e k there _. record { path = h.labels e k there; once = λ j before. h.once e j k before there }
keeps_from_proof I log h MarksNameLabels n = h.there n
keeps_from_proof I log h RetiredAreDominated n = h.retired n
keeps_from_proof I log h CutAreBounded n = h.cut_off n
keeps_from_proof I log h AllAreExtended n = λ e p standing _ y. h.extended e (seat_path log e p) y (stands_at log e p standing)
keeps_from_proof I log h NoneJoinForMore n = λ standing q other. h.joined (seat_path log Forward n) (seat_path log Backward q) (stands_at log Forward n standing) (stands_at log Backward q other)

-- a path that stands has the extensions that its seat has
extended_at : (I : Orbit) (log : Log) → ((place : ℕ) → Keeps I log AllAreExtended place) → (e : End) (path : List ℕ) (y : ℕ)
    → Seat log e path → HasExtension I log e path y
extended_at I log keeps e path y found =
    let H : List ℕ → Type 0 = λ path. HasExtension I log e path y in
    subst H found.is (keeps (first_seat log e + found.seat) e found.seat found.standing refl y)

-- two paths that stand join for no more than their seats do
joined_at : (I : Orbit) (log : Log) → ((place : ℕ) → Keeps I log NoneJoinForMore place) → (f b : List ℕ)
    → Seat log Forward f → Seat log Backward b → Joins I f b → join_gain I f b ≤ log.gain
joined_at I log keeps f b forward backward =
    let B : List ℕ → Type 0 = λ b. Joins I (seat_path log Forward forward.seat) b → join_gain I (seat_path log Forward forward.seat) b ≤ log.gain in
    let F : List ℕ → Type 0 = λ f. Joins I f b → join_gain I f b ≤ log.gain in
    subst F forward.is (subst B backward.is (keeps forward.seat forward.standing backward.seat backward.standing))

-- a log that keeps each rule at each place is a proof
pub proof_from_keeps : (I : Orbit) (log : Log) → ((rule : Rule) (place : ℕ) → Keeps I log rule place) → IsProof I log
proof_from_keeps I log keeps = record {
  feasible = Feasible-faultless I log.plan.items (λ fault has. keeps PlanIsFeasible (place_of_fault fault) fault has refl);
  gain = keeps GainIsWritten 0 refl;
  labels = λ e k there. (keeps LabelsAreRight (first_seat log e + suc k) e k there refl).path;
  once = λ e j k before there. (keeps LabelsAreRight (first_seat log e + suc k) e k there refl).once j before;
  there = keeps MarksNameLabels;
  retired = keeps RetiredAreDominated;
  cut_off = keeps CutAreBounded;
  extended = λ e path y stands. extended_at I log (keeps AllAreExtended) e path y (seat_of log e path stands);
  joined = λ f b forward backward. joined_at I log (keeps NoneJoinForMore) f b (seat_of log Forward f forward) (seat_of log Backward b backward);
}
