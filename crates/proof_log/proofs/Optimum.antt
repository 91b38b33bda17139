-- The whole: a log that keeps the rules has an optimal plan.
use Rattle.std.proofs.Common.{◌≡◌, ℕ, ◌≤◌, List, [], ◌++◌, reverse, refl, sym, ◌∙◌, ap, subst, inl, inr, le_trans, le_of_eq, append-nil}
use Rattle.std.proofs.lemmas.List.{reverse-append, reverse-reverse}
use Rattle.proof_log.proofs.AtTheCut.{BeginsLate-stopped, no_stop}
use Rattle.proof_log.proofs.Exchanging.{Reduced, exchange}
use Rattle.proof_log.specs.Labels.{Stands}
use Rattle.proof_log.specs.Rules.{IsProof}
use Rattle.proof_log.specs.declared.log.Log.{Log}
use Rattle.strip_model.proofs.Mirrored.{Mirrors, Mirrors-back, Mirrors-mirror_of, IsInstance-mirror_of}
use Rattle.strip_model.proofs.MirroredPlans.{IsFeasibleOrder-mirror, gain_in-mirror}
use Rattle.strip_model.proofs.Orders.{IsFeasibleOrder, Feasible-order, IsFeasibleOrder-order_of}
use Rattle.strip_model.proofs.Starts.{gain_of-earliest}
use Rattle.strip_model.proofs.TakingOver.{TakesOver}
use Rattle.strip_model.specs.Gain.{gain_in}
use Rattle.strip_model.specs.Horizon.{horizon_of}
use Rattle.strip_model.specs.IsInstance.{IsInstance}
use Rattle.strip_model.specs.Mirror.{mirror_of}
use Rattle.strip_model.specs.Optimal.{Optimal}
use Rattle.strip_model.specs.Orbit.{Orbit}
use Rattle.strip_model.specs.Plan.{order_of}
use Rattle.strip_model.specs.declared.end.End.TheVariants.{Forward, Backward}

-- an order turned round on the other of two mirrors: feasible, and it gains the same
turned_round : (M : ℕ) (J K : Orbit) → Mirrors M J K → (a b : List ℕ) (least : ℕ) → TakesOver J a (reverse b) least
    → TakesOver K b (reverse a) least
turned_round M J K m a b least h =
    let order : reverse (a ++ reverse b) ≡ b ++ reverse a =
    reverse-append a (reverse b) ∙ ap (λ (xs : List ℕ). xs ++ reverse a) (reverse-reverse b) in
    record {
      feasible = subst (λ (xs : List ℕ). IsFeasibleOrder K xs) order (IsFeasibleOrder-mirror M J K m (a ++ reverse b) h.feasible);
      gains =
          le_trans h.gains
          (le_of_eq (sym (gain_in-mirror M J K m (a ++ reverse b)) ∙ ap (λ (xs : List ℕ). gain_in K xs) order));
    }

module _ (I : Orbit) (log : Log) (inst : IsInstance I) (proof : IsProof I log) where
  -- a forward and a backward path that stand gain together no more than the log
  joined_bounded : (f b : List ℕ) (least : ℕ) → Stands log Forward f → Stands log Backward b → TakesOver I f (reverse b) least → least ≤ log.gain
  joined_bounded f b least f_stands b_stands h =
      le_trans h.gains
      (le_trans (le_of_eq (sym (gain_of-earliest I (f ++ reverse b))))
      (proof.joined f b f_stands b_stands (Feasible-order I (f ++ reverse b) h.feasible)))

  -- what the exchange on the mirror leaves in front of a forward path that was stopped: nothing, so the two paths join
  backward_bounded : (least : ℕ) (xs : List ℕ) (front : Reduced I log Forward xs [] least)
      → Reduced I log Backward (reverse front.left) (reverse front.path) least → least ≤ log.gain
  backward_bounded least xs front back =
      let M = horizon_of I in
      let K = mirror_of I in
      let m = Mirrors-mirror_of I inst in
      let none = no_stop I m log.cut front.path front.left back.path back.done back.left back.kept.feasible back.split
      (BeginsLate-stopped I log.cut front.path front.left front.stopped) back.stopped in
      let whole = subst (λ (left : List ℕ). TakesOver K back.path (left ++ reverse front.path) least) none back.kept in
      joined_bounded front.path back.path least front.stands back.stands
      (turned_round M K I (Mirrors-back M I K m) back.path front.path least whole)

  -- the exchange from the front leaves an order whose other part the exchange on the mirror takes
  forward_bounded : (least : ℕ) (xs : List ℕ) → Reduced I log Forward xs [] least → least ≤ log.gain
  forward_bounded least xs front =
      let M = horizon_of I in
      let K = mirror_of I in
      let left = front.left in
      let kept : TakesOver I front.path (reverse (reverse left)) least =
      subst (λ (ys : List ℕ). TakesOver I front.path ys least) (append-nil left ∙ sym (reverse-reverse left)) front.kept in
      let turned = turned_round M I K (Mirrors-mirror_of I inst) front.path (reverse left) least kept in
      let start : TakesOver K [] (reverse left ++ reverse front.path) least = record { feasible = turned.feasible; gains = turned.gains } in
      elim (exchange I log proof Backward (IsInstance-mirror_of I inst) (reverse front.path) least (reverse left) [] (inl refl) start) [
        | inl bounded ↦ bounded
        | inr back ↦ backward_bounded least xs front back
      ]

  -- no feasible order gains more than the log
  order_bounded : (xs : List ℕ) → IsFeasibleOrder I xs → gain_in I xs ≤ log.gain
  order_bounded xs order =
      let whole : TakesOver I [] xs (gain_in I xs) = record { feasible = order; gains = le_of_eq refl } in
      let start = subst (λ (ys : List ℕ). TakesOver I [] ys (gain_in I xs)) (sym (append-nil xs)) whole in
      elim (exchange I log proof Forward inst [] (gain_in I xs) xs [] (inl refl) start) [
        | inl bounded ↦ bounded
        | inr front ↦ forward_bounded (gain_in I xs) xs front
      ]

-- The plan of a log that keeps the rules is optimal.
pub optimal : (I : Orbit) (log : Log) → IsInstance I → IsProof I log → Optimal I log.plan.items
optimal I log inst proof = record {
  feasible = proof.feasible;
  best = λ other feasible.
      le_trans (order_bounded I log inst proof (order_of other) (IsFeasibleOrder-order_of I other feasible)) (le_of_eq proof.gain);
}
