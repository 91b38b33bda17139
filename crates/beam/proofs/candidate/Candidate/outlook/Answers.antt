use Rattle.std.proofs.Common.{ℕ, ◌<◌, length, subst, sym}
use Rattle.strip_model.specs.Directed.{strip_of}
use Rattle.strip_model.specs.Orbit.{Orbit}
use Rattle.label.proofs.Growing.{label_last}
use Rattle.beam.proofs.candidate.Candidate.outlook.Goals as goal

pub arrive_after-start-requires-clause-from : goal.arrive_after-start-requires-clause-from
arrive_after-start-requires-clause-from c =
    let last = (label_last c.self.inside.side.now c.self.inside.label c.self.invariant).0 in
    subst (λ (x : ℕ). strip_of x < length c.instance-instance.result.now.strips) (sym c.last.ensures) (subst (λ (J : Orbit). strip_of c.self.inside.label.last < length J.strips) (sym c.instance-instance.ensures.value) last)
