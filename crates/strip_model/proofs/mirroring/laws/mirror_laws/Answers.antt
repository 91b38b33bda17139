-- An instance and its mirror are mirrors of each other at the horizon.
use Rattle.strip_model.proofs.Mirrored.{Mirrors-mirror_of, IsInstance-mirror_of}
use Rattle.strip_model.proofs.MirroredPlans.{Feasible-mirror, Feasible-mirror_back, IsOverBy-Feasible, gain_of-mirror}
use Rattle.strip_model.specs.Horizon.{horizon_of}
use Rattle.strip_model.specs.Mirror.{mirror_of}
use Rattle.strip_model.proofs.mirroring.laws.mirror_laws.Goals as goal

pub returns-clause-instance : goal.returns-clause-instance
returns-clause-instance c = IsInstance-mirror_of

pub returns-clause-over : goal.returns-clause-over
returns-clause-over c = IsOverBy-Feasible

pub returns-clause-feasible : goal.returns-clause-feasible
returns-clause-feasible c J plan h over =
    let m = Mirrors-mirror_of J h in
    (Feasible-mirror (horizon_of J) J (mirror_of J) m plan, Feasible-mirror_back (horizon_of J) J (mirror_of J) m plan over)

pub returns-clause-gain : goal.returns-clause-gain
returns-clause-gain c J plan h = gain_of-mirror (horizon_of J) J (mirror_of J) (Mirrors-mirror_of J h) plan
