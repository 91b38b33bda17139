use Rattle.std.proofs.Common.{Option, subst}
use Rattle.std.specs.Option.{MatchOption}
use Rattle.closer.proofs.Joined.{Replans-publish, HasNoBetterJoin-published}
use Rattle.closer.specs.Finishing.{HasNoBetterJoin}
use Rattle.closer.specs.Joining.{IsJoint}
use Rattle.closer.specs.declared.joining.Joint.{Joint}
use Rattle.closer.proofs.joining.join_best.Goals as goal

pub returns-in-Some-clause-replans : goal.returns-in-Some-clause-replans
returns-in-Some-clause-replans g c =
    let joint : IsJoint c.args.core.now c.in-Some.joint =
    subst (λ (o : Option Joint). MatchOption o (HasNoBetterJoin c.args.core.now) (IsJoint c.args.core.now)) c.in-Some.is c.in_ok-joint.ensures in
    Replans-publish c.args.core.now c.publish.new.self c.in-Some.joint.plan.items joint.can c.publish.ensures

pub returns-in-Some-clause-joined : goal.returns-in-Some-clause-joined
returns-in-Some-clause-joined g c =
    let joint : IsJoint c.args.core.now c.in-Some.joint =
    subst (λ (o : Option Joint). MatchOption o (HasNoBetterJoin c.args.core.now) (IsJoint c.args.core.now)) c.in-Some.is c.in_ok-joint.ensures in
    HasNoBetterJoin-published c.args.core.now c.publish.new.self c.in-Some.joint joint c.publish.ensures
