use Rattle.std.proofs.Common.{[], arith}
use Rattle.closer.proofs.FirstWaits.{Names-root, AddsWaits-refl, AddsWaits-trans, AddsWaits-joins, IsTodo-kept, IsTodo-joins, IsAntichainAt-read, AntichainsWait-more, live_waits}
use Rattle.closer.proofs.AntichainPlaces.{antichain_read}
use Rattle.closer.proofs.SearchSteps.{path_in-root}
use Rattle.admission.proofs.Rows.{length-members}
use Rattle.admission.specs.Antichains.{members_of}
use Rattle.closer.proofs.opening.wait_side.Goals as goal

pub loop-x-init : goal.loop-x-init
loop-x-init c = record {
  adds =
      AddsWaits-joins c.args.core.now c.args.queue.now c.args.queue.now c.push.new.self c.root.result
      (Names-root c.args.core.now c.root.result c.root.ensures.rank) c.in_ok-push.ensures (AddsWaits-refl c.args.core.now c.args.queue.now);
  root =
      IsTodo-joins c.args.core.now c.args.end c.args.queue.now c.push.new.self c.root.result [] c.in_ok-push.ensures c.root.ensures.end
      (path_in-root c.args.core.now c.root.result c.root.ensures.rank);
  members = λ y below. absurd (omega (arith, below));
}

pub wait_antichain-requires : goal.wait_antichain-requires
wait_antichain-requires c =
    IsAntichainAt-read c.args.core.now c.args.end c.args.antichains.now c.loop-x.x c.index-antichains-x.result c.requires c.loop-x-test.true c.index-antichains-x.is

pub loop-x-preserved : goal.loop-x-preserved
loop-x-preserved c = record {
  adds =
      AddsWaits-trans c.args.core.now c.args.queue.now c.loop-x.queue c.wait_antichain.new.queue c.loop-x.invariant.adds c.in_ok-wait_antichain.ensures.adds;
  root =
      IsTodo-kept c.args.core.now c.args.end c.loop-x.queue c.wait_antichain.new.queue [] c.in_ok-wait_antichain.ensures.adds.kept c.loop-x.invariant.root;
  members =
      AntichainsWait-more c.args.core.now c.args.end c.loop-x.queue c.wait_antichain.new.queue (members_of c.args.antichains.now) c.loop-x.x c.index-antichains-x.result.members
      (antichain_read c.args.antichains.now c.loop-x.x c.index-antichains-x.result c.loop-x-test.true c.index-antichains-x.is) c.in_ok-wait_antichain.ensures.adds.kept
      c.in_ok-wait_antichain.ensures.waits c.loop-x.invariant.members;
}

pub returns-clause-waits : goal.returns-clause-waits
returns-clause-waits c =
    live_waits c.args.core.now c.args.end (members_of c.args.antichains.now) c.loop-x.queue c.gain.ensures.reached c.requires c.loop-x.invariant.root
    (λ x below. c.loop-x.invariant.members x (omega (arith, below, c.loop-x-test.false, length-members c.args.antichains.now)))
