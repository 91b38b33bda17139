use Rattle.std.proofs.Common.{length, arith}
use Rattle.stereo_twins.specs.Refusal.{KeptBelow}
use Rattle.stereo_twins.proofs.TwinLemmas.{IsSound-kept, AreOfOneRequest-kept}
use Rattle.stereo_twins.proofs.twin_map.TwinMap.new.Goals as goal

pub invariant_of-result : goal.invariant_of-result
invariant_of-result c =
    let twins = c.args.twins.now in
    let requests = c.args.requests.now in
    let kept : KeptBelow twins requests (length twins) = λ k within. c.loop-i.invariant k (omega arith) in
    rw c.in_ok-from_slice.ensures.items (IsSound-kept twins requests kept c.requires.few c.requires.exist)

pub returns-clause-sound : goal.returns-clause-sound
returns-clause-sound c =
    let twins = c.args.twins.now in
    let requests = c.args.requests.now in
    let kept : KeptBelow twins requests (length twins) = λ k within. c.loop-i.invariant k (omega arith) in
    IsSound-kept twins requests kept c.requires.few c.requires.exist

pub returns-clause-requests : goal.returns-clause-requests
returns-clause-requests c =
    let twins = c.args.twins.now in
    let requests = c.args.requests.now in
    let kept : KeptBelow twins requests (length twins) = λ k within. c.loop-i.invariant k (omega arith) in
    AreOfOneRequest-kept twins requests kept
