use Rattle.std.proofs.Common.{ℕ, ◌<◌, ◌≤◌, ◌%◌, List, [], length, ◌∙◌, subst}
use Rattle.std.proofs.lemmas.Result.{on_ok_weaker}
use Rattle.admission.proofs.Pruned.{AreCuttable-pruned, IsAntichainAt-pruned, IsAntichainAt-whole, bounds-exceed}
use Rattle.admission.specs.Clearing.{Clears}
use Rattle.antichain.specs.Antichains.{TakesOut}
use Rattle.antichain.specs.declared.member.Member.{Member}
use Rattle.bucket.specs.declared.limits.TheConstants.{BUCKETS}
use Rattle.label_core.specs.CoreState.{labels_in}
use Rattle.admission.proofs.CarefulSteps.{GoesQuietly-refl}
use Rattle.admission.proofs.Fading.{Shrinks-refl}
use Rattle.admission.proofs.pruning.prune.Goals as goal

pub cut_all-requires : goal.cut_all-requires
cut_all-requires c =
    let out : TakesOut (λ (a : Member). a.outline.bound ≤ c.gain.result) (λ (a : Member). c.gain.result < a.outline.bound) c.args.antichain.now.members
    c.prune.new.self.members [] c.prune.new.ids.items =
    subst
    (λ (xs : List ℕ).
    TakesOut (λ (a : Member). a.outline.bound ≤ c.gain.result) (λ (a : Member). c.gain.result < a.outline.bound) c.args.antichain.now.members
    c.prune.new.self.members xs c.prune.new.ids.items)
    (c.reserve.ensures.items ∙ c.new-low.ensures.items) c.prune.ensures.out in
    rw c.deref.ensures.value
    (AreCuttable-pruned c.args.core.now c.args.end c.args.x (length (labels_in c.args.core.now.state c.args.end (c.args.x % BUCKETS)))
    c.args.antichain.now.members c.prune.new.self.members c.prune.new.ids.items c.gain.result c.requires c.gain.ensures.value out)

pub returns-clause-antichain : goal.returns-clause-antichain
returns-clause-antichain c =
    let out : TakesOut (λ (a : Member). a.outline.bound ≤ c.gain.result) (λ (a : Member). c.gain.result < a.outline.bound) c.args.antichain.now.members
    c.prune.new.self.members [] c.prune.new.ids.items =
    subst
    (λ (xs : List ℕ).
    TakesOut (λ (a : Member). a.outline.bound ≤ c.gain.result) (λ (a : Member). c.gain.result < a.outline.bound) c.args.antichain.now.members
    c.prune.new.self.members xs c.prune.new.ids.items)
    (c.reserve.ensures.items ∙ c.new-low.ensures.items) c.prune.ensures.out in
    on_ok_weaker c.cut_all.result
    (λ cleared.
    let clears : Clears c.args.core.now c.cut_all.new.core c.args.end c.args.x c.prune.new.ids.items (length c.prune.new.ids.items) =
    subst (λ (xs : List ℕ). Clears c.args.core.now c.cut_all.new.core c.args.end c.args.x xs (length xs)) c.deref.ensures.value cleared in
    IsAntichainAt-whole c.args.core.now c.cut_all.new.core c.args.end c.args.x c.prune.new.ids.items c.prune.new.self.members clears
    (IsAntichainAt-pruned c.args.core.now c.args.end c.args.x (length (labels_in c.args.core.now.state c.args.end (c.args.x % BUCKETS)))
    c.args.antichain.now.members c.prune.new.self.members c.prune.new.ids.items c.gain.result c.requires c.gain.ensures.value out c.cut_all.new.core clears))
    c.cut_all.ensures.clears

pub returns-clause-bounds : goal.returns-clause-bounds
returns-clause-bounds c =
    let out : TakesOut (λ (a : Member). a.outline.bound ≤ c.gain.result) (λ (a : Member). c.gain.result < a.outline.bound) c.args.antichain.now.members
    c.prune.new.self.members [] c.prune.new.ids.items =
    subst
    (λ (xs : List ℕ).
    TakesOut (λ (a : Member). a.outline.bound ≤ c.gain.result) (λ (a : Member). c.gain.result < a.outline.bound) c.args.antichain.now.members
    c.prune.new.self.members xs c.prune.new.ids.items)
    (c.reserve.ensures.items ∙ c.new-low.ensures.items) c.prune.ensures.out in
    on_ok_weaker c.cut_all.result
    (λ cleared.
    bounds-exceed c.args.core.now c.args.end c.args.x (length (labels_in c.args.core.now.state c.args.end (c.args.x % BUCKETS)))
    c.args.antichain.now.members c.prune.new.self.members c.prune.new.ids.items c.gain.result c.requires c.gain.ensures.value out c.cut_all.new.core
    (subst (λ (xs : List ℕ). Clears c.args.core.now c.cut_all.new.core c.args.end c.args.x xs (length xs)) c.deref.ensures.value cleared))
    c.cut_all.ensures.clears

pub returns-in_err-reserve-clause-quiet : goal.returns-in_err-reserve-clause-quiet
returns-in_err-reserve-clause-quiet c = GoesQuietly-refl c.args.core.now

pub returns-in_err-reserve-clause-shrinks : goal.returns-in_err-reserve-clause-shrinks
returns-in_err-reserve-clause-shrinks c = Shrinks-refl c.args.core.now c.args.end c.args.x
