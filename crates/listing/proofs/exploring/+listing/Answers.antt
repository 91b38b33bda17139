use Rattle.std.proofs.Common.{◌≡◌, ◌≤◌, ℕ, ◌∙◌, sym, ap, arith, length, List, [], ◌∷◌, ◌++◌, subst}
use Rattle.listing.proofs.Listed.{IsListed-push, none_follows, greatest_from}
use Rattle.listing.proofs.Tried.{tried_more, greatest_with, fewer_left}
use Rattle.listing.specs.Listing.{IsListed, IsCandidate}
use Rattle.strip_model.specs.Gain.{gain_in}
use Rattle.strip_model.specs.Plan.{order_of}
use Rattle.strip_model.specs.declared.acquisition.Acquisition.{Acquisition}
use Rattle.strip_model.specs.declared.strip.Strip.{Strip}
use Rattle.listing.proofs.exploring.+listing.Goals as goal

pub explore-loop-x-preserved : goal.explore-loop-x-preserved
explore-loop-x-preserved t c = (
  c.in_ok-go_on_with.ensures.restored ∙ c.loop-x.invariant.0,
  tried_more c.args.instance.now c.args.plan.now.items c.loop-x.plan.items c.args.best.now.gain c.loop-x.x c.loop-x.best c.go_on_with.new.best
      c.loop-x.invariant.0 c.loop-x.invariant.1 c.in_ok-go_on_with.ensures.best c.in_ok-go_on_with.ensures.rises c.in_ok-go_on_with.ensures.greatest,
)

pub explore-returns-clause-greatest : goal.explore-returns-clause-greatest
explore-returns-clause-greatest t c =
    let all = ap (λ (strips : List Strip). length strips) c.strips.ensures.value in
    greatest_from c.args.instance.now c.args.plan.now.items c.loop-x.best.gain c.loop-x.invariant.1.here
    (λ at below. c.loop-x.invariant.1.tried at (omega (arith, below, all, c.loop-x-test.false)))

pub go_on_with-explore-requires : goal.go_on_with-explore-requires
go_on_with-explore-requires t c =
    let J = c.args.instance.now in
    let plan = c.args.plan.now.items in
    let next = c.in-Some.next in
    let L : List Acquisition → Type 0 = λ plan. IsListed J plan in
    let listed : IsListed J (plan ++ next ∷ []) =
    IsListed-push J plan next c.args.at c.in-Some.ensures.strip (rw c.deref.ensures.value at c.in-Some.ensures.in_time) (rw c.deref.ensures.value at c.in-Some.ensures.starts) in
    let longer : c.push.new.self.items ≡ plan ++ next ∷ [] = c.in_ok-push.ensures.items in (
      fewer_left J plan c.push.new.self.items next t listed longer (sym c.decreases),
      (subst L (sym longer) listed, c.requires.best),
    )

pub go_on_with-returns-clause-greatest : goal.go_on_with-returns-clause-greatest
go_on_with-returns-clause-greatest t c =
    let J = c.args.instance.now in
    let plan = c.args.plan.now.items in
    let B : ℕ → Type 0 = λ x. (more : List ℕ) → IsCandidate J (order_of plan ++ x ∷ more) → gain_in J (order_of plan ++ x ∷ more) ≤ c.explore.new.best.gain in
    subst B c.in-Some.ensures.strip
    (greatest_with J plan c.push.new.self.items c.in-Some.next c.explore.new.best.gain c.in_ok-push.ensures.items c.in_ok-explore.ensures.greatest)

pub go_on_with-returns-in_default-clause-greatest : goal.go_on_with-returns-in_default-clause-greatest
go_on_with-returns-in_default-clause-greatest t c = λ more h.
    let J = c.args.instance.now in
    let none = rw c.deref.ensures.value at c.in_default.ensures.none in
    absurd (none_follows J c.args.plan.now.items c.args.at more none h.in_time)
