use Rattle.std.proofs.Common.{List, ℕ, ◌++◌, reverse, ◌∙◌, ap, ap₂}
use Rattle.label_core.proofs.Listing.{joined_answer}
use Rattle.label_core.specs.Events.{joining_path}
use Rattle.label_core.proofs.stepping.plan_of.Goals as goal

pub returns : goal.returns
returns c =
    joined_answer c.args.core.now.instance c.instance.result.now (joining_path c.args.core.now.state c.args.forward)
    (joining_path c.args.core.now.state c.args.backward) c.deref-2.result.now c.earliest.result c.instance.ensures
    (c.deref-2.ensures.value ∙ c.in_ok-extend_from_slice.ensures.items
    ∙ ap₂ (λ (xs ys : List ℕ). xs ++ ys) (c.in_ok-order.ensures.items ∙ c.joining_path.ensures)
    (c.deref.ensures.value ∙ c.reverse.ensures.items
    ∙ ap (λ (xs : List ℕ). reverse xs) (c.in_ok-back.ensures.items ∙ c.joining_path-2.ensures))) c.earliest.ensures.in_time c.earliest.ensures.plan
