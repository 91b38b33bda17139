use Rattle.std.proofs.Common.{◌≤◌, ◌∙◌, ℕ, sym, subst}
use Rattle.board.proofs.Halves.{kept_is, kept_same, off_is, off_same}
use Rattle.board.proofs.Hands.{forks}
use Rattle.board.proofs.half.Half.split.Goals as goal

pub another-ids-requires-clause-rule : goal.another-ids-requires-clause-rule
another-ids-requires-clause-rule c = forks _ _ (subst (λ (n : ℕ). 2 ≤ n) (sym (λ i. (c.token.view_is i).weight)) c.requires.weight)

pub invariant_of-token : goal.invariant_of-token
invariant_of-token c =
    let token = c.token.inside in
    let heavy = subst (λ (n : ℕ). 2 ≤ n) (sym (λ i. (c.token.view_is i).weight)) c.requires.weight in
    kept_is token.side.now token.locks.items token.ids c.token.invariant heavy c.split_locks-locks.new.passes.items c.another-ids.new.pass c.split_locks-locks.ensures.old c.another-ids.ensures.rule.0
    c.another-ids.ensures.queue.0.2

pub invariant_of-result : goal.invariant_of-result
invariant_of-result c =
    let token = c.token.inside in
    let heavy = subst (λ (n : ℕ). 2 ≤ n) (sym (λ i. (c.token.view_is i).weight)) c.requires.weight in
    off_is token.side.now token.locks.items token.ids c.token.invariant heavy c.split_locks-locks.result.items c.another-ids.result c.self.inside.side.now
    ((λ i. (c.token.view_is i).name.side) ∙ (λ i. (c.requires.name i).side) ∙ sym (λ i. (c.self.view_is i).side)) c.split_locks-locks.ensures.new c.another-ids.ensures.rule.1 c.another-ids.ensures.queue.1.1

pub returns-clause-new : goal.returns-clause-new
returns-clause-new c =
    let token = c.token.inside in
    let heavy = subst (λ (n : ℕ). 2 ≤ n) (sym (λ i. (c.token.view_is i).weight)) c.requires.weight in
    off_same token.side.now token.locks.items token.ids c.token.invariant heavy c.split_locks-locks.result.items c.another-ids.result c.self.inside.side.now
    ((λ i. (c.token.view_is i).name.side) ∙ (λ i. (c.requires.name i).side) ∙ sym (λ i. (c.self.view_is i).side)) c.split_locks-locks.ensures.new c.another-ids.ensures.rule.1
    (c.another-ids.ensures.queue.1.0 ∙ (λ i. (c.self.view_is i).queue) ∙ sym (λ i. (c.requires.name i).queue) ∙ sym (λ i. (c.token.view_is i).name.queue)) c.args.token.now c.token.view_is

pub returns-clause-old : goal.returns-clause-old
returns-clause-old c =
    let token = c.token.inside in
    let heavy = subst (λ (n : ℕ). 2 ≤ n) (sym (λ i. (c.token.view_is i).weight)) c.requires.weight in
    kept_same token.side.now token.locks.items token.ids c.token.invariant heavy c.split_locks-locks.new.passes.items c.another-ids.new.pass c.split_locks-locks.ensures.old c.another-ids.ensures.rule.0
    c.another-ids.ensures.queue.0.0 c.args.token.now c.token.view_is
