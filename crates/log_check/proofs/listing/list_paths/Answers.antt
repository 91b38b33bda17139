use Rattle.std.proofs.Common.{◌≡◌, ℕ, ◌<◌, length, rules, sym, subst, ◌∙◌, ◌≤◌, le_antisymm}
use Rattle.log_check.proofs.ListedPaths.{not_new, AreNew-more, HasFirst-more, length-plain}
use Rattle.log_check.specs.Faults.{IsNewLabel}
use Rattle.log_check.specs.Listing.{HasFirst}
use Rattle.log_check.specs.Paths.{plain}
use Rattle.log_check.proofs.listing.list_paths.Goals as goal

pub returns-then-not-branch : goal.returns-then-not-branch
returns-then-not-branch c = (
  subst (λ (n : ℕ). c.loop-k.k < n) (sym (length-plain c.args.paths.now)) (search rules),
  not_new c.args.side.now (plain c.args.paths.now) c.loop-k.k c.loop-k.labels c.path_at.result.now c.in_ok-add_label.field-0
      c.loop-k.invariant.held c.path_at.ensures c.in_ok-add_label.ensures.right c.if-not-branch.true,
  c.loop-k.invariant.right,
)

pub loop-k-preserved : goal.loop-k-preserved
loop-k-preserved c = record {
  right =
      AreNew-more c.args.side.now (plain c.args.paths.now) c.loop-k.k c.loop-k.labels c.path_at.result.now c.in_ok-add_label.field-0
      c.loop-k.invariant.right c.loop-k.invariant.held c.path_at.ensures c.in_ok-add_label.ensures.right c.if-not-branch.false;
  held =
      HasFirst-more c.args.side.now (plain c.args.paths.now) c.loop-k.k c.loop-k.labels c.add_label.new.labels c.path_at.result.now
      c.loop-k.invariant.held c.path_at.ensures (c.in_ok-add_label.ensures.added c.if-not-branch.false);
}

pub returns : goal.returns
returns c =
    let most : c.loop-k.k ≤ length c.args.paths.now = search rules in
    let all : c.loop-k.k ≡ length (plain c.args.paths.now) = le_antisymm most (search rules) ∙ sym (length-plain c.args.paths.now) in (
      subst (λ (n : ℕ). (k : ℕ) → k < n → IsNewLabel c.args.side.now (plain c.args.paths.now) k) all c.loop-k.invariant.right,
      subst (λ (n : ℕ). HasFirst c.args.side.now (plain c.args.paths.now) n c.loop-k.labels) all c.loop-k.invariant.held,
    )
