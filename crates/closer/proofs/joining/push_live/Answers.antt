use Rattle.std.proofs.Common.{◌≡◌, ◌+◌, Vec, Global, List, [], ◌∷◌, ◌++◌, ap, subst, sym, ◌∙◌, true≢false}
use Rattle.closer.proofs.Joined.{AddsLive-push, AddsLive-skip}
use Rattle.closer.specs.Joining.{AddsLive}
use Rattle.label.specs.declared.label.Label.{Label}
use Rattle.closer.proofs.joining.push_live.Goals as goal
use Rattle.closer.proofs.joining.push_live.Goals.{then-is_live+in_ok-restore+in_ok-push, else-is_live}

pub loop-index-preserved : goal.loop-index-preserved
loop-index-preserved c =
    let whole : List Label → Type 0 =
    λ later. AddsLive c.args.core.now c.args.end c.args.number (c.loop-index.index + 1) c.args.labels.now.items later in
    elim c.if-is_live.branch [
      | then-is_live+in_ok-restore+in_ok-push w ↦
          let grown : c.if-is_live.labels.items ≡ c.loop-index.labels.items ++ w.in_ok-restore.field-0 ∷ [] =
          ap (λ (v : Vec Label Global). v.items) w.labels-is ∙ w.in_ok-push.ensures.items in
          subst whole (sym grown)
          (AddsLive-push c.args.core.now c.args.end c.args.number c.args.labels.now.items c.loop-index.index c.loop-index.labels.items
          w.in_ok-restore.field-0 w.in_ok-restore.ensures.0 w.in_ok-restore.ensures.1 c.loop-index.invariant)
      | else-is_live w ↦
          subst whole (sym (ap (λ (v : Vec Label Global). v.items) w.labels-is))
          (AddsLive-skip c.args.core.now c.args.end c.args.number c.args.labels.now.items c.loop-index.index c.loop-index.labels.items
          (λ live. absurd (true≢false (sym (w.if-is_live.ensures.1 live)))) c.loop-index.invariant)
    ]
