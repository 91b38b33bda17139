-- What a board and its last pass leave, part by part.
use Rattle.std.proofs.Common.{◌≡◌, ◌≤◌, ℕ, sym, ◌∙◌, subst}
use Rattle.board.specs.Passes.{BoardName, BoardPass, board_of, gain}
use Rattle.board.specs.Sharing.{AreLocksClosed, IsClosed, knowledge_of}
use Rattle.bucket.specs.Traces.{AreBucketsOf}
use Rattle.bucket.specs.declared.trace.Trace.{Trace}
use Rattle.shared_budget.specs.Drawn.{parties}
use Rattle.shared_budget.specs.Numbers.{AreAllBelow, IsEnd}
use Rattle.incumbent.specs.Rule.{IsWordBeside}
use Rattle.incumbent.specs.declared.knowledge.Knowledge.{Knowledge}

pub closes : (b0 b : BoardName) (p0 p : BoardPass) (trace : Trace) (k : Knowledge) → b0 ≡ b → p0 ≡ p → board_of p ≡ b
    → AreBucketsOf b0.forward.side trace.forward.items → AreBucketsOf b0.backward.side trace.backward.items
    → AreLocksClosed p0.forward.locks trace.forward.items → AreLocksClosed p0.backward.locks trace.backward.items
    → trace.plan ≡ p0.plan → p0.seen ≤ gain trace.plan → IsWordBeside (gain trace.plan) k → k ≡ knowledge_of p0
    → ((next : ℕ) × AreAllBelow next (parties p0.drawer) × IsEnd next p0.drawer.budget p0.drawer.kept)
    → IsClosed b p trace
closes b0 b p0 p trace k eb ep own forward backward closed closed' plan seen word is drawn =
    subst (λ (x : BoardName). IsClosed x p trace) eb
    (subst (λ (y : BoardPass). IsClosed b0 y trace) ep (record {
      trace_of = record {
        forward = forward;
        backward = backward;
        plan = (λ i. (plan i).instance) ∙ (λ i. (ep i).plan.instance) ∙ (λ i. (own i).instance) ∙ sym (λ i. (eb i).instance);
      };
      forward = closed;
      backward = closed';
      plan = plan;
      none_saw_more = seen;
      word = subst (λ (v : Knowledge). IsWordBeside (gain trace.plan) v) is word;
      drawn = drawn;
    }))
