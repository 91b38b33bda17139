use Rattle.std.proofs.Common.{◌∷◌, [], ◌++◌, ◌==◌, ℕ, List, ap, refl, ◌∙◌, arith}
use prog.Atomic.{either}
use Rattle.board.specs.declared.reply.Reply.{Reply}
use Rattle.board.proofs.Hearing.{hears}
use Rattle.board.proofs.asked.Asked.hear.Goals as goal

pub compare_exchange_with-requires : goal.compare_exchange_with-requires
compare_exchange_with-requires c = (c.self.invariant.0, (let words = c.self.invariant.1 in omega arith), hears _ _ _ 0 0 (λ (n : ℕ). either (n == 0) 0 n) _ _)

pub returns : goal.returns
returns c =
    let reply : Reply = record { end = c.args.end; id = c.args.id } in
    (λ i. (c.compare_exchange_with.ensures.2 reply refl i).0) ∙ ap (λ (l : List Reply). l ++ reply ∷ []) c.self.view_is
