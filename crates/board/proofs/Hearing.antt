-- A reply is heard, and stands behind those that the pass had.
use Rattle.std.proofs.Common.{◌≡◌, ℕ, List, [], ◌∷◌, ◌++◌, Option, refl, ap, sym, ◌∙◌, subst}
use mathlib.Core.Option.{Option as Slot, some, some-injective}
use Rattle.atomic_table.specs.Table.{State, Me, Step, step, keeps, Allows}
use Rattle.board.specs.Passes.{HalfPass, BoardPass, half_of, with_half, HalfChanged}
use Rattle.board.specs.Queues.{IsNextReply, IsNext}
use Rattle.board.specs.Replies.{Hears}
use Rattle.board.specs.declared.reply.Reply.{Reply}
use Rattle.bucket.specs.declared.id.Id.{Id}
use Rattle.strip_model.specs.declared.end.End.{End}
use Rattle.strip_model.specs.declared.end.End.TheVariants.{Forward, Backward}

-- the table asks nothing of a step
pub hears : (slots id word first second : ℕ) (f : ℕ → ℕ) (m : Me Reply (List Reply)) (reply : Reply)
    → Allows (λ (s : State Reply (List Reply)). Unit {0}) slots id m word f (Hears (step slots word first second (some reply)) m)
hears slots id word first second f m reply s h full at below = (
  m.0 ++ reply ∷ [],
  keeps,
  tt,
  tt,
  λ other said. ap (λ (r : Reply). (m.0 ++ r ∷ [], m.1)) (some-injective reply other said),
)

-- the half at the end has changed, and then the reply was heard
pub next_heard : (e : End) (p q r : BoardPass) (result : Option Id) → HalfChanged p q e (λ old new. IsNextReply old new result)
    → r ≡ record q { asked = q.asked ++ record { end = e; id = result } ∷ [] } → IsNext e p r result
next_heard Forward p q r result h is =
    subst (λ (x : BoardPass). IsNext Forward p x result) (sym is)
    (record { change = h.change; others = ap (λ (x : BoardPass). record x { asked = x.asked ++ record { end = Forward; id = result } ∷ [] }) h.others })
next_heard Backward p q r result h is =
    subst (λ (x : BoardPass). IsNext Backward p x result) (sym is)
    (record { change = h.change; others = ap (λ (x : BoardPass). record x { asked = x.asked ++ record { end = Backward; id = result } ∷ [] }) h.others })
