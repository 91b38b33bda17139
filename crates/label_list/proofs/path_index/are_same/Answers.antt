use Rattle.std.proofs.Common.{◌≡◌, ◌≢◌, ◌↔◌, Bool, true, false, IsTrue, List, ℕ, refl}
use Rattle.std.specs.Bool.{MatchBool}
use Rattle.std.specs.Cmp.Lexicographic.{told_text}
use Rattle.std.proofs.lemmas.Bool.{false≢true}
use Rattle.label_list.proofs.path_index.are_same.Goals as goal

both_ways : (xs ys : List ℕ) (b : Bool) → MatchBool b (xs ≡ ys) (xs ≢ ys) → IsTrue b ↔ (xs ≡ ys)
both_ways xs ys true told = (λ t. told, λ same. refl)
both_ways xs ys false told = (λ t. absurd (false≢true t), λ same. absurd (told same))

pub returns : goal.returns
returns c = both_ways c.args.path.now c.args.other.now c.eq.result (told_text c.args.path.now c.args.other.now c.eq.result c.eq.ensures)
