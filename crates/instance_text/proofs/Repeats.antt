-- Copies of one form, used up one by one.
use Rattle.std.proofs.Common.{◌≡◌, ℕ, suc, ◌+◌, ◌-◌, ◌<◌, ◌≤◌, List, [], ◌∷◌, ◌++◌, replicate, refl, ap, ◌∙◌, arith}
use Rattle.instance_text.specs.Reading.{Rest, IsRefusedAtLines}
use Rattle.instance_text.specs.Refusal.{IfRefused}
use Rattle.instance_text.specs.Shape.{Field, lines_fault}
use Rattle.instance_text.specs.declared.refusal.TextRefusal.{TextRefusal}
use Rattle.instance_text.specs.declared.refusal.TextRefusal.TheVariants.{Refused, Memory}

pub replicate_first : {X : Type 0} (n i : ℕ) (x : X) → i < n → replicate (n - i) x ≡ x ∷ replicate (n - (i + 1)) x
replicate_first n i x lt = let e : n - i ≡ suc (n - (i + 1)) = omega arith in rw e refl

pub replicate_none : {X : Type 0} (n i : ℕ) (x : X) → n ≤ i → replicate (n - i) x ≡ []
replicate_none n i x le = let e : n - i ≡ 0 = omega arith in rw e refl

-- a run of lines is refused where the next of them is
pub run_refused : (e : TextRefusal) (n i : ℕ) (form : List Field) (old now : Rest) → i < n
    → ((more : List (List Field)) → lines_fault (replicate n form ++ more) old.count old.lines ≡ lines_fault (replicate (n - i) form ++ more) now.count now.lines)
    → IfRefused e (IsRefusedAtLines (form ∷ []) now) → IfRefused e (IsRefusedAtLines (replicate n form) old)
run_refused Memory n i form old now lt passes refused = tt
run_refused (Refused r) n i form old now lt passes refused =
    λ more. passes more ∙ ap (λ (forms : List (List Field)). lines_fault (forms ++ more) now.count now.lines) (replicate_first n i form lt) ∙ refused (replicate (n - (i + 1)) form ++ more)
