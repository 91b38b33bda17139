-- The places of options, and what stands there.
use Rattle.std.proofs.Common.{◌≡◌, ◌≢◌, ℕ, cond, eqb, true, false, refl, sym, ◌∙◌, ap, arith}
use Rattle.std.proofs.lemmas.Bool.Decides.{nat_tests}
use Rattle.command_line.specs.Options.{place_of}
use Rattle.command_line.specs.declared.option.Opt.{Opt}
use Rattle.command_line.specs.declared.option.Opt.TheVariants.{Workers, Budget, Cut, Seed, Size}

-- the option at a place
abbrev option_at : ℕ → Opt
option_at k = cond (eqb k 0) Workers (cond (eqb k 1) Budget (cond (eqb k 2) Cut (cond (eqb k 3) Seed Size)))

option_back : (option : Opt) → option_at (place_of option) ≡ option
option_back Workers = refl
option_back Budget = refl
option_back Cut = refl
option_back Seed = refl
option_back Size = refl

-- two options of one place are one
pub one_place : (a b : Opt) → place_of a ≡ place_of b → a ≡ b
one_place a b h = sym (option_back a) ∙ ap option_at h ∙ option_back b

pub same_option : (a b : Opt) → eqb (place_of a) (place_of b) ≡ true → a ≡ b
same_option a b h = one_place a b (grind (arith, nat_tests))

-- a number is equal to itself
pub itself : (n : ℕ) → eqb n n ≡ true
itself n = grind (arith, nat_tests)

-- options whose places differ are two
pub told_apart : (a b : Opt) → eqb (place_of a) (place_of b) ≡ false → a ≢ b
told_apart a b e same =
    let true_here : eqb (place_of a) (place_of b) ≡ true = ap (λ (o : Opt). eqb (place_of o) (place_of b)) same ∙ itself (place_of b) in cc
