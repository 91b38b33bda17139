-- The numbers among the matches of a command line without a fault.
use Rattle.std.proofs.Common.{◌≡◌, ◌∙◌, ◌⊎◌, ◌≤◌, ℕ, true, List, [], ◌∷◌, Option, Some, None, Result, Err, IfSome, refl, sym, ap, subst, inl, inr}
use Rattle.std.specs.Borrow.{Bor}
use Rattle.std.specs.Prelude.{option_map}
use Rattle.std.specs.Str.Parse.{digits_value, without_leading_plus}
use Rattle.clap.proofs.OnLiterals.{clap_on_literals}
use Rattle.clap.proofs.WalkLemmas.{first_value-rows}
use Rattle.clap.specs.Faults.{fault_of, is_simple_and_free}
use Rattle.clap.specs.Kinds.{HasKind, Kinds}
use Rattle.clap.specs.Matches.{first_value}
use Rattle.clap.specs.Simple.{built, is_simple, matches_of}
use Rattle.clap.specs.Values.{IsUnsignedIn, kind_of}
use Rattle.clap.specs.Walk.{Row, first_of, rows_of}
use Rattle.clap.specs.declared.error.Error.{Error}
use Rattle.clap.specs.declared.error.kind.ErrorKind.TheVariants.{OutOfMemory}
use Rattle.clap.specs.declared.parser.matches.Found.{Found}
use Rattle.command_line.proofs.FitJobs.{AreGivenInRange, fits_with}
use Rattle.command_line.proofs.Walked.{IsTaken, value_taken}
use Rattle.command_line.specs.Line.{IsMatched, IsRead, number_in, words_app}
use Rattle.command_line.specs.Options.{greatest_of, least_of, name_of}
use Rattle.command_line.specs.Ranges.{Fits}
use Rattle.command_line.specs.Values.{AreInside, IsInside}
use Rattle.command_line.specs.declared.job.Job.{Job}
use Rattle.command_line.specs.declared.option.Opt.{Opt}
use Rattle.command_line.specs.declared.option.Opt.TheVariants.{Workers, Budget, Cut, Seed, Size}

-- ---- the command line

pub is_simple_line : is_simple_and_free words_app ≡ true
unfolding clap_on_literals
is_simple_line = refl

pub is_line : is_simple words_app ≡ true
unfolding clap_on_literals
is_line = refl

-- a value that passed the parser of the one option that has this name
module _ (words : List (List ℕ)) (faultless : fault_of words_app words ≡ []) where
  taken : (name text : List ℕ) → first_of name (matches_of words_app words) ≡ Some text → IsTaken name text (built words_app).top.rules
  taken = value_taken (built words_app) words (refl, (refl, (refl, (refl, (refl, (refl, tt)))))) (λ x. refl) (refl, (refl, (refl, (refl, (refl, (refl, tt)))))) faultless

  inside : (option : Opt)
      → ((text : List ℕ) → IsTaken (name_of option) text (built words_app).top.rules → IsUnsignedIn (least_of option) (greatest_of option) text)
      → IsInside (matches_of words_app words) option
  inside option rule = λ text first. rule text (taken (name_of option) text first)

-- the only rule of a name
only : {P : Type 0} → P ⊎ ⊥ → P
only (inl p) = p
only (inr none) = absurd none

module _ (words : List (List ℕ)) (faultless : fault_of words_app words ≡ []) where
  inside_by : (option : Opt) → IsInside (matches_of words_app words) option
  inside_by Workers = inside words faultless Workers (λ text. only)
  inside_by Budget = inside words faultless Budget (λ text. only)
  inside_by Cut = inside words faultless Cut (λ text. only)
  inside_by Seed = inside words faultless Seed (λ text. only)
  inside_by Size = inside words faultless Size (λ text. only)

  pub all_inside : AreInside (matches_of words_app words)
  all_inside = λ option. inside_by option

-- ---- the job of a command line is in range

in_range : (o : Option (List ℕ)) (low high : ℕ) → ((text : List ℕ) → o ≡ Some text → IsUnsignedIn low high text)
    → IfSome (option_map (λ text. digits_value 10 (without_leading_plus text)) o) (λ n. (low ≤ n) × (n ≤ high))
in_range None low high inside = tt
in_range (Some text) low high inside = let number = inside text refl in (number.2, number.3)

matched_fits : (rows : List Row) (job : Job) → AreInside rows → IsMatched rows job → Fits job
matched_fits rows job inside matched =
    let range : AreGivenInRange (number_in rows) =
    λ option. in_range (first_of (name_of option) rows) (least_of option) (greatest_of option) (inside option) in
    subst (λ (j : Job). Fits j) (sym matched.job_is) (fits_with (number_in rows) range matched.command)

pub read_fits : (words : List (List ℕ)) (job : Job) → IsRead words job → Fits job
read_fits words job read = matched_fits (matches_of words_app words) job (all_inside words read.faultless) read.matched

-- ---- the texts of values

text_among : (f : Found) (name : List ℕ) (o : Option (Bor (List ℕ))) → option_map (λ s. s.now) o ≡ first_value f name
    → first_of name (rows_of f) ≡ option_map (λ s. s.now) o
text_among f name o is = sym (first_value-rows f name) ∙ sym is

pub text_given : (f : Found) (name : List ℕ) (o : Option (Bor (List ℕ))) (s : Bor (List ℕ)) → option_map (λ s. s.now) o ≡ first_value f name
    → o ≡ Some s → first_of name (rows_of f) ≡ Some s.now
text_given f name o s is some = text_among f name o is ∙ ap (option_map (λ (s : Bor (List ℕ)). s.now)) some

pub none_given : (f : Found) (name : List ℕ) (o : Option (Bor (List ℕ))) → option_map (λ s. s.now) o ≡ first_value f name
    → o ≡ None → first_of name (rows_of f) ≡ None
none_given f name o is none = text_among f name o is ∙ ap (option_map (λ (s : Bor (List ℕ)). s.now)) none

pub no_text : (o : Option (List ℕ)) (text : List ℕ) → o ≡ None → o ≡ Some text → ⊥
no_text o text none some = cc

pub same_text : (o : Option (List ℕ)) (a b : List ℕ) → o ≡ Some a → o ≡ Some b → a ≡ b
same_text o a b first second = cc

-- ---- faults

pub not_faultless : (kinds : Kinds) (e : Error) → HasKind kinds e → (kind_of e ≡ OutOfMemory → ⊥) → kinds ≡ [] → ⊥
not_faultless [] e (inl memory) other none = other memory
not_faultless [] e (inr among) other none = among
not_faultless (k ∷ ks) e has other none = cc

pub error_is : {T E : Type 0} (x y : E) → ◌≡◌ {A = Result T E} (Err x) (Err y) → x ≡ y
error_is x y e = cc
