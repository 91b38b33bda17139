-- Words ask only for jobs that fit.
use Rattle.std.proofs.Common.{◌≡◌, ◌≤◌, ℕ, List, [], ◌∷◌, Option, None, Some, IfSome, cond, eqb, true, false, Bool, unwrap_or, refl, sym, subst, lit≤}
use Rattle.std.specs.List.{cons_option, AllByRecursion}
use Rattle.std.proofs.lemmas.List.Elements.{recursion_from_All}
use Rattle.command_line.proofs.Places.{same_option}
use Rattle.command_line.specs.Commands.{job_with}
use Rattle.command_line.specs.Options.{IsInRange, greatest_of, place_of}
use Rattle.command_line.specs.Plain.{IsPlainJob}
use Rattle.command_line.specs.Ranges.{Fits}
use Rattle.command_line.specs.Ranges as ranges
use Rattle.command_line.specs.Settings.{IsSettingInRange, Spells, number_for, numbers_for}
use Rattle.command_line.specs.declared.command.Command.{Command}
use Rattle.command_line.specs.declared.command.Command.TheVariants.{Solve, Check, Score, Make, Trial}
use Rattle.command_line.specs.declared.job.Job.{Job}
use Rattle.command_line.specs.declared.job.TheConstants.{DEFAULT_WORKERS, DEFAULT_BUDGET, DEFAULT_SIZE}
use Rattle.command_line.specs.declared.option.Opt.{Opt}
use Rattle.command_line.specs.declared.option.Opt.TheVariants.{Workers, Budget, Cut, Size}
use Rattle.command_line.specs.declared.settings.Setting.{Setting}

-- numbers that are given, each in its option's range
abbrev pub AreGivenInRange : (Opt → Option ℕ) → Type 0
AreGivenInRange given = (option : Opt) → IfSome (given option) (IsInRange option)

-- what a setting gives an option is in its range
module _ (option : Opt) where
  gives_in_range : (s : Setting) (b : Bool) → eqb (place_of option) (place_of s.option) ≡ b → IsSettingInRange s
      → IfSome (cond b (Some s.number) None) (IsInRange option)
  gives_in_range s true same h = subst (λ (o : Opt). IsInRange o s.number) (sym (same_option option s.option same)) h
  gives_in_range s false other h = tt

  setting_fits : (s : Setting) → IsSettingInRange s → IfSome (number_for option s) (IsInRange option)
  setting_fits s h = gives_in_range s (eqb (place_of option) (place_of s.option)) refl h

  one_more : (n : Option ℕ) (more : List ℕ) → IfSome n (IsInRange option) → AllByRecursion (IsInRange option) more
      → AllByRecursion (IsInRange option) (cons_option n more)
  one_more None more h all = all
  one_more (Some n) more h all = (h, all)

  all_fit : (settings : List Setting) → AllByRecursion IsSettingInRange settings → AllByRecursion (IsInRange option) (numbers_for option settings)
  all_fit [] all = tt
  all_fit (s ∷ settings) all = one_more (number_for option s) (numbers_for option settings) (setting_fits s all.0) (all_fit settings all.1)

  is_in : (numbers : List ℕ) (n : Option ℕ) → AllByRecursion (IsInRange option) numbers → numbers ≡ cons_option n [] → IfSome n (IsInRange option)
  is_in numbers None all e = tt
  is_in numbers (Some n) all e =
      let one : AllByRecursion (IsInRange option) (n ∷ []) = subst (λ (ns : List ℕ). AllByRecursion (IsInRange option) ns) e all in one.0

pub given_in_range : (words : List (List ℕ)) (given : Opt → Option ℕ) → Spells words given → AreGivenInRange given
given_in_range words given h = λ option.
    is_in option (numbers_for option h.settings) (given option)
    (all_fit option h.settings (recursion_from_All IsSettingInRange h.settings h.in_range)) (h.gives option)

or_default : (P : ℕ → Type 0) (n : Option ℕ) (default : ℕ) → IfSome n P → P default → P (unwrap_or n default)
or_default P None default h d = d
or_default P (Some n) default h d = h

upper : (option : Opt) (n : Option ℕ) → IfSome n (IsInRange option) → IfSome n (λ k. k ≤ greatest_of option)
upper option None h = tt
upper option (Some n) h = h.1

module _ (given : Opt → Option ℕ) (range : AreGivenInRange given) where
  workers_fit : IsInRange Workers (unwrap_or (given Workers) DEFAULT_WORKERS)
  workers_fit = or_default (IsInRange Workers) (given Workers) DEFAULT_WORKERS (range Workers) (lit≤ tt, lit≤ tt)

  size_fits : IsInRange Size (unwrap_or (given Size) DEFAULT_SIZE)
  size_fits = or_default (IsInRange Size) (given Size) DEFAULT_SIZE (range Size) (lit≤ tt, lit≤ tt)

  budget_and_cut : ranges.AreInRange (unwrap_or (given Budget) DEFAULT_BUDGET) (given Cut)
  budget_and_cut =
      let budget : IsInRange Budget (unwrap_or (given Budget) DEFAULT_BUDGET) =
      or_default (IsInRange Budget) (given Budget) DEFAULT_BUDGET (range Budget) (lit≤ tt, lit≤ tt) in
      record { some = budget.0; few = budget.1; tick = upper Cut (given Cut) (range Cut) }

  pub fits_with : (command : Command) → Fits (job_with command given)
  fits_with Solve = (workers_fit.1, budget_and_cut)
  fits_with Check = tt
  fits_with Score = tt
  fits_with Make = size_fits.1
  fits_with Trial = (size_fits.1, budget_and_cut)

pub fits_from_job : (words : List (List ℕ)) (job : Job) → IsPlainJob words job → Fits job
fits_from_job words job h =
    subst (λ (j : Job). Fits j) (sym h.job_is) (fits_with h.given (given_in_range h.options h.given h.settings) h.command)
