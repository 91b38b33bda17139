-- Words ask for one job at most.
use Rattle.std.proofs.Common.{◌≡◌, ℕ, ◌<◌, ◌≤◌, ◌^◌, List, [], ◌∷◌, Option, None, Some, unwrap_or, inl, inr, get_or, cond, eqb, All, decimal, refl, sym, ◌∙◌, ap, ap₂, subst, arith}
use Rattle.std.specs.List.{flat_map, cons_option}
use Rattle.std.proofs.lemmas.Fmt.{decimal_injective}
use Rattle.std.proofs.lemmas.List.Elements.{All-head, All-tail}
use Rattle.clap.specs.Walk.{Row}
use Rattle.command_line.specs.Commands.{word_of, job_with}
use Rattle.command_line.specs.Job.{IsJob}
use Rattle.command_line.specs.Line.{IsMatched, number_in}
use Rattle.command_line.specs.Options.{IsInRange, word_of_option}
use Rattle.command_line.specs.Plain.{IsPlainJob}
use Rattle.command_line.specs.Settings.{words_of, numbers_for, IsSettingInRange, Spells}
use Rattle.command_line.specs.declared.command.Command.{Command}
use Rattle.command_line.specs.declared.command.Command.TheVariants as command
use Rattle.command_line.specs.declared.job.Job.{Job}
use Rattle.command_line.specs.declared.limits.TheConstants.{MAX_SEED}
use Rattle.command_line.specs.declared.option.Opt.{Opt}
use Rattle.command_line.specs.declared.option.Opt.TheVariants.{Workers, Budget, Cut, Seed, Size}
use Rattle.command_line.specs.declared.settings.Setting.{Setting}
use Rattle.inst_maker.specs.declared.limits.TheConstants.{MAX_SIZE}
use Rattle.joiner.specs.declared.limits.TheConstants.{MAX_WORKERS}
use Rattle.proof_log.specs.declared.limits.TheConstants.{MAX_LABELS}
use Rattle.strip_model.specs.declared.limits.TheConstants.{MAX_HORIZON}

-- letter k of a word
abbrev letter : ℕ → List ℕ → ℕ
letter k word = get_or word k 0

-- the command whose word has this second letter: o, h, c, a, or else r
abbrev command_by : ℕ → Command
command_by k =
    cond (eqb k 111) command.Solve (cond (eqb k 104) command.Check (cond (eqb k 99) command.Score (cond (eqb k 97) command.Make command.Trial)))

command_back : (c : Command) → command_by (letter 1 (word_of c)) ≡ c
command_back command.Solve = refl
command_back command.Check = refl
command_back command.Score = refl
command_back command.Make = refl
command_back command.Trial = refl

-- two commands of one word are one
pub same_command : (a b : Command) → word_of a ≡ word_of b → a ≡ b
same_command a b h = sym (command_back a) ∙ ap (λ (word : List ℕ). command_by (letter 1 word)) h ∙ command_back b

-- the option of a word, by its letters: w, b, c or s behind the two strokes, and then e or i
abbrev option_by : List ℕ → Opt
option_by word =
    cond (eqb (letter 2 word) 119) Workers (cond (eqb (letter 2 word) 98) Budget (cond (eqb (letter 2 word) 99) Cut
    (cond (eqb (letter 3 word) 101) Seed Size)))

option_back : (option : Opt) → option_by (word_of_option option) ≡ option
option_back Workers = refl
option_back Budget = refl
option_back Cut = refl
option_back Seed = refl
option_back Size = refl

small : (option : Opt) (n : ℕ) → IsInRange option n → n < 2 ^ 64
small Workers n h = let k : n ≤ MAX_WORKERS = h.1 in omega (arith, k)
small Budget n h = let k : n ≤ MAX_LABELS = h.1 in omega (arith, k)
small Cut n h = let k : n ≤ MAX_HORIZON = h.1 in omega (arith, k)
small Seed n h = let k : n ≤ MAX_SEED = h.1 in omega (arith, k)
small Size n h = let k : n ≤ MAX_SIZE = h.1 in omega (arith, k)

abbrev setting : Opt → ℕ → Setting
setting option number = record { option = option; number = number }

-- two settings of the same words are one
pub same_setting : (s t : Setting) → IsSettingInRange s → IsSettingInRange t → words_of s ≡ words_of t → s ≡ t
same_setting s t in_s in_t h =
    let words : word_of_option s.option ≡ word_of_option t.option = ap (λ (ws : List (List ℕ)). get_or ws 0 []) h in
    let decimals : decimal s.number ≡ decimal t.number = ap (λ (ws : List (List ℕ)). get_or ws 1 []) h in
    let options : s.option ≡ t.option = sym (option_back s.option) ∙ ap option_by words ∙ option_back t.option in
    let numbers : s.number ≡ t.number =
    decimal_injective s.number t.number (small s.option s.number in_s) (small t.option t.number in_t) decimals in
    ap₂ setting options numbers

-- two lists of settings that spell the same words are one
same_settings : (ss ts : List Setting) → All IsSettingInRange ss → All IsSettingInRange ts → flat_map words_of ss ≡ flat_map words_of ts → ss ≡ ts
same_settings [] [] a b h = refl
same_settings [] (t ∷ ts) a b h = cc
same_settings (s ∷ ss) [] a b h = cc
same_settings (s ∷ ss) (t ∷ ts) a b h =
    let first : s ≡ t = same_setting s t (All-head IsSettingInRange s ss a) (All-head IsSettingInRange t ts b) cc in
    let more : ss ≡ ts = same_settings ss ts (All-tail IsSettingInRange s ss a) (All-tail IsSettingInRange t ts b) cc in
    cc

-- a number, if there is one, is known by the list that it makes
pub same_number : (a b : Option ℕ) → cons_option a [] ≡ cons_option b [] → a ≡ b
same_number None None h = refl
same_number None (Some n) h = cc
same_number (Some m) None h = cc
same_number (Some m) (Some n) h = cc

-- words spell one thing that is given
one_given : (words : List (List ℕ)) (a b : Opt → Option ℕ) → Spells words a → Spells words b → (option : Opt) → a option ≡ b option
one_given words a b p q = λ option.
    let settings : p.settings ≡ q.settings = same_settings p.settings q.settings p.in_range q.in_range (sym p.spelled ∙ q.spelled) in
    same_number (a option) (b option) (sym (p.gives option) ∙ ap (numbers_for option) settings ∙ q.gives option)

-- a command has the same job with numbers that are the same
pub job_alike : (c : Command) (a b : Opt → Option ℕ) → ((option : Opt) → a option ≡ b option) → job_with c a ≡ job_with c b
job_alike command.Solve a b h = rw (h Workers, h Budget, h Cut) refl
job_alike command.Check a b h = refl
job_alike command.Score a b h = refl
job_alike command.Make a b h = rw (h Seed, h Size) refl
job_alike command.Trial a b h = rw (h Seed, h Size, h Budget, h Cut) refl

one_plain_job : (words : List (List ℕ)) (a b : Job) → IsPlainJob words a → IsPlainJob words b → a ≡ b
one_plain_job words a b p q =
    let spelled : word_of p.command ∷ p.options ≡ word_of q.command ∷ q.options = sym p.spelled ∙ q.spelled in
    let word : word_of p.command ≡ word_of q.command = cc in
    let rest : p.options ≡ q.options = cc in
    let settings : Spells p.options q.given = subst (λ (options : List (List ℕ)). Spells options q.given) (sym rest) q.settings in
    p.job_is ∙ job_alike p.command p.given q.given (one_given p.options p.given q.given p.settings settings)
    ∙ ap (λ (c : Command). job_with c q.given) (same_command p.command q.command word) ∙ sym q.job_is

-- matches tell one job at most
pub one_matched : (rows : List Row) (a b : Job) → IsMatched rows a → IsMatched rows b → a ≡ b
one_matched rows a b p q =
    let named : Some (word_of p.command) ≡ Some (word_of q.command) = sym p.named ∙ q.named in
    let word : word_of p.command ≡ word_of q.command = ap (λ (o : Option (List ℕ)). unwrap_or o []) named in
    let command = same_command p.command q.command word in
    p.job_is ∙ ap (λ (c : Command). job_with c (number_in rows)) command ∙ sym q.job_is

pub one_job : (words : List (List ℕ)) (a b : Job) → IsJob words a → IsJob words b → a ≡ b
one_job words a b (inl p) (inl q) = one_plain_job words a b p q
one_job words a b (inl p) (inr q) = absurd (q.not_plain a p)
one_job words a b (inr p) (inl q) = absurd (p.not_plain b q)
one_job words a b (inr p) (inr q) = one_matched _ a b p.read.matched q.read.matched
