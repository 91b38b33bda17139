-- The settings that words spell, two words at a time.
use Rattle.std.proofs.Common.{◌≡◌, ◌≢◌, ℕ, ◌-◌, ◌<◌, ◌≤◌, List, [], ◌∷◌, length, get_or, take, drop, Bool, true, false, cond, eqb, Option, None, Some, String, string_bytes, All, IfSome, IsSome, refl, sym, ◌∙◌, ap, subst, arith}
use Rattle.std.specs.List.{flat_map, cons_option}
use Rattle.std.specs.declared.alloc.Global.{Global}
use Rattle.std.proofs.lemmas.List.Elements.{All-cons, All-head, All-tail}
use Rattle.std.proofs.lemmas.Grind.{common_steps}
use Rattle.command_line.proofs.OneJob.{same_number, same_setting}
use Rattle.command_line.proofs.Places.{itself, same_option, told_apart}
use Rattle.command_line.specs.Commands.{word_of, job_with}
use Rattle.command_line.specs.Options.{IsInRange, place_of}
use Rattle.command_line.specs.Plain.{texts, IsPlainJob}
use Rattle.command_line.specs.Settings.{words_of, numbers_for, IsSettingInRange, Spells}
use Rattle.command_line.specs.declared.command.Command.{Command}
use Rattle.command_line.specs.declared.job.Job.{Job}
use Rattle.command_line.specs.declared.option.Opt.{Opt}
use Rattle.command_line.specs.declared.settings.Setting.{Setting}

-- the texts of two words and more
pub two_words : (words : List (String Global)) (a b : String Global) (option number : List ℕ) → 2 ≤ length words
    → a ≡ get_or words 0 a → b ≡ get_or words 1 b → option ≡ string_bytes a → number ≡ string_bytes b
    → texts words ≡ option ∷ number ∷ texts (take (length words - 2) (drop 2 words))
two_words [] a b option number long first second o n = absurd (omega arith)
two_words (x ∷ []) a b option number long first second o n = absurd (omega arith)
two_words (x ∷ y ∷ words) a b option number long first second o n = grind (arith, common_steps)

-- the texts of a word and more
pub first_word : (words : List (String Global)) (a : String Global) (word : List ℕ) → 1 ≤ length words → a ≡ get_or words 0 a
    → word ≡ string_bytes a → texts words ≡ word ∷ texts (take (length words - 1) (drop 1 words))
first_word [] a word long first is = absurd (omega arith)
first_word (x ∷ words) a word long first is = grind (arith, common_steps)

-- ---- what is given before the words and what after them

-- what is given after is what was given before and what the settings give: no option has two numbers
abbrev Gives : (Opt → Option ℕ) → List Setting → (Opt → Option ℕ) → Type 0
Gives before settings after = (option : Opt) → cons_option (before option) (numbers_for option settings) ≡ cons_option (after option) []

-- the words spell settings in range, which lead from what was given before to what is given after
pub record SpellsFrom (words : List (List ℕ)) (before after : Opt → Option ℕ) : Type 0 where
  pub settings : List Setting
  pub spelled : words ≡ flat_map words_of settings
  pub in_range : All IsSettingInRange settings
  pub gives : Gives before settings after

module _ (words : List (List ℕ)) (before after : Opt → Option ℕ) (none : (option : Opt) → before option ≡ None) where
  -- where nothing was given before, it is what the words spell
  pub spells_whole : SpellsFrom words before after → Spells words after
  spells_whole h = record {
    settings = h.settings;
    spelled = h.spelled;
    in_range = h.in_range;
    gives = λ option. ap (λ (n : Option ℕ). cons_option n (numbers_for option h.settings)) (sym (none option)) ∙ h.gives option;
  }

  pub spells_from : Spells words after → SpellsFrom words before after
  spells_from h = record {
    settings = h.settings;
    spelled = h.spelled;
    in_range = h.in_range;
    gives = λ option. ap (λ (n : Option ℕ). cons_option n (numbers_for option h.settings)) (none option) ∙ h.gives option;
  }

-- a setting is added, whose option had no number
pub record Adds (before : Opt → Option ℕ) (s : Setting) (between : Opt → Option ℕ) : Type 0 where
  pub none : before s.option ≡ None
  pub same : between s.option ≡ Some s.number
  pub others : (option : Opt) → option ≢ s.option → between option ≡ before option

module _ (before between : Opt → Option ℕ) (s : Setting) (adds : Adds before s between) where
  -- the numbers of an option, where the first setting is its own and where it isn't
  joined_at : (option : Opt) (more : List ℕ) (b : Bool) → eqb (place_of option) (place_of s.option) ≡ b
      → cons_option (before option) (cons_option (cond b (Some s.number) None) more) ≡ cons_option (between option) more
  joined_at option more true e =
      let is : option ≡ s.option = same_option option s.option e in
      let none : before option ≡ None = ap before is ∙ adds.none in
      let some : between option ≡ Some s.number = ap between is ∙ adds.same in
      rw (none, some) refl
  joined_at option more false e =
      let kept : between option ≡ before option = adds.others option (told_apart option s.option e) in
      rw kept refl

  joined : (option : Opt) (more : List Setting)
      → cons_option (before option) (numbers_for option (s ∷ more)) ≡ cons_option (between option) (numbers_for option more)
  joined option more = joined_at option (numbers_for option more) (eqb (place_of option) (place_of s.option)) refl

  gives_all : (more : List Setting) (after : Opt → Option ℕ) → Gives between more after → Gives before (s ∷ more) after
  gives_all more after h = λ option. joined option more ∙ h option

  gives_more : (more : List Setting) (after : Opt → Option ℕ) → Gives before (s ∷ more) after → Gives between more after
  gives_more more after h = λ option. sym (joined option more) ∙ h option

  -- a number in range is added to such
  range_at : ((option : Opt) → IfSome (before option) (IsInRange option)) → IsSettingInRange s → (option : Opt) (b : Bool)
      → eqb (place_of option) (place_of s.option) ≡ b → IfSome (between option) (IsInRange option)
  range_at range in_range option true e =
      let is : option ≡ s.option = same_option option s.option e in
      let here : IfSome (between s.option) (IsInRange s.option) = rw adds.same in_range in
      subst (λ (o : Opt). IfSome (between o) (IsInRange o)) (sym is) here
  range_at range in_range option false e =
      let kept : between option ≡ before option = adds.others option (told_apart option s.option e) in
      subst (λ (n : Option ℕ). IfSome n (IsInRange option)) (sym kept) (range option)

  pub stays_in_range : ((option : Opt) → IfSome (before option) (IsInRange option)) → IsSettingInRange s
      → (option : Opt) → IfSome (between option) (IsInRange option)
  stays_in_range range in_range = λ option. range_at range in_range option (eqb (place_of option) (place_of s.option)) refl

-- no option has two numbers
two_numbers : (before after : Option ℕ) (n : ℕ) (more : List ℕ) → IsSome before → cons_option before (n ∷ more) ≡ cons_option after [] → ⊥
two_numbers None after n more some h = cc
two_numbers (Some m) None n more some h = cc
two_numbers (Some m) (Some k) n more some h = cc

own_number : (s : Setting) (more : List Setting) → numbers_for s.option (s ∷ more) ≡ s.number ∷ numbers_for s.option more
own_number s more =
    ap (λ (b : Bool). cons_option (cond b (Some s.number) None) (numbers_for s.option more)) (itself (place_of s.option))

gives_no_second : (before after : Opt → Option ℕ) (s : Setting) (more : List Setting) → IsSome (before s.option)
    → Gives before (s ∷ more) after → ⊥
gives_no_second before after s more taken h =
    two_numbers (before s.option) (after s.option) s.number (numbers_for s.option more) taken
    (ap (λ (ns : List ℕ). cons_option (before s.option) ns) (sym (own_number s more)) ∙ h s.option)

-- ---- words that begin with a setting's two

record Begins (option number : List ℕ) (rest : List (List ℕ)) (before after : Opt → Option ℕ) : Type 0 where
  first : Setting
  more : List Setting
  first_spelled : option ∷ number ∷ [] ≡ words_of first
  more_spelled : rest ≡ flat_map words_of more
  first_in_range : IsSettingInRange first
  more_in_range : All IsSettingInRange more
  gives : Gives before (first ∷ more) after

begins_with : (option number : List ℕ) (rest : List (List ℕ)) (before after : Opt → Option ℕ) (settings : List Setting)
    → option ∷ number ∷ rest ≡ flat_map words_of settings → All IsSettingInRange settings → Gives before settings after
    → Begins option number rest before after
begins_with option number rest before after [] spelled in_range gives = cc
begins_with option number rest before after (s ∷ more) spelled in_range gives = record {
  first = s;
  more = more;
  first_spelled = cc;
  more_spelled = cc;
  first_in_range = All-head IsSettingInRange s more in_range;
  more_in_range = All-tail IsSettingInRange s more in_range;
  gives = gives;
}

begins : (option number : List ℕ) (rest : List (List ℕ)) (before after : Opt → Option ℕ)
    → SpellsFrom (option ∷ number ∷ rest) before after → Begins option number rest before after
begins option number rest before after h = begins_with option number rest before after h.settings h.spelled h.in_range h.gives

-- two words that are no setting's spell no settings
pub no_setting : (option number : List ℕ) (rest : List (List ℕ)) (before after : Opt → Option ℕ)
    → ((s : Setting) → IsSettingInRange s → option ∷ number ∷ [] ≡ words_of s → ⊥)
    → SpellsFrom (option ∷ number ∷ rest) before after → ⊥
no_setting option number rest before after none h =
    let b = begins option number rest before after h in none b.first b.first_in_range b.first_spelled

module _ (option number : List ℕ) (rest : List (List ℕ)) (before after : Opt → Option ℕ) (s : Setting)
    (spelled : option ∷ number ∷ [] ≡ words_of s) (in_range : IsSettingInRange s) where
  -- what the words give, their first setting being s
  gives_from : (b : Begins option number rest before after) → Gives before (s ∷ b.more) after
  gives_from b =
      let e = same_setting b.first s b.first_in_range in_range (sym b.first_spelled ∙ spelled) in
      subst (λ (t : Setting). Gives before (t ∷ b.more) after) e b.gives

  -- a setting whose option has a number already can't follow
  pub no_second : IsSome (before s.option) → SpellsFrom (option ∷ number ∷ rest) before after → ⊥
  no_second taken h =
      let b = begins option number rest before after h in gives_no_second before after s b.more taken (gives_from b)

  -- what the words spell, the rest spells after the first setting
  pub spells_more : (between : Opt → Option ℕ) → Adds before s between → SpellsFrom (option ∷ number ∷ rest) before after
      → SpellsFrom rest between after
  spells_more between adds h =
      let b = begins option number rest before after h in
      record {
        settings = b.more;
        spelled = b.more_spelled;
        in_range = b.more_in_range;
        gives = gives_more before between s adds b.more after (gives_from b);
      }

  -- and the other way round
  pub spells_all : (between : Opt → Option ℕ) → Adds before s between → SpellsFrom rest between after
      → SpellsFrom (option ∷ number ∷ rest) before after
  spells_all between adds h = record {
    settings = s ∷ h.settings;
    spelled = let more = h.spelled in cc;
    in_range = All-cons IsSettingInRange s h.settings in_range h.in_range;
    gives = gives_all before between s adds h.settings after h.gives;
  }

-- a single word spells no settings
one_word : (word : List ℕ) (settings : List Setting) → word ∷ [] ≡ flat_map words_of settings → ⊥
one_word word [] h = cc
one_word word (s ∷ settings) h = cc

pub odd_word : (words : List (String Global)) (before after : Opt → Option ℕ) → length words < 2 → 0 < length words
    → SpellsFrom (texts words) before after → ⊥
odd_word [] before after short some h = absurd (omega arith)
odd_word (word ∷ []) before after short some h = one_word (string_bytes word) h.settings h.spelled
odd_word (word ∷ next ∷ words) before after short some h = absurd (omega arith)

no_words : (before after : Opt → Option ℕ) (settings : List Setting) → [] ≡ flat_map words_of settings → Gives before settings after
    → (option : Opt) → before option ≡ after option
no_words before after [] spelled h = λ option. same_number (before option) (after option) (h option)
no_words before after (s ∷ settings) spelled h = cc

-- no words add nothing
pub at_end : (words : List (String Global)) (before after : Opt → Option ℕ) → length words ≡ 0
    → SpellsFrom (texts words) before after → (option : Opt) → before option ≡ after option
at_end [] before after none h = no_words before after h.settings h.spelled h.gives
at_end (word ∷ words) before after none h = absurd (omega arith)

-- a word and the words behind it ask for this job
pub record AsksBy (word : List ℕ) (options : List (List ℕ)) (job : Job) : Type 0 where
  pub command : Command
  pub given : Opt → Option ℕ
  pub word_is : word ≡ word_of command
  pub settings : Spells options given
  pub job_is : job ≡ job_with command given

pub asks_by : (word : List ℕ) (options : List (List ℕ)) (job : Job) → IsPlainJob (word ∷ options) job → AsksBy word options job
asks_by word options job h =
    let spelled : word ∷ options ≡ word_of h.command ∷ h.options = h.spelled in
    let word_is : word ≡ word_of h.command = cc in
    let rest : options ≡ h.options = cc in
    record {
      command = h.command;
      given = h.given;
      word_is = word_is;
      settings = subst (λ (more : List (List ℕ)). Spells more h.given) (sym rest) h.settings;
      job_is = h.job_is;
    }
