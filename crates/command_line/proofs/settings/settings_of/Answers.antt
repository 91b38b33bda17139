use Rattle.std.proofs.Common.{◌≡◌, [], ◌∷◌, ◌<◌, ◌-◌, None, IfSome, length, take, drop, refl, arith}
use Rattle.command_line.proofs.Spelled.{Adds, two_words, no_setting, no_second, spells_all, spells_more, spells_from, spells_whole, stays_in_range, odd_word, at_end}
use Rattle.command_line.specs.Options.{IsInRange}
use Rattle.command_line.specs.Plain.{texts}
use Rattle.command_line.specs.Settings.{given_in}
use Rattle.command_line.specs.declared.option.Opt.{Opt}
use Rattle.command_line.specs.declared.option.Opt.TheVariants.{Workers, Budget, Cut, Seed, Size}
use Rattle.command_line.specs.declared.settings.Settings.{Settings}
use Rattle.command_line.proofs.settings.settings_of.Goals.{After-setting_of}
use Rattle.command_line.proofs.settings.settings_of.Goals as goal

abbrev no_numbers : Settings
no_numbers = record { numbers = None ∷ None ∷ None ∷ None ∷ None ∷ [] }

none_given : (option : Opt) → given_in no_numbers option ≡ None
none_given Workers = refl
none_given Budget = refl
none_given Cut = refl
none_given Seed = refl
none_given Size = refl

none_out_of_range : (option : Opt) → IfSome (given_in no_numbers option) (IsInRange option)
none_out_of_range Workers = tt
none_out_of_range Budget = tt
none_out_of_range Cut = tt
none_out_of_range Seed = tt
none_out_of_range Size = tt

-- the texts of the rest, two words of which are read
rest_is : (c : After-setting_of) → texts c.loop-rest.rest.now
    ≡ c.as_str.result.now ∷ c.as_bytes.result.now ∷ texts (take (length c.loop-rest.rest.now - 2) (drop 2 c.loop-rest.rest.now))
rest_is c =
    two_words _ c.option-item.result c.number-item.result _ _ (omega arith) c.option-item.is c.number-item.is c.as_str.ensures.value c.as_bytes.ensures.value

pub loop-rest-init : goal.loop-rest-init
loop-rest-init c = record {
  back = λ given h. spells_whole _ (given_in no_numbers) given none_given h;
  on = λ given h. spells_from _ (given_in no_numbers) given none_given h;
  range = none_out_of_range;
}

pub returns-in_err-setting-clause-asked : goal.returns-in_err-setting-clause-asked
returns-in_err-setting-clause-asked c = λ given h.
    let words = rest_is (goal.at.returns-in_err-setting-clause-asked c).After-setting_of in
    let k = rw words at (c.loop-rest.invariant.on given h) in
    absurd (no_setting _ _ _ _ given (λ s in_range spelled. let e = c.in_err-setting.ensures.asked s in_range spelled in cc) k)

pub returns-in_err-settings-clause-asked : goal.returns-in_err-settings-clause-asked
returns-in_err-settings-clause-asked c = λ given h.
    let words = rest_is (goal.at.returns-in_err-settings-clause-asked c).After-setting_of in
    let k = rw words at (c.loop-rest.invariant.on given h) in
    let read = c.in_ok-setting.ensures.ok in
    absurd (no_second _ _ _ _ given c.in_ok-setting.setting read.0 read.1 c.in_err-settings.ensures.taken k)

pub loop-rest-preserved : goal.loop-rest-preserved
loop-rest-preserved c =
    let words = rest_is (goal.at.loop-rest-preserved c).After-setting_of in
    let read = c.in_ok-setting.ensures.ok in
    let more : Adds (given_in c.loop-rest.settings) c.in_ok-setting.setting (given_in c.in_ok-settings.settings) = record {
      none = c.in_ok-settings.ensures.untaken;
      same = c.in_ok-settings.ensures.same;
      others = c.in_ok-settings.ensures.others;
    } in
    record {
      back = λ given h.
          let k = spells_all _ _ _ _ given c.in_ok-setting.setting read.0 read.1 _ more h in
          c.loop-rest.invariant.back given (rw words k);
      on = λ given h.
          let k = rw words at (c.loop-rest.invariant.on given h) in
          spells_more _ _ _ _ given c.in_ok-setting.setting read.0 read.1 _ more k;
      range = stays_in_range _ _ c.in_ok-setting.setting more c.loop-rest.invariant.range read.1;
    }

pub returns-then-not-is_empty-clause-asked : goal.returns-then-not-is_empty-clause-asked
returns-then-not-is_empty-clause-asked c = λ given h.
    let some : 0 < length c.loop-rest.rest.now = grind arith in
    absurd (odd_word _ _ given (omega arith) some (c.loop-rest.invariant.on given h))

pub returns-clause-asked : goal.returns-clause-asked
returns-clause-asked c = λ given h.
    let none : length c.loop-rest.rest.now ≡ 0 = grind arith in
    at_end _ _ given none (c.loop-rest.invariant.on given h)
