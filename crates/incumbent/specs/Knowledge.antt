-- What a share knows of the word: at first, and after each call.
use Rattle.std.specs.Prelude.{ℕ, ◌+◌, ◌-◌, ◌/◌, max}
use Rattle.incumbent.specs.declared.knowledge.Knowledge.{Knowledge}
use Rattle.pass_weight.specs.declared.whole_weight.TheConstants.{WHOLE_WEIGHT}

-- What the first share knows: it has offered and seen the worth of its plan, and has the whole weight.
abbrev pub first_of : ℕ → Knowledge
first_of worth = record { seen = worth; offered = worth; weight = WHOLE_WEIGHT }

-- What a share knows after it saw the word.
abbrev pub after_see : Knowledge → (word : ℕ) → Knowledge
after_see v word = record { seen = word; offered = v.offered; weight = v.weight }

-- What a share knows after an offer that found this word.
abbrev pub after_offer : Knowledge → (worth word : ℕ) → Knowledge
after_offer v worth word =
    record { seen = max word worth; offered = max v.offered worth; weight = v.weight }

-- What a share knows after it gave half of its weight, rounded down, to a new share.
abbrev pub after_split : Knowledge → Knowledge
after_split v = record { seen = v.seen; offered = v.offered; weight = v.weight - v.weight / 2 }

-- What the new share knows: it has seen as much, and its plan counts as offered.
abbrev pub split_off : (worth : ℕ) → Knowledge → Knowledge
split_off worth v = record { seen = v.seen; offered = worth; weight = v.weight / 2 }

-- What a share knows after another was joined into it.
abbrev pub together : Knowledge → Knowledge → Knowledge
together v w =
    record { seen = max v.seen w.seen; offered = max v.offered w.offered; weight = v.weight + w.weight }

-- What is left of the other: nothing, with no weight.
abbrev pub spent : Knowledge
spent = record { seen = 0; offered = 0; weight = 0 }
