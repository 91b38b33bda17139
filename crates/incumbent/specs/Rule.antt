-- The rule of a peak's word: it is the greatest offer, and nobody has seen more.
use Rattle.std.specs.Prelude.{◌≡◌, ℕ, ◌+◌, ◌<◌, ◌≤◌, ◌⊎◌, List, [], ◌∷◌, sum_by}
use mathlib.Core.Option.{some}
use lib.ListN.{get_elem?}
use Rattle.incumbent.specs.declared.knowledge.Knowledge.{Knowledge}
use Rattle.pass_weight.specs.declared.whole_weight.TheConstants.{WHOLE_WEIGHT}
use Rattle.incumbent.specs.Knowledge.{spent}

-- The view stands in the list, at this number.
abbrev pub StandsAt : List Knowledge → ℕ → Knowledge → Type 0
StandsAt views number v = get_elem? views number ≡ some v

-- Each view of the list has the property.
abbrev pub EachView : (Knowledge → Type 0) → List Knowledge → Type 0
EachView Property views = (number : ℕ) (v : Knowledge) → StandsAt views number v → Property v

-- Some view of the list has the property.
abbrev pub SomeView : (Knowledge → Type 0) → List Knowledge → Type 0
SomeView Property views = (number : ℕ) × (v : Knowledge) × StandsAt views number v × Property v

-- The weights of all views together.
abbrev pub total_weight : List Knowledge → ℕ
total_weight views = sum_by (λ v. v.weight) views

-- The word is the greatest offer of all views: none exceeds it, and one is it.
pub record IsGreatestOffer (word : ℕ) (views : List Knowledge) : Type 0 where
  pub none_above : EachView (λ v. v.offered ≤ word) views
  pub offered : SomeView (λ v. v.offered ≡ word) views

-- The rule of a peak, over its word and the views of all its shares.
pub record IsKept (word : ℕ) (views : List Knowledge) : Type 0 where
  pub greatest_offer : IsGreatestOffer word views
  pub none_saw_more : EachView (λ v. v.seen ≤ word) views
  pub whole_weight : total_weight views ≡ WHOLE_WEIGHT
  pub each_weighs : EachView (λ v. (0 < v.weight) ⊎ (v ≡ spent)) views

-- A peak's table has one word, and keeps the rule.
abbrev pub HasOneWord : List ℕ → List Knowledge → Type 0
HasOneWord words views = (word : ℕ) × (words ≡ word ∷ []) × IsKept word views

-- The rule allows this word where a share knows this: some views, the share's among them, keep the rule with it.
abbrev pub IsWordBeside : (word : ℕ) → Knowledge → Type 0
IsWordBeside word v =
    (views : List Knowledge) × (number : ℕ) × StandsAt views number v × IsKept word views
