-- Each step of a peak keeps its rule.
use Rattle.std.proofs.Common.{◌≡◌, ◌≢◌, ◌⊎◌, ℕ, zero, suc, ◌<◌, ◌≤◌, List, [], ◌∷◌, set, max, refl, sym, ap, ◌∙◌, subst, inl, inr, ⊎_elim, arith}
use Rattle.std.specs.Prelude.{slice_index, slice_set}
use Rattle.std.proofs.lemmas.List.Sums.{sum_by_push}
use mathlib.Core.Option.{none, some-ne-none, some-injective}
use mathlib.Core.Logic.{dite}
use native.Mathlib.Decide.{dec_le, ℕ_discrete}
use Rattle.atomic_table.specs.Table.{State, Me, Act, step, keeps, Valid, carried_after, Allows, Splits, Joins}
use Rattle.atomic_table.proofs.Lists.{at_set, set_here, set_else}
use Rattle.incumbent.specs.declared.knowledge.Knowledge.{Knowledge}
use Rattle.pass_weight.specs.declared.whole_weight.TheConstants.{WHOLE_WEIGHT}
use Rattle.incumbent.specs.Knowledge.{first_of, after_see, after_offer, after_split, split_off, together, spent}
use Rattle.incumbent.specs.Rule.{StandsAt, EachView, IsGreatestOffer, IsKept, HasOneWord, IsWordBeside}
use Rattle.incumbent.specs.Steps.{IsFound, Sees, Offers, Weighs}
use Rattle.pass_weight.proofs.Totals.{sum_set, sum_at}
use Rattle.incumbent.proofs.Views.{EachView-set, EachView-snoc, stands_below, stands_once, greatest-grown, greatest-raised, greatest-spent, greatest-snoc}

abbrev Held : State (Unit {0}) Knowledge → Type 0
Held s = HasOneWord s.words s.views

abbrev Seated : Type 0
Seated = Me (Unit {0}) Knowledge

abbrev weight : Knowledge → ℕ
weight v = v.weight

abbrev Weighty : Knowledge → Type 0
Weighty v = (0 < v.weight) ⊎ (v ≡ spent)

only : (P : Knowledge → Type 0) (v : Knowledge) → P v → EachView P (v ∷ [])
only P v p zero u at = subst P (some-injective v u at) p
only P v p (suc n) u at = absurd (some-ne-none u (sym at))

first_kept : (worth : ℕ) → IsKept worth (first_of worth ∷ [])
first_kept worth = record {
  greatest_offer = record {
    none_above = only (λ v. v.offered ≤ worth) (first_of worth) (omega arith);
    offered = (0, first_of worth, refl, refl);
  };
  none_saw_more = only (λ v. v.seen ≤ worth) (first_of worth) (omega arith);
  whole_weight = omega arith;
  each_weighs = only Weighty (first_of worth) (inl (omega arith));
}

pub begins : (worth : ℕ) → HasOneWord (worth ∷ []) (first_of worth ∷ [])
begins worth = (worth, refl, first_kept worth)

pub first_word : (worth told : ℕ) (me : Seated) → me ≡ (first_of told, []) → told ≡ worth → IsWordBeside worth me.0
first_word worth told me is same =
    let Beside : Seated → Type 0 = λ m. IsWordBeside worth m.0 in
    subst Beside (sym (is ∙ ap (λ (n : ℕ). (first_of n, [])) same)) (first_of worth ∷ [], 0, refl, first_kept worth)

-- one view changes, at the same weight, and the word doesn't fall
moves : (old new : ℕ) (views : List Knowledge) (id : ℕ) (v w : Knowledge) → IsKept old views → StandsAt views id v → IsGreatestOffer new (set views id w) → old ≤ new → w.seen ≤ new → w.weight ≡ v.weight → 0 < w.weight → IsKept new (set views id w)
moves old new views id v w kept at greatest up seen same some_weight =
    let sum = sum_set weight views id v w at in
    let all = kept.whole_weight in record {
      greatest_offer = greatest;
      none_saw_more = EachView-set (λ u. u.seen ≤ new) views id w (λ j u there. let h = kept.none_saw_more j u there in omega arith) seen;
      whole_weight = omega arith;
      each_weighs = EachView-set Weighty views id w kept.each_weighs (inl some_weight);
    }

-- a step of one seat may be made where it keeps the rule for the word that it finds, and keeps the slots
allowed : (slots id : ℕ) (me : Seated) (f : ℕ → ℕ) (then : ℕ → Seated → Type 0)
    → ((word : ℕ) (views : List Knowledge) → IsKept word views → StandsAt views id me.0 → (w : Knowledge) × IsKept (f word) (set views id w) × then word (w, me.1))
    → Allows Held slots id me 0 f then
allowed slots id me f then go s kept _ at _ =
    let Goal : List ℕ → Type 0 = λ ws. (w : Knowledge) × (a : Act (Unit {0})) × Valid s.homes me.1 a × HasOneWord (slice_set ws 0 (f (slice_index ws 0))) (set s.views id w) × then (slice_index ws 0) (w, carried_after me.1 a) in
    let t = go kept.0 s.views kept.2 at in
    subst Goal (sym kept.1) (t.0, keeps, tt, (f kept.0, refl, t.1), t.2)

-- beside a view of the whole weight every other one is spent
others_spent : (word : ℕ) (views : List Knowledge) (id j : ℕ) (v u : Knowledge) → IsKept word views → StandsAt views id v → v.weight ≡ WHOLE_WEIGHT → j ≢ id → StandsAt views j u → u ≡ spent
others_spent word views id j v u kept at whole apart there =
    let sum = sum_set weight views id v spent at in
    let part = sum_at weight (set views id spent) j u (set_else views id j spent apart ∙ there) in
    let all = kept.whole_weight in
    ⊎_elim (λ (some_weight : 0 < u.weight). absurd (omega arith)) (λ (is : u ≡ spent). is) (kept.each_weighs j u there)

-- so its offer is the word
last_offer : (word : ℕ) (views : List Knowledge) (id : ℕ) (v : Knowledge) → IsKept word views → StandsAt views id v → v.weight ≡ WHOLE_WEIGHT → word ≡ v.offered
last_offer word views id v kept at whole =
    let top = kept.greatest_offer.offered in
    let most = kept.greatest_offer.none_above id v at in
    let is = top.3 in
    let offer : Knowledge → ℕ = λ u. u.offered in
    dite (ℕ_discrete top.0 id)
    (λ same. sym is ∙ ap offer (stands_once views id top.1 v (subst (λ (n : ℕ). StandsAt views n top.1) same top.2) at))
    (λ other. let nothing = ap offer (others_spent word views id top.0 v top.1 kept at whole other top.2) in omega arith)

-- what a step finds
finds : (word : ℕ) (views : List Knowledge) (id : ℕ) (v : Knowledge) → IsKept word views → StandsAt views id v → IsFound v word
finds word views id v kept at = record {
  seen = kept.none_saw_more id v at;
  offered = kept.greatest_offer.none_above id v at;
  alone = last_offer word views id v kept at;
}

pub sees : (slots id : ℕ) (me : Seated) → 0 < me.0.weight → Allows Held slots id me 0 (λ n. n) (Sees (step slots 0 0 0 none) me)
sees slots id me some_weight =
    allowed slots id me (λ n. n) (Sees (step slots 0 0 0 none) me) (λ word views kept at.
    let mine = kept.greatest_offer.none_above id me.0 at in
    let w = after_see me.0 word in (
      w,
      moves word word views id me.0 w kept at (greatest-grown views word id me.0 w at (omega arith) mine kept.greatest_offer) (omega arith) (omega arith) refl some_weight,
      (refl, finds word views id me.0 kept at),
    ))

pub weighs : (slots id : ℕ) (me : Seated) → 0 < me.0.weight → Allows Held slots id me 0 (λ n. n) (Weighs (step slots 0 0 0 none) me)
weighs slots id me some_weight =
    allowed slots id me (λ n. n) (Weighs (step slots 0 0 0 none) me) (λ word views kept at.
    let mine = kept.greatest_offer.none_above id me.0 at in
    let part = sum_at weight views id me.0 at in
    let all = kept.whole_weight in (
      me.0,
      moves word word views id me.0 me.0 kept at (greatest-grown views word id me.0 me.0 at (omega arith) mine kept.greatest_offer) (omega arith) (kept.none_saw_more id me.0 at) refl some_weight,
      (refl, omega arith),
    ))

-- the greatest offer after an offer of this worth
after : (views : List Knowledge) (word worth id : ℕ) (v : Knowledge) → StandsAt views id v → IsGreatestOffer word views → IsGreatestOffer (max word worth) (set views id (after_offer v worth word))
after views word worth id v at old =
    let mine = old.none_above id v at in
    let w = after_offer v worth word in
    let Greatest : ℕ → Type 0 = λ n. IsGreatestOffer n (set views id w) in
    dite (dec_le worth word)
    (λ less. subst Greatest (let e : word ≡ max word worth = omega arith in e) (greatest-grown views word id v w at (omega arith) (omega arith) old))
    (λ more. subst Greatest (let e : max v.offered worth ≡ max word worth = omega arith in e) (greatest-raised views word id v w at (omega arith) old))

pub offers : (slots id worth : ℕ) (me : Seated) → 0 < me.0.weight → Allows Held slots id me 0 (λ n. max n worth) (Offers (step slots 0 worth 0 none) me)
offers slots id worth me some_weight =
    allowed slots id me (λ n. max n worth) (Offers (step slots 0 worth 0 none) me) (λ word views kept at.
    let w = after_offer me.0 worth word in (
      w,
      moves word (max word worth) views id me.0 w kept at (after views word worth id me.0 at kept.greatest_offer) (omega arith) (omega arith) refl some_weight,
      (refl, finds word views id me.0 kept at),
    ))

pub splits : (id worth : ℕ) (v : Knowledge) → worth ≤ v.seen → 2 ≤ v.weight → Splits Held id v (after_split v) (split_off worth v)
splits id worth v seen room s held at =
    let word = held.0 in
    let kept = held.2 in
    let old = after_split v in
    let new = split_off worth v in
    let mine = kept.greatest_offer.none_above id v at in
    let saw = kept.none_saw_more id v at in
    let sum = sum_set weight s.views id v old at in
    let more = sum_by_push weight (set s.views id old) new in
    let all = kept.whole_weight in (
      word,
      held.1,
      record {
        greatest_offer = greatest-snoc (set s.views id old) word new (omega arith) (greatest-grown s.views word id v old at (omega arith) mine kept.greatest_offer);
        none_saw_more = EachView-snoc (λ u. u.seen ≤ word) (set s.views id old) new (EachView-set (λ u. u.seen ≤ word) s.views id old kept.none_saw_more saw) saw;
        whole_weight = omega arith;
        each_weighs = EachView-snoc Weighty (set s.views id old) new (EachView-set Weighty s.views id old kept.each_weighs (inl (omega arith))) (inl (omega arith));
      },
    )

pub joins : (id other : ℕ) (v w : Knowledge) → 0 < v.weight → Joins Held id v other w (together v w) spent
joins id other v w some_weight s held at apart there =
    let word = held.0 in
    let kept = held.2 in
    let both = together v w in
    let one = set s.views id both in
    let was : StandsAt s.views other w =
    ⊎_elim (λ (t : (other ≡ id) × (both ≡ w)). absurd (apart t.0)) (λ (t : (other ≢ id) × StandsAt s.views other w). t.1) (at_set s.views id other both w there) in
    let mine = kept.greatest_offer.none_above id v at in
    let theirs = kept.greatest_offer.none_above other w was in
    let saw = kept.none_saw_more id v at in
    let they_saw = kept.none_saw_more other w was in
    let sum = sum_set weight s.views id v both at in
    let rest = sum_set weight one other w spent there in
    let all = kept.whole_weight in (
      word,
      held.1,
      record {
        greatest_offer =
            greatest-spent one word id other both w spent (set_here s.views id both (stands_below s.views id v at)) apart there (omega arith) (omega arith)
            (greatest-grown s.views word id v both at (omega arith) (omega arith) kept.greatest_offer);
        none_saw_more = EachView-set (λ u. u.seen ≤ word) one other spent (EachView-set (λ u. u.seen ≤ word) s.views id both kept.none_saw_more (omega arith)) (omega arith);
        whole_weight = omega arith;
        each_weighs = EachView-set Weighty one other spent (EachView-set Weighty s.views id both kept.each_weighs (inl (omega arith))) (inr refl);
      },
    )

pub ends : (words : List ℕ) (views : List Knowledge) (id worth : ℕ) (v : Knowledge) → HasOneWord words views → StandsAt views id v → v.weight ≡ WHOLE_WEIGHT → v.offered ≡ worth → IsWordBeside worth v × (v.seen ≤ worth)
ends words views id worth v held at whole is =
    let word : held.0 ≡ worth = last_offer held.0 views id v held.2 at whole ∙ is in
    let kept : IsKept worth views = subst (λ (n : ℕ). IsKept n views) word held.2 in
    ((views, id, at, kept), kept.none_saw_more id v at)
