use Rattle.std.proofs.Common.{◌≤◌, All, get_or, rules}
use Rattle.std.proofs.lemmas.List.Sorted.{IsNonDecreasingBy-from_sort_by_key}
use Rattle.joiner.proofs.Gathering.{IsGathered-permutation, All-gathered, All-last}
use Rattle.joiner.proofs.Looking.{value-le}
use Rattle.joiner.specs.Entries.{IsSound}
use Rattle.joiner.specs.Grouping.{IsGathered}
use Rattle.strip_model.specs.declared.limits.TheConstants.{MAX_TOTAL_GAIN}
use Rattle.joiner.specs.declared.entry.Entry.{Entry}
use Rattle.joiner.proofs.grouping.group_of.Goals as goal

pub greatest_value-greatest-requires : goal.greatest_value-greatest-requires
greatest_value-greatest-requires c =
    let J = c.args.instance.now in
    let es = c.args.entries.now in
    let waiting = c.sort_by_key.new.self.items in
    let P : Entry → Type 0 = λ w. w.value ≤ MAX_TOTAL_GAIN in
    let gathered : IsGathered es c.args.y waiting =
    IsGathered-permutation es c.args.y c.in_ok-waiting.waiting.items waiting c.in_ok-sort_by_key.ensures.permutation c.in_ok-waiting.ensures in
    let small : All P es = λ k d l. value-le J c.strips.ensures.sound (get_or es k d) (c.requires k d l) in
    rw c.deref.ensures.value (All-gathered P es c.args.y waiting gathered small)

pub returns-clause-group : goal.returns-clause-group
returns-clause-group c =
    let waiting = c.sort_by_key.new.self.items in
    let gathered : IsGathered c.args.entries.now c.args.y waiting =
    IsGathered-permutation c.args.entries.now c.args.y c.in_ok-waiting.waiting.items waiting c.in_ok-sort_by_key.ensures.permutation c.in_ok-waiting.ensures in
    record {
      sound = All-gathered (IsSound c.args.instance.now) c.args.entries.now c.args.y waiting gathered c.requires;
      last = All-last c.args.entries.now c.args.y waiting gathered;
      rising = IsNonDecreasingBy-from_sort_by_key (λ (w : Entry). w.over) waiting c.in_ok-sort_by_key.ensures.sorted (λ a r q k. search rules);
      greatest = rw c.deref.ensures.value at c.greatest_value-greatest.ensures.greatest;
      small = c.greatest_value-greatest.ensures.small;
    }

pub returns-clause-gathered : goal.returns-clause-gathered
returns-clause-gathered c =
    IsGathered-permutation c.args.entries.now c.args.y c.in_ok-waiting.waiting.items c.sort_by_key.new.self.items c.in_ok-sort_by_key.ensures.permutation
    c.in_ok-waiting.ensures
