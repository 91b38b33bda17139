use Rattle.std.proofs.Common.{length, sym, ◌∙◌, ap}
use Rattle.strip_model.proofs.LastPlaces.{IsLast-get, last_exists, place_of-last}
use Rattle.strip_model.specs.Starts.{Place, arrive}
use Rattle.strip_model.proofs.next.earliest_start.Goals as goal

pub arrive_after-requires-clause-from : goal.arrive_after-requires-clause-from
arrive_after-requires-clause-from c =
    let last = IsLast-get c.args.plan.now c.in-Some.last.now (sym c.in-Some.ensures.value) in
    last_exists (length c.args.instance.now.strips) c.args.plan.now c.in-Some.last.now c.requires.exist last

pub returns-in-Some : goal.returns-in-Some
returns-in-Some c =
    let last = IsLast-get c.args.plan.now c.in-Some.last.now (sym c.in-Some.ensures.value) in
    c.arrive_after.ensures.value
    ∙ ap (λ (q : Place). arrive c.args.instance.now q c.args.x) (sym (place_of-last c.args.plan.now c.in-Some.last.now last))
