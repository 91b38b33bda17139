use Rattle.std.proofs.Common.{◌≡◌, ◌<◌, ◌≤◌, ◌∙◌, ap, length, true, false, arith}
use Rattle.std.proofs.lemmas.Grind.{common_steps}
use Rattle.strip_model.proofs.InTime.{IsInTime-push, no_strip_follows, none_follows_twice, none_follows_late, HasEarliestStarts-push}
use Rattle.strip_model.proofs.LastPlaces.{place_of-plan}
use Rattle.strip_model.specs.Directed.{strip_of, has_strip}
use Rattle.strip_model.specs.Orbit.{late_at}
use Rattle.strip_model.specs.Plan.{order_of}
use Rattle.strip_model.specs.Starts.{Place, arrive}
use Rattle.strip_model.specs.declared.window.Window.{Window}
use Rattle.strip_model.proofs.next.following.Goals as goal
use Rattle.strip_model.proofs.next.following.Goals.{then-from-strips-via-then-from-strips, then-from-strips-via-else-from-strips+then-has_strip}

pub returns-then-from-strips-clause-none : goal.returns-then-from-strips-clause-none
returns-then-from-strips-clause-none c =
    let J = c.args.instance.now in
    let order = order_of c.args.plan.now in
    let x = c.args.x in
    elim c.then-from-strips.branch [
      | then-from-strips-via-then-from-strips w ↦
          let none : length J.strips ≤ strip_of x = grind (arith, common_steps) in no_strip_follows J order x none
      | then-from-strips-via-else-from-strips+then-has_strip w ↦
          let twice : has_strip (strip_of x) order ≡ true = grind (arith, common_steps) in none_follows_twice J order x twice
    ]

pub returns-then-start-from-clause-none : goal.returns-then-start-from-clause-none
returns-then-start-from-clause-none c =
    let J = c.args.instance.now in
    let plan = c.args.plan.now in
    let x = c.args.x in
    let starts = c.earliest_start-start.ensures ∙ ap (λ (q : Place). arrive J q x) (place_of-plan J plan c.requires.starts) in
    let ends : c.from-2.result ≡ late_at J x = c.from-2.ensures ∙ ap (λ (w : Window). w.late) c.window.ensures.value in
    none_follows_late J (order_of plan) x c.earliest_start-start.result c.from-2.result starts ends c.if-start-from.true

pub returns-clause-in_time : goal.returns-clause-in_time
returns-clause-in_time c =
    let J = c.args.instance.now in
    let plan = c.args.plan.now in
    let x = c.args.x in
    let starts = c.earliest_start-start.ensures ∙ ap (λ (q : Place). arrive J q x) (place_of-plan J plan c.requires.starts) in
    let ends : c.from-2.result ≡ late_at J x = c.from-2.ensures ∙ ap (λ (w : Window). w.late) c.window.ensures.value in
    let exists : strip_of x < length J.strips = grind (arith, common_steps) in
    let new : has_strip (strip_of x) (order_of plan) ≡ false = grind (arith, common_steps) in
    IsInTime-push J (order_of plan) x c.requires.in_time exists new c.earliest_start-start.result c.from-2.result starts ends c.if-start-from.false

pub returns-clause-starts : goal.returns-clause-starts
returns-clause-starts c =
    let J = c.args.instance.now in
    let plan = c.args.plan.now in
    let starts = c.earliest_start-start.ensures ∙ ap (λ (q : Place). arrive J q c.args.x) (place_of-plan J plan c.requires.starts) in
    HasEarliestStarts-push J plan c.earliest_start-start.result c.args.x c.requires.starts starts
