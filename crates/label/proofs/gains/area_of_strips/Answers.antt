use Rattle.std.proofs.Common.{◌≡◌, length, ap, ◌∙◌, List, arith}
use Rattle.label.proofs.SetSums.{IsAdding-step, IsAdding-within, IsAdding-end, area_at-past}
use Rattle.label.proofs.Values.{area_in_set-le}
use Rattle.strip_model.specs.Orbit.{area_at, strip_in}
use Rattle.strip_model.specs.declared.strip.Strip.{Strip}
use Rattle.label.proofs.gains.area_of_strips.Goals as goal

pub overflow_add-area : goal.overflow_add-area
overflow_add-area c =
    let J = c.args.instance.now in
    let i = c.in-Some.strip in
    let so_far = rw c.in-Some.ensures.steps at c.loop-strip.invariant in
    let area : c.area_of_strip-area.result ≡ area_at J i = c.area_of_strip-area.ensures ∙ ap (λ (ss : List Strip). (strip_in ss i).area) c.strips-strips.ensures.value in
    omega (
      arith,
      IsAdding-within (length J.strips) (area_at J) c.args.set c.next.new.self c.loop-strip.area i so_far (area_at-past J i),
      area_in_set-le J c.args.set c.strips-strips.ensures.sound,
      area,
    )

pub loop-strip-preserved : goal.loop-strip-preserved
loop-strip-preserved c =
    let J = c.args.instance.now in
    let i = c.in-Some.strip in
    let so_far = rw c.in-Some.ensures.steps at c.loop-strip.invariant in
    let area : c.area_of_strip-area.result ≡ area_at J i = c.area_of_strip-area.ensures ∙ ap (λ (ss : List Strip). (strip_in ss i).area) c.strips-strips.ensures.value in
    rw area (IsAdding-step (length J.strips) (area_at J) c.args.set c.next.new.self c.loop-strip.area i so_far (area_at-past J i))

pub returns : goal.returns
returns c =
    let J = c.args.instance.now in
    let end = IsAdding-end (length J.strips) (area_at J) c.args.set c.loop-strip.strip-iterator c.loop-strip.area c.loop-strip.invariant c.in-None.ensures.steps.0 in
    record { value = end; bound = omega (arith, end, area_in_set-le J c.args.set c.strips-strips.ensures.sound) }
