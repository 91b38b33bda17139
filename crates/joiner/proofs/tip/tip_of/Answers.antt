use Rattle.std.proofs.Common.{◌<◌, ℕ, ◌+◌, List, length, sym, ◌∙◌, ap, subst, arith}
use Rattle.joiner.proofs.LabelEnds.{EndsWithin-label, open_exist, small, IsTipOf-label}
use Rattle.strip_model.specs.Directed.{strip_of, has_strip}
use Rattle.strip_model.specs.Orbit.{duration_at}
use Rattle.strip_model.specs.declared.window.Window.{Window}
use Rattle.joiner.proofs.tip.tip_of.Goals as goal

pub window-duration-requires : goal.window-duration-requires
window-duration-requires c =
    let ends = EndsWithin-label c.args.instance.now c.strips.ensures.sound c.args.end c.args.label.now c.requires in
    let n = length c.args.instance.now.strips in
    subst (λ (x : ℕ). strip_of x < n) (sym c.last-last.ensures) ends.exist

pub overflow_add-result : goal.overflow_add-result
overflow_add-result c =
    let l = c.args.label.now in
    let within = small c.args.instance.now c.strips.ensures.sound l.start l.last c.start_of_last.result c.last-last.result c.window-duration.result.duration
    (EndsWithin-label c.args.instance.now c.strips.ensures.sound c.args.end l c.requires) c.start_of_last.ensures c.last-last.ensures
    (ap (λ (w : Window). w.duration) c.window-duration.ensures.value) in
    omega (arith, within)

pub waiting-requires : goal.waiting-requires
waiting-requires c = open_exist c.args.instance.now c.strips.ensures.sound c.args.end c.args.label.now c.open.result c.open.ensures c.requires

pub returns : goal.returns
returns c =
    let J = c.args.instance.now in
    let l = c.args.label.now in
    let d = c.window-duration.result.duration in
    IsTipOf-label J c.strips.ensures.sound c.args.end l
    (record { last = c.last-last.result; over = c.start_of_last.result + d; strips = c.strips-2.result; twins = c.waiting.result })
    d c.open.result c.requires c.last-last.ensures (ap (λ (s : ℕ). s + d) c.start_of_last.ensures)
    (ap (λ (w : Window). w.duration) c.window-duration.ensures.value ∙ ap (λ (x : ℕ). duration_at J x) c.last-last.ensures)
    (λ i. c.strips-2.ensures.strips i ∙ ap (λ (xs : List ℕ). has_strip i xs) c.visited.ensures)
    c.open.ensures (c.waiting.ensures l.path.items)
