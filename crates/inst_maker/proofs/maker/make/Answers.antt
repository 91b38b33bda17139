use Rattle.std.proofs.Common.{◌≡◌, ◌≤◌, ◌*◌, List, length, map, sym, ◌∙◌, ap, arith}
use Rattle.std.proofs.lemmas.List.Elements.{All-same}
use Rattle.std.proofs.lemmas.List.{length-map}
use Rattle.manoeuvre.specs.declared.limits.TheConstants.{MAX_MANOEUVRE}
use Rattle.strip_model.specs.Orbit.{Orbit}
use Rattle.strip_model.specs.Refusal.{durations_of}
use Rattle.strip_model.proofs.Durations.{length-durations_of}
use Rattle.inst_maker.specs.declared.placed.Placed.{Placed}
use Rattle.inst_maker.proofs.Strips.{AreMade-in_order, all_early, limits_kept, offsets_near}
use Rattle.inst_maker.proofs.TwinRule.{twins_kept}
use Rattle.inst_maker.proofs.TimeRules.{entries_small, none_broken}
use Rattle.inst_maker.proofs.Whole.{made_is}
use Rattle.inst_maker.proofs.maker.make.Goals as goal

pub manoeuvre_times-requires : goal.manoeuvre_times-requires
manoeuvre_times-requires c =
    let made = AreMade-in_order c.args.size _ c.in_ok-placed.placed.items c.requires c.in_ok-placed.ensures in
    omega (arith, made.few, made.count, ap length c.deref.ensures.value)

pub new-requires-clause-limits : goal.new-requires-clause-limits
new-requires-clause-limits c =
    let made = AreMade-in_order c.args.size _ c.deref-2.result.now c.requires (c.deref-2.ensures.value ∙ c.in_ok-placed.ensures) in
    limits_kept c.args.size _ _ _ _ _ c.div_ceil.ensures c.in_ok-requests.ensures.requests made c.in_ok-strips.ensures

pub new-requires-clause-twins : goal.new-requires-clause-twins
new-requires-clause-twins c =
    let made = AreMade-in_order c.args.size _ c.deref-2.result.now c.requires (c.deref-2.ensures.value ∙ c.in_ok-placed.ensures) in
    twins_kept c.args.size _ _ made c.in_ok-strips.ensures

pub new-requires-clause-entries : goal.new-requires-clause-entries
new-requires-clause-entries c =
    let made = AreMade-in_order c.args.size _ c.deref.result.now c.requires (c.deref.ensures.value ∙ c.in_ok-placed.ensures) in
    All-same (λ m. m ≤ MAX_MANOEUVRE) _ _ (c.deref-3.ensures.value ∙ c.in_ok-times.ensures) (entries_small (2 * length c.deref.result.now) _ (offsets_near c.args.size _ made))

pub returns-in-Ok-clause-made : goal.returns-in-Ok-clause-made
returns-in-Ok-clause-made c =
    let placed = c.deref.result.now in
    let same : c.deref-2.result.now ≡ placed = c.deref-2.ensures.value ∙ sym c.deref.ensures.value in
    c.in-Ok.ensures.made
    ∙ made_is c.args.seed c.args.size _ _ _ _ placed _ _ c.div_ceil.ensures c.new-draws.ensures c.in_ok-requests.ensures.requests c.in_ok-requests.ensures.state
    (c.deref.ensures.value ∙ c.in_ok-placed.ensures)
    (c.in_ok-strips.ensures ∙ ap (λ (placed : List Placed). map (λ p. p.strip) placed) same)
    (c.deref-3.ensures.value ∙ c.in_ok-times.ensures)

pub returns-in-Ok-clause-windows : goal.returns-in-Ok-clause-windows
returns-in-Ok-clause-windows c =
    let made = AreMade-in_order c.args.size _ c.deref-2.result.now c.requires (c.deref-2.ensures.value ∙ c.in_ok-placed.ensures) in
    all_early c.args.size c.deref-2.result.now c.in-Ok.instance.strips made (ap (λ (J : Orbit). J.strips) c.in-Ok.ensures.made ∙ c.in_ok-strips.ensures)

pub unreachable-requires : goal.unreachable-requires
unreachable-requires c =
    let refused = rw c.in-Err-Table.field-0-is at c.in-Err-Table.ensures.refused in
    let same : c.deref-2.result.now ≡ c.deref.result.now = c.deref-2.ensures.value ∙ sym c.deref.ensures.value in
    let strips = c.in_ok-strips.strips.items in
    let count : 2 * length c.deref.result.now ≡ length (durations_of strips) =
    omega (arith, length-durations_of strips, ap length c.in_ok-strips.ensures, length-map c.deref-2.result.now (λ p. p.strip), ap length same) in
    none_broken (map (λ p. p.offset) c.deref.result.now) (durations_of strips) c.deref-3.result.now (2 * length c.deref.result.now) count
    (c.deref-3.ensures.value ∙ c.in_ok-times.ensures) c.in-Err-Table.field-0-0 refused.0 refused.1
