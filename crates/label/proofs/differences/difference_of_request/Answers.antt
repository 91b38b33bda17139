use Rattle.std.proofs.Common.{refl, sym, ap, ◌∙◌, arith}
use Rattle.label.proofs.SetDifferences.{area_in_set-own, area_in_set_same, own_area, set_difference-none, set_area-room, set_difference-is}
use Rattle.label.specs.Gaining.{set_area}
use Rattle.strip_model.specs.Orbit.{Orbit}
use Rattle.strip_model.specs.Gain.{whole_area}
use Rattle.label.proofs.differences.difference_of_request.Goals as goal

pub returns-then-eq-clause-value : goal.returns-then-eq-clause-value
returns-then-eq-clause-value c =
    let J = c.args.side.now.instance in
    let r = c.args.request in
    let own = c.strips_of-own.result in
    sym (set_difference-none J c.args.b c.args.a (set_area J c.args.room) r
    (sym (area_in_set-own J r c.args.b own c.meet.result c.strips_of-own.ensures c.meet.ensures.members)
    ∙ area_in_set_same J c.meet.result c.meet-2.result (c.if-eq.ensures.members.0 refl)
    ∙ area_in_set-own J r c.args.a own c.meet-2.result c.strips_of-own.ensures c.meet-2.ensures.members))

pub worst_difference-least-requires-clause-first : goal.worst_difference-least-requires-clause-first
worst_difference-least-requires-clause-first c =
    let J = c.args.side.now.instance in
    let K = c.instance-instance.result.now in
    let r = c.args.request in
    let own = c.strips_of-own.result in
    let this = c.instance-instance.ensures.value in
    let own_is = c.strips_of-own.ensures in
    omega (
      arith,
      ap (λ (I : Orbit). whole_area I r) this,
      own_area J K r c.area_of_strips-first.result c.args.b own c.meet-3.result this c.area_of_strips-first.ensures.value own_is c.meet-3.ensures.members,
      own_area J K r c.area_of_strips-added.result c.args.room own c.meet-5.result this c.area_of_strips-added.ensures.value own_is c.meet-5.ensures.members,
      set_area-room J c.args.b c.args.room r c.requires.b_apart,
    )

pub worst_difference-least-requires-clause-second : goal.worst_difference-least-requires-clause-second
worst_difference-least-requires-clause-second c =
    let J = c.args.side.now.instance in
    let K = c.instance-instance.result.now in
    let r = c.args.request in
    let own = c.strips_of-own.result in
    let this = c.instance-instance.ensures.value in
    let own_is = c.strips_of-own.ensures in
    omega (
      arith,
      ap (λ (I : Orbit). whole_area I r) this,
      own_area J K r c.area_of_strips-second.result c.args.a own c.meet-4.result this c.area_of_strips-second.ensures.value own_is c.meet-4.ensures.members,
      own_area J K r c.area_of_strips-added.result c.args.room own c.meet-5.result this c.area_of_strips-added.ensures.value own_is c.meet-5.ensures.members,
      set_area-room J c.args.a c.args.room r c.requires.a_apart,
    )

pub returns-clause-value : goal.returns-clause-value
returns-clause-value c =
    let J = c.args.side.now.instance in
    let K = c.instance-instance.result.now in
    let r = c.args.request in
    let own = c.strips_of-own.result in
    let this = c.instance-instance.ensures.value in
    let own_is = c.strips_of-own.ensures in
    let least = c.worst_difference-least.ensures in
    let weighted = c.weighted.ensures in
    set_difference-is J K c.args.b c.args.a c.args.room r c.from.result c.requests.result.now
    c.area_of_strips-first.result c.area_of_strips-second.result c.area_of_strips-added.result c.worst_difference-least.result c.weighted.result
    this c.requests.ensures.value c.from.ensures
    (own_area J K r c.area_of_strips-first.result c.args.b own c.meet-3.result this c.area_of_strips-first.ensures.value own_is c.meet-3.ensures.members)
    (own_area J K r c.area_of_strips-second.result c.args.a own c.meet-4.result this c.area_of_strips-second.ensures.value own_is c.meet-4.ensures.members)
    (own_area J K r c.area_of_strips-added.result c.args.room own c.meet-5.result this c.area_of_strips-added.ensures.value own_is c.meet-5.ensures.members)
    least.value least.at_least least.at_most weighted.value weighted.at_least weighted.at_most
