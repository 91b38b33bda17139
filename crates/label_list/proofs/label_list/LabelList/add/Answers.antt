use Rattle.std.proofs.Common.{arith, ◌≡◌, ◌<◌, length, ap, sym, ◌∙◌, subst}
use Rattle.label.specs.Labels.{IsLabelOf}
use Rattle.label.specs.declared.limits.TheConstants.{MAX_LISTED}
use Rattle.label_list.specs.Labels.{Listed}
use Rattle.label_list.specs.Records.{paths_in}
use Rattle.label_list.specs.declared.record.Record.{Record}
use Rattle.label_list.specs.declared.state.State.TheVariants.{Waiting}
use Rattle.label_list.proofs.Records.{listed-added, Keeps-added, length-kept, within-kept}
use Rattle.label_list.proofs.label_list.LabelList.add.Goals as goal
use Rattle.strip_model.specs.Side.{Face}

pub invariant_of-self-2 : goal.invariant_of-self-2
invariant_of-self-2 c =
    let S : Face = c.self.inside.side.now in
    let r : Record = record { from = c.len-from.result; to = c.len.result; state = Waiting; brief = c.brief.result } in
    let label_of : IsLabelOf S c.args.label.now = subst (λ (face : Face). IsLabelOf face c.args.label.now) (sym (ap (λ (l : Listed). l.face) c.self.view_is)) c.requires.label in
    let as_many : length c.self.inside.records.items ≡ length c.args.self.now.labels
    = length-kept S c.self.inside.steps.items c.self.inside.records.items c.args.self.now c.self.view_is in
    let few : length c.self.inside.records.items < MAX_LISTED = omega (arith, as_many, c.requires.few) in
    Keeps-added S c.self.inside.steps.items c.reserve-2.new.self.items c.put_all.new.steps.items c.path-3.result.now c.path-2.result.now
    c.args.label.now.path.items c.self.inside.records.items c.reserve.new.self.items c.put.new.items.items r c.self.inside.index c.add.new.self
    c.reserve-2.ensures.items c.put_all.ensures c.path-3.ensures c.reserve.ensures.items c.put.ensures c.self.invariant few
    (c.len-from.ensures ∙ c.reserve-2.new.self.ok.0) (c.len.ensures ∙ c.put_all.new.steps.ok.0) label_of.path (c.brief.ensures S label_of) c.path-2.ensures
    (c.in_ok-add.ensures.added (paths_in c.self.inside.steps.items c.self.inside.records.items) c.self.invariant.index_of)

pub returns : goal.returns
returns c =
    let S : Face = c.self.inside.side.now in
    let r : Record = record { from = c.len-from.result; to = c.len.result; state = Waiting; brief = c.brief.result } in (
      c.len-id.ensures ∙ c.self.inside.records.ok.0
          ∙ length-kept S c.self.inside.steps.items c.self.inside.records.items c.args.self.now c.self.view_is,
      listed-added S c.self.inside.steps.items c.reserve-2.new.self.items c.put_all.new.steps.items c.path-3.result.now c.args.label.now.path.items
          c.self.inside.records.items c.reserve.new.self.items c.put.new.items.items r c.args.self.now c.reserve-2.ensures.items c.put_all.ensures
          c.path-3.ensures c.reserve.ensures.items c.put.ensures c.self.view_is
          (within-kept S c.self.inside.steps.items c.self.inside.records.items c.self.invariant.records)
          (c.len-from.ensures ∙ c.reserve-2.new.self.ok.0) (c.len.ensures ∙ c.put_all.new.steps.ok.0),
    )
