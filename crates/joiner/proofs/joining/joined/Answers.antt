use Rattle.std.proofs.Common.{Option, None, option_map, sym, ◌∙◌, true≢false}
use Rattle.joiner.proofs.JoinedLabels.{IsJoined-meeting, law-meeting, IfSome-mapped, IsWithin-tip, IsMeeting}
use Rattle.joiner.specs.LabelJoins.{IsLabelAt}
use Rattle.label.specs.Labels.{path_of}
use Rattle.label.specs.declared.label.Label.{Label}
use Rattle.strip_model.specs.declared.end.End.TheVariants.{Forward, Backward}
use Rattle.joiner.proofs.joining.joined.Goals as goal

pub has_time-requires-clause-forward : goal.has_time-requires-clause-forward
has_time-requires-clause-forward c = IsWithin-tip c.args.instance.now Forward _ c.tip_at-forward.result c.tip_at-forward.ensures

pub has_time-requires-clause-backward : goal.has_time-requires-clause-backward
has_time-requires-clause-backward c = IsWithin-tip c.args.instance.now Backward _ c.tip_at-backward.result c.tip_at-backward.ensures

pub returns-then-not-has_time : goal.returns-then-not-has_time
returns-then-not-has_time c =
    let J = c.args.instance.now in
    let f : Option Label = option_map (λ l. l.now) c.args.f in
    let b : Option Label = option_map (λ l. l.now) c.args.b in
    let s = c.tip_at-forward.result in
    let t = c.tip_at-backward.result in
    let none : IsMeeting J s t None = λ meets. absurd (true≢false (sym (c.has_time.ensures.1 meets.in_time) ∙ c.if-not-has_time.true)) in
    record {
      law = law-meeting J f b (IfSome-mapped (λ l. l.now) (IsLabelAt J Forward) c.args.f c.requires.forward)
          (IfSome-mapped (λ l. l.now) (IsLabelAt J Backward) c.args.b c.requires.backward) s t c.tip_at-forward.ensures c.tip_at-backward.ensures
          None none;
      value = IsJoined-meeting J c.strips.ensures.sound (path_of f) (path_of b) s t c.tip_at-forward.ensures c.tip_at-backward.ensures None none;
    }

pub returns : goal.returns
returns c =
    let J = c.args.instance.now in
    let f : Option Label = option_map (λ l. l.now) c.args.f in
    let b : Option Label = option_map (λ l. l.now) c.args.b in
    let s = c.tip_at-forward.result in
    let t = c.tip_at-backward.result in
    record {
      law = law-meeting J f b (IfSome-mapped (λ l. l.now) (IsLabelAt J Forward) c.args.f c.requires.forward)
          (IfSome-mapped (λ l. l.now) (IsLabelAt J Backward) c.args.b c.requires.backward) s t c.tip_at-forward.ensures c.tip_at-backward.ensures
          c.matching.result c.matching.ensures;
      value = IsJoined-meeting J c.strips.ensures.sound (path_of f) (path_of b) s t c.tip_at-forward.ensures c.tip_at-backward.ensures
          c.matching.result c.matching.ensures;
    }
