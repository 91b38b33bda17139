use Rattle.std.proofs.Common.{◌≡◌, Bor, List, All, map, length, Option, sym, ◌∙◌, ap, subst, arith}
use Rattle.std.proofs.lemmas.List.{length-map}
use Rattle.std.proofs.lemmas.Result.{IfOk-weaker}
use Rattle.closer.proofs.Joined.{IsLabelAt-backward, IsBest-same}
use Rattle.joiner.specs.Pairs.{IsBest}
use Rattle.joiner.specs.declared.pair.Pair.{Pair}
use Rattle.label.specs.Labels.{IsLabelOf}
use Rattle.label.specs.declared.label.Label.{Label}
use Rattle.strip_model.specs.Plan.{gain_of}
use Rattle.strip_model.specs.Side.{Face, face_of}
use Rattle.strip_model.specs.declared.end.End.TheVariants.{Forward}
use Rattle.closer.proofs.joining.pair_of.Goals as goal

pub best_of-requires-clause-forward : goal.best_of-requires-clause-forward
best_of-requires-clause-forward g c =
    let same : map (λ (l : Bor Label). l.now) c.deref.result.now ≡ c.args.forward.now =
    ap (λ (ls : List (Bor Label)). map (λ (l : Bor Label). l.now) ls) c.deref.ensures.value ∙ c.in_ok-firsts.ensures in
    subst (λ (S : Face). All (IsLabelOf S) (map (λ (l : Bor Label). l.now) c.deref.result.now)) (sym c.side.ensures)
    (subst (λ (ls : List Label). All (IsLabelOf (face_of c.args.core.now.instance c.args.core.now.cut Forward)) ls) (sym same) c.requires.forward)

pub best_of-requires-clause-backward : goal.best_of-requires-clause-backward
best_of-requires-clause-backward g c =
    IsLabelAt-backward c.args.core.now c.side.result.now.instance (map (λ (l : Bor Label). l.now) c.deref-2.result.now) c.args.backward.now
    (ap (λ (S : Face). S.instance) c.side.ensures)
    (ap (λ (ls : List (Bor Label)). map (λ (l : Bor Label). l.now) ls) c.deref-2.ensures.value ∙ c.in_ok-seconds.ensures) c.requires.backward

pub best_of-requires-clause-few_forward : goal.best_of-requires-clause-few_forward
best_of-requires-clause-few_forward g c =
    let same : map (λ (l : Bor Label). l.now) c.deref.result.now ≡ c.args.forward.now =
    ap (λ (ls : List (Bor Label)). map (λ (l : Bor Label). l.now) ls) c.deref.ensures.value ∙ c.in_ok-firsts.ensures in
    omega (arith, length-map c.deref.result.now (λ l. l.now), ap (λ (ls : List Label). length ls) same, c.requires.few_forward)

pub best_of-requires-clause-few_backward : goal.best_of-requires-clause-few_backward
best_of-requires-clause-few_backward g c =
    let same : map (λ (l : Bor Label). l.now) c.deref-2.result.now ≡ c.args.backward.now =
    ap (λ (ls : List (Bor Label)). map (λ (l : Bor Label). l.now) ls) c.deref-2.ensures.value ∙ c.in_ok-seconds.ensures in
    omega (arith, length-map c.deref-2.result.now (λ l. l.now), ap (λ (ls : List Label). length ls) same, c.requires.few_backward)

pub returns : goal.returns
returns g c =
    let now : List (Bor Label) → List Label = λ ls. map (λ (l : Bor Label). l.now) ls in
    let firsts : now c.deref.result.now ≡ c.args.forward.now = ap now c.deref.ensures.value ∙ c.in_ok-firsts.ensures in
    let seconds : now c.deref-2.result.now ≡ c.args.backward.now = ap now c.deref-2.ensures.value ∙ c.in_ok-seconds.ensures in
    IfOk-weaker c.best_of.result
    (λ (answer : Option Pair). IsBest c.side.result.now.instance (now c.deref.result.now) (now c.deref-2.result.now) c.gain.result answer)
    (λ (answer : Option Pair). IsBest c.args.core.now.instance c.args.forward.now c.args.backward.now (gain_of c.args.core.now.instance c.args.core.now.state.incumbent) answer)
    (λ answer best. IsBest-same c.args.core.now c.side.result.now.instance (now c.deref.result.now) c.args.forward.now (now c.deref-2.result.now) c.args.backward.now
    c.gain.result answer (ap (λ (S : Face). S.instance) c.side.ensures) firsts seconds c.gain.ensures.value best)
    c.best_of.ensures
