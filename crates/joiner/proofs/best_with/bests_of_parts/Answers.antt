use Rattle.std.proofs.Common.{◌*◌, Bor, List, None, Ok, All, map, ap, subst, sym, ◌∙◌, arith}
use Rattle.std.proofs.lemmas.List.{length-map}
use Rattle.std.proofs.lemmas.Option.{slice_get_within, get_or_from_slice_get}
use Rattle.std.proofs.lemmas.Result.{IfOk-at_ok}
use Rattle.joiner.proofs.Parts.{All-part, map-part}
use Rattle.joiner.specs.Pairs.{IsBest}
use Rattle.joiner.specs.Parts.{IsBestInGroups}
use Rattle.label.specs.Labels.{IsLabelOf}
use Rattle.label.specs.declared.label.Label.{Label}
use Rattle.joiner.proofs.best_with.bests_of_parts.Goals as goal

pub map_chunks-requires-clause-accepts : goal.map_chunks-requires-clause-accepts
map_chunks-requires-clause-accepts g c κs within start p chunk =
    let now : List (Bor Label) → List Label = λ ls. map (λ (l : Bor Label). l.now) ls in
    record {
      side = c.requires.side;
      labels = subst (All (IsLabelOf c.args.side.now))
          (sym (ap now chunk.value ∙ map-part (λ l. l.now) c.args.forward.now c.args.size start))
          (All-part (IsLabelOf c.args.side.now) (now c.args.forward.now) c.args.size start c.requires.forward);
      few = (let inside = chunk.in_bounds in let few = c.requires.few in omega (arith, length-map p.now (λ l. l.now)));
      grouped = c.requires.grouped;
      represents = c.requires.represents;
    }

pub returns-clause-inside : goal.returns-clause-inside
returns-clause-inside g c =
    λ n l.
    let given = (c.in_ok-bests.ensures.each n (Ok None) l).1 in
    let some = given.argument_is.nonempty in
    let inside = given.argument_is.in_bounds in
    omega arith

pub returns-clause-each : goal.returns-clause-each
returns-clause-each g c =
    λ bs represents n answer at.
    let given = (c.in_ok-bests.ensures.each n (Ok None) (slice_get_within c.in_ok-bests.bests.items n (Ok answer) at)).1 in
    let now : List (Bor Label) → List Label = λ ls. map (λ (l : Bor Label). l.now) ls in
    let J = c.args.side.now.instance in
    subst (λ (labels : List Label). IsBest J labels bs c.args.floor answer)
    (ap now given.argument_is.value ∙ map-part (λ (l : Bor Label). l.now) c.args.forward.now c.args.size (n * c.args.size))
    (IfOk-at_ok (IsBestInGroups J (now given.argument.now) c.args.groups.now c.args.floor)
    (get_or_from_slice_get c.in_ok-bests.bests.items n (Ok answer) (Ok None) at) given.call bs represents)
