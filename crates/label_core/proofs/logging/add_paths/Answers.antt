use Rattle.std.proofs.Common.{List, ℕ, Vec, Global, ◌∙◌, [], ◌∷◌, ap, arith}
use Rattle.std.proofs.lemmas.List.{map-append}
use Rattle.bucket.specs.declared.id.Id.{Id}
use Rattle.label_core.proofs.LogParts.{paths_more}
use Rattle.label_core.specs.CoreState.{IsThere}
use Rattle.label_core.specs.LogOf.{items_of}
use Rattle.label_core.proofs.logging.add_paths.Goals as goal

pub loop-index-preserved : goal.loop-index-preserved
loop-index-preserved c =
    let id : Id = record { end = c.args.end; bucket = c.args.bucket; index = c.loop-index.index } in
    let there : IsThere c.args.core.now.state (record { end = c.args.end; bucket = c.args.bucket; index = c.loop-index.index }) =
    omega (arith, c.loop-index-test.true, c.count-index-end.ensures) in
    ap (λ (paths : List (Vec ℕ Global)). items_of paths) c.in_ok-push.ensures.items
    ∙ map-append (λ (path : Vec ℕ Global). path.items) c.loop-index.paths.items (c.in_ok-path.path ∷ [])
    ∙ paths_more c.args.core.now.state (record { end = c.args.end; bucket = c.args.bucket; index = c.loop-index.index }) (items_of c.loop-index.paths.items)
    (items_of c.args.paths.now.items) c.in_ok-path.path.items there (c.in_ok-path.ensures.items ∙ c.path_of.ensures) c.loop-index.invariant
