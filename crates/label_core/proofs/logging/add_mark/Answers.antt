use Rattle.std.proofs.Common.{◌≡◌, ◌++◌, ◌∷◌, [], ℕ, List, set, get_or, sym, ◌∙◌, ap, arith}
use Rattle.std.proofs.lemmas.List.{length-map, map-set, get_or-map}
use Rattle.std.specs.declared.alloc.Global.{Global}
use Rattle.std.specs.declared.vec.Vec.{Vec}
use Rattle.label_core.specs.SortedMarks.{lists_of}
use Rattle.proof_log.specs.declared.mark.Mark.{Mark}
use Rattle.label_core.proofs.logging.add_mark.Goals as goal

pub returns : goal.returns
returns c =
    let before : c.index_mut.result.now.items ≡ get_or (lists_of c.args.sorted.now.items) c.args.bucket [] =
    ap (λ (v : Vec Mark Global). v.items) c.index_mut.ensures.value
    ∙ sym (get_or-map (λ (v : Vec Mark Global). v.items) c.args.sorted.now.items c.from.result c.index_mut.result.now []
    (omega (arith, c.requires, c.from.ensures, length-map c.args.sorted.now.items (λ (v : Vec Mark Global). v.items))))
    ∙ ap (λ (i : ℕ). get_or (lists_of c.args.sorted.now.items) i []) c.from.ensures in
    map-set (λ (v : Vec Mark Global). v.items) c.args.sorted.now.items c.from.result c.push.new.self
    ∙ ap (λ (i : ℕ). set (lists_of c.args.sorted.now.items) i c.push.new.self.items) c.from.ensures
    ∙ ap (λ (xs : List Mark). set (lists_of c.args.sorted.now.items) c.args.bucket xs)
    (c.in_ok-push.ensures.items ∙ ap (λ (xs : List Mark). xs ++ c.args.mark ∷ []) before)
