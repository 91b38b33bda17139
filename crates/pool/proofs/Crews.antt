-- Lists of workers and of lanes: what is put back as it was changes nothing, and lanes that are moved stay those of the board.
use Rattle.std.proofs.Common.{◌≡◌, ◌<◌, ℕ, zero, suc, false, List, [], ◌∷◌, ◌++◌, length, get_or, set, Some, refl, ap, sym, subst, ◌∙◌, true≢false, arith}
use Rattle.std.proofs.lemmas.List.{set-get_or}
use Rattle.std.specs.Prelude.{◌==◌}
use Rattle.std.proofs.lemmas.List.Elements.{All-pop, All-push, All-weaker}
use Rattle.std.specs.List.{All}
use Rattle.board.specs.Passes.{BoardName, side_at}
use Rattle.label.specs.Labels.{IsLabelOf}
use Rattle.label.specs.declared.label.Label.{Label}
use Rattle.pool.specs.Lanes.{LaneName, IsLaneOf, IsOrderOf}
use Rattle.pool.specs.Workers.{WorkerName}
use Rattle.pool.specs.declared.order.Order.{Order}
use Rattle.strip_model.specs.Side.{Face}
use Rattle.strip_model.specs.declared.end.End.{End}
use Rattle.strip_model.specs.declared.end.End.TheVariants.{Forward}

-- ---- lists

-- an element that is put back as it was read
pub put_back : {X : Type 0} (xs : List X) (k : ℕ) (old new : X) → old ≡ get_or xs k old → new ≡ old → set xs k new ≡ xs
put_back xs k old new at same = ap (λ x. set xs k x) (same ∙ at) ∙ set-get_or xs k old

-- so what holds of all of them still does
pub all_put_back : {X : Type 0} (P : X → Type 0) (xs : List X) (k : ℕ) (old new : X) → old ≡ get_or xs k old → new ≡ old → All P xs → All P (set xs k new)
all_put_back P xs k old new at same all = subst (All P) (sym (put_back xs k old new at same)) all

-- what holds of all of them holds of the one that was read
pub all_at : {X : Type 0} (P : X → Type 0) (xs : List X) (k : ℕ) (x : X) → k < length xs → x ≡ get_or xs k x → All P xs → P x
all_at P xs k x within at all = subst P (sym at) (all k x within)

-- the same element at each place
pub same_each : {X : Type 0} (xs ys : List X) → length ys ≡ length xs → ((k : ℕ) (d : X) → k < length xs → get_or ys k d ≡ get_or xs k d) → ys ≡ xs
same_each [] [] same each = refl
same_each [] (y ∷ ys) same each = absurd (omega arith)
same_each (x ∷ xs) [] same each = absurd (omega arith)
same_each (x ∷ xs) (y ∷ ys) same each =
    let first : y ≡ x = each 0 x (omega arith) in
    let rest : ys ≡ xs = same_each xs ys (omega arith) (λ k d within. each (suc k) d (omega arith)) in
    λ i. first i ∷ rest i

-- where a list isn't empty
pub some_there : (n : ℕ) → false ≡ (n == 0) → 0 < n
some_there zero h = absurd (true≢false (sym h))
some_there (suc n) h = omega arith

-- ---- lanes

-- one is moved from the end of a list to the end of another
pub moved : (b : BoardName) (from left into to : List LaneName) (lane : LaneName) → from ≡ left ++ lane ∷ [] → to ≡ into ++ lane ∷ [] → All (IsLaneOf b) from × All (IsLaneOf b) into
    → All (IsLaneOf b) left × All (IsLaneOf b) to
moved b from left into to lane out onto all =
    let each = All-pop (IsLaneOf b) from left (Some lane) out all.0 in (each.0, subst (All (IsLaneOf b)) (sym onto) (All-push (IsLaneOf b) into lane all.1 each.1))

-- one is taken out, for which there is no memory
pub lost : (b : BoardName) (from left into to : List LaneName) (lane : LaneName) → from ≡ left ++ lane ∷ [] → to ≡ into → All (IsLaneOf b) from × All (IsLaneOf b) into
    → All (IsLaneOf b) left × All (IsLaneOf b) to
lost b from left into to lane out same all = ((All-pop (IsLaneOf b) from left (Some lane) out all.0).0, subst (All (IsLaneOf b)) (sym same) all.1)

-- the side of one, whose end was read from its side
pub side_is : (b : BoardName) (lane : LaneName) (S : Face) (f e : End) → IsLaneOf b lane → S ≡ lane.side → f ≡ S.end → f ≡ e → lane.side ≡ side_at b e
side_is b lane S f e of same read end = of ∙ ap (λ (x : End). side_at b x) (sym (read ∙ ap (λ (T : Face). T.end) same) ∙ end)

-- ---- workers

-- those of one board and one weight
pub same_worker : (v w : WorkerName) → v.board ≡ w.board → v.weight ≡ w.weight → v ≡ w
same_worker v w board weight = λ i. record { board = board i; weight = weight i }

-- the board of one of them
pub board_at : (b : BoardName) (ws olds : List WorkerName) (k : ℕ) (w : WorkerName) → All (λ v. v.board ≡ b) olds → ws ≡ olds → k < length ws → w ≡ get_or ws k w → w.board ≡ b
board_at b ws olds k w all same within at =
    all_at (λ (v : WorkerName). v.board ≡ b) ws k w within at (subst (All (λ (v : WorkerName). v.board ≡ b)) (sym same) all)

-- what is ordered on the board is so for one of them, and for all
pub order_at : (b c : BoardName) (order : Order) → c ≡ b → IsOrderOf b order → IsOrderOf c order
order_at b c order same h = subst (λ (x : BoardName). IsOrderOf x order) (sym same) h

pub order_for_all : (b : BoardName) (ws : List WorkerName) (order : Order) → All (λ v. v.board ≡ b) ws → IsOrderOf b order → All (λ v. IsOrderOf v.board order) ws
order_for_all b ws order all h =
    All-weaker (λ (v : WorkerName). v.board ≡ b) (λ (v : WorkerName). IsOrderOf v.board order) (λ v same. order_at b v.board order same h) ws all

-- a lane of the board is one for a worker of it
pub lane_at : (b c : BoardName) (lane : LaneName) → c ≡ b → IsLaneOf b lane → IsLaneOf c lane
lane_at b c lane same h = subst (λ (x : BoardName). IsLaneOf x lane) (sym same) h

-- a label of the forward side is one of the side of its end
pub forward_label : (b c : BoardName) (l : Label) → c ≡ b → b.forward.side.end ≡ Forward → IsLabelOf b.forward.side l → IsLabelOf (side_at c l.end) l
forward_label b c l same end h =
    subst (λ (x : BoardName). IsLabelOf (side_at x l.end) l) (sym same) (subst (λ (e : End). IsLabelOf (side_at b e) l) (sym (h.side ∙ end)) h)

-- the labels that were taken from the lanes of a board are those of its side, and are ordered to be extended
pub ready_labels : (b c : BoardName) (labels taken : List Label) → c ≡ b → labels ≡ taken → All (IsLabelOf c.forward.side) taken → All (IsLabelOf b.forward.side) labels
ready_labels b c labels taken board same all =
    subst (λ (l : List Label). All (IsLabelOf b.forward.side) l) (sym same) (subst (λ (x : BoardName). All (IsLabelOf x.forward.side) taken) board all)

pub ready_order : (b c d : BoardName) (fs bs gs hs : List Label) → c ≡ b → d ≡ b → gs ≡ fs → hs ≡ bs → All (IsLabelOf c.forward.side) fs → All (IsLabelOf c.backward.side) bs
    → All (IsLabelOf d.forward.side) gs × All (IsLabelOf d.backward.side) hs
ready_order b c d fs bs gs hs here there forward backward of_fs of_bs =
    let same : c ≡ d = here ∙ sym there in (
      subst (λ (l : List Label). All (IsLabelOf d.forward.side) l) (sym forward) (subst (λ (x : BoardName). All (IsLabelOf x.forward.side) fs) same of_fs),
      subst (λ (l : List Label). All (IsLabelOf d.backward.side) l) (sym backward) (subst (λ (x : BoardName). All (IsLabelOf x.backward.side) bs) same of_bs),
    )
