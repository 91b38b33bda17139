use Rattle.std.proofs.Common.{List, ℕ, length, refl, ◌∙◌, subst}
use Rattle.admission.proofs.Contending.{TakesBeaten, TakesBeaten-told, AreRetirable-beaten, lives_on, HasContended-joined}
use Rattle.admission.specs.Clearing.{Clears}
use Rattle.admission.specs.Contests.{last_at}
use Rattle.admission.proofs.Interrupted.{on_err_always, Thins-same}
use Rattle.admission.proofs.contests.join.Goals as goal

pub retire_all-requires : goal.retire_all-requires
retire_all-requires c =
    let out : TakesBeaten c.args.core.now c.args.id c.args.antichain.now.members c.take_beaten.new.self.members c.take_beaten.new.ids.items =
    TakesBeaten-told c.args.core.now c.args.id c.args.antichain.now.members c.reserve-2.new.self.members c.take_beaten.new.self.members
    c.reserve.new.self.items c.take_beaten.new.ids.items c.side.result.now c.args.outline c.requires.reached c.requires.live c.requires.outline
    c.requires.antichain c.side.ensures c.reserve-2.ensures.members (c.reserve.ensures.items ∙ c.new-beaten.ensures.items) c.take_beaten.ensures.out in
    rw c.deref.ensures.value
    (AreRetirable-beaten c.args.core.now c.args.id c.args.antichain.now.members c.take_beaten.new.self.members c.take_beaten.new.ids.items
    c.requires.reached c.requires.live c.requires.antichain out)

pub returns-clause-contended : goal.returns-clause-contended
returns-clause-contended c =
    let out : TakesBeaten c.args.core.now c.args.id c.args.antichain.now.members c.take_beaten.new.self.members c.take_beaten.new.ids.items =
    TakesBeaten-told c.args.core.now c.args.id c.args.antichain.now.members c.reserve-2.new.self.members c.take_beaten.new.self.members
    c.reserve.new.self.items c.take_beaten.new.ids.items c.side.result.now c.args.outline c.requires.reached c.requires.live c.requires.outline
    c.requires.antichain c.side.ensures c.reserve-2.ensures.members (c.reserve.ensures.items ∙ c.new-beaten.ensures.items) c.take_beaten.ensures.out in
    let clears : Clears c.args.core.now c.retire_all.new.core c.args.id.end (last_at c.args.core.now c.args.id) c.take_beaten.new.ids.items
    (length c.take_beaten.new.ids.items) =
    subst (λ (xs : List ℕ). Clears c.args.core.now c.retire_all.new.core c.args.id.end (last_at c.args.core.now c.args.id) xs (length xs))
    c.deref.ensures.value c.in_ok-retire_all.ensures.clears in
    HasContended-joined c.args.core.now c.args.id c.args.antichain.now.members c.take_beaten.new.self.members c.take_beaten.new.ids.items
    c.requires.reached c.requires.live c.requires.antichain out c.retire_all.new.core clears c.args.outline c.requires.outline c.requires.unbeaten
    c.insert.new.self.members c.insert.ensures.inserted c.insert.ensures.kept

pub returns-clause-lives : goal.returns-clause-lives
returns-clause-lives c =
    let out : TakesBeaten c.args.core.now c.args.id c.args.antichain.now.members c.take_beaten.new.self.members c.take_beaten.new.ids.items =
    TakesBeaten-told c.args.core.now c.args.id c.args.antichain.now.members c.reserve-2.new.self.members c.take_beaten.new.self.members
    c.reserve.new.self.items c.take_beaten.new.ids.items c.side.result.now c.args.outline c.requires.reached c.requires.live c.requires.outline
    c.requires.antichain c.side.ensures c.reserve-2.ensures.members (c.reserve.ensures.items ∙ c.new-beaten.ensures.items) c.take_beaten.ensures.out in
    let clears : Clears c.args.core.now c.retire_all.new.core c.args.id.end (last_at c.args.core.now c.args.id) c.take_beaten.new.ids.items
    (length c.take_beaten.new.ids.items) =
    subst (λ (xs : List ℕ). Clears c.args.core.now c.retire_all.new.core c.args.id.end (last_at c.args.core.now c.args.id) xs (length xs))
    c.deref.ensures.value c.in_ok-retire_all.ensures.clears in
    lives_on c.args.core.now c.args.id c.args.antichain.now.members c.take_beaten.new.self.members c.take_beaten.new.ids.items
    c.requires.reached c.requires.live c.requires.antichain out c.retire_all.new.core clears

pub returns-in_err-reserve-clause-refused : goal.returns-in_err-reserve-clause-refused
returns-in_err-reserve-clause-refused c =
    on_err_always c.from_residual.result (Thins-same c.args.core.now c.args.core.now c.args.id.end (last_at c.args.core.now c.args.id) refl)

pub returns-in_err-reserve-2-clause-refused : goal.returns-in_err-reserve-2-clause-refused
returns-in_err-reserve-2-clause-refused c =
    on_err_always c.from_residual-in_err-reserve-2.result
    (Thins-same c.args.core.now c.args.core.now c.args.id.end (last_at c.args.core.now c.args.id) refl)

pub returns-in_err-retire_all-clause-refused : goal.returns-in_err-retire_all-clause-refused
returns-in_err-retire_all-clause-refused c = on_err_always c.from_residual-in_err-retire_all.result c.retire_all.ensures.thins
