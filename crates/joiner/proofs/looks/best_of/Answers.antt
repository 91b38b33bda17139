use Rattle.std.proofs.Common.{◌≡◌, Some, slice_get, sym, subst, inl, inr, arith}
use Rattle.std.proofs.lemmas.Bool.{cases_lt}
use Rattle.std.proofs.lemmas.Option.{slice_get_within}
use Rattle.std.specs.List.{Contains}
use Rattle.joiner.proofs.Looking.{IsSound-root, place_of_element, one_at, Covered-kept, IsNewOf-among, IsNewOf-then}
use Rattle.joiner.specs.Entries.{root, IsSound, IsAmong, Covered}
use Rattle.joiner.specs.declared.entry.Entry.{Entry}
use Rattle.joiner.specs.declared.group.Group.{Group}
use Rattle.joiner.proofs.looks.best_of.Goals as goal

pub best_with-best-requires-clause-backward : goal.best_with-best-requires-clause-backward
best_with-best-requires-clause-backward c =
    let J = c.args.instance.now in
    subst (λ (e : Entry). IsSound J e) (sym c.root.ensures) (IsSound-root J)

pub loop-y-preserved : goal.loop-y-preserved
loop-y-preserved c =
    let J = c.args.instance.now in
    let f = c.args.f.now in
    let before = c.loop-y.best in
    let later = c.best_in_group-best.result in
    let step = c.best_in_group-best.ensures in
    let so_far = c.loop-y.invariant in
    let gs = c.args.groups.now in
    let group = c.group_at-group.result.now in
    record {
      above = step.above;
      kept = λ gain i j h. step.kept gain i j (so_far.kept gain i j h);
      root = Covered-kept J c.args.floor before later f root step.kept so_far.root;
      covered = λ y k g w l at there.
          elim (cases_lt y c.loop-y.y) [
            | inl earlier ↦ Covered-kept J c.args.floor before later f w step.kept (so_far.covered y k g w earlier at there)
            | inr now ↦
                let same : group ≡ g = one_at gs y c.loop-y.y g group (omega arith) at c.group_at-group.ensures in
                step.covered k w (subst (λ (v : Group). slice_get v.waiting.items k ≡ Some w) (sym same) there)
          ];
      new = IsNewOf-then J f (IsAmong gs) c.args.best before later so_far.new
          (IsNewOf-among J f (Contains group.waiting.items) (IsAmong gs) before later
          (λ w there. inr (c.loop-y.y, group, c.group_at-group.ensures, there)) step.new);
    }

pub returns-clause-covered : goal.returns-clause-covered
returns-clause-covered c w (inl is) =
    subst (λ (e : Entry). Covered c.args.instance.now c.args.floor c.loop-y.best c.args.f.now e) (sym is) c.loop-y.invariant.root
returns-clause-covered c w (inr h) =
    let g = h.1 in
    let within = slice_get_within c.args.groups.now h.0 g h.2 in
    c.loop-y.invariant.covered h.0 h.3.0 g w (omega (arith, within, c.loop-y-test.false)) h.2 (place_of_element g.waiting.items w h.3.0 h.3.1 h.3.2)
