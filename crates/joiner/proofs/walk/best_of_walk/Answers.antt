use Rattle.std.proofs.Common.{None, sym, subst, refl, inl, inr, arith}
use Rattle.std.proofs.lemmas.Option.{slice_get_within}
use Rattle.joiner.proofs.Looking.{IsSound-root, All-at, Covered-kept}
use Rattle.joiner.proofs.Walking.{IsFoundIn-look, CoveredFrom-more, Covered-all, Covered-first}
use Rattle.joiner.specs.Entries.{root, IsSound, IsAmong, Covered, IsNewOf}
use Rattle.joiner.specs.Represented.{IsFirst}
use Rattle.joiner.specs.declared.entry.Entry.{Entry}
use Rattle.joiner.specs.declared.ranked.Ranked.{Ranked}
use Rattle.joiner.proofs.walk.best_of_walk.Goals as goal

pub best_of-best-requires-clause-sound : goal.best_of-best-requires-clause-sound
best_of-best-requires-clause-sound c =
    let J = c.args.instance.now in
    subst (λ (e : Entry). IsSound J e) (sym c.root.ensures) (IsSound-root J)

pub loop-k-init : goal.loop-k-init
loop-k-init c =
    let J = c.args.instance.now in
    let gs = c.args.groups.now in
    let best = c.best_of-best.result in
    let step = c.best_of-best.ensures in
    record {
      above = step.above;
      root = λ w among. subst (λ (e : Entry). Covered J c.args.floor best e w) c.root.ensures (step.covered w among);
      covered = λ m r w past at among. absurd (omega (arith, past, slice_get_within c.args.order.now m r at));
      found = IsFoundIn-look J (IsFirst c.args.order.now) (IsAmong gs) root None best (inl refl) tt
          (subst (λ (e : Entry). IsNewOf J e (IsAmong gs) None best) c.root.ensures step.new);
    }

pub best_of-best-requires-in-loop-k-clause-sound : goal.best_of-best-requires-in-loop-k-clause-sound
best_of-best-requires-in-loop-k-clause-sound c =
    All-at (λ (r : Ranked). IsSound c.args.instance.now r.entry) c.args.order.now _ c.ranked_at-ranked.result.now c.requires.sound c.ranked_at-ranked.ensures

pub loop-k-preserved : goal.loop-k-preserved
loop-k-preserved c =
    let J = c.args.instance.now in
    let gs = c.args.groups.now in
    let order = c.args.order.now in
    let before = c.loop-k.best in
    let later = c.best_of-best-in-loop-k.result in
    let s = c.ranked_at-ranked.result.now in
    let step = c.best_of-best-in-loop-k.ensures in
    let so_far = c.loop-k.invariant in
    record {
      above = step.above;
      root = λ w among. Covered-kept J c.args.floor before later root w step.kept (so_far.root w among);
      covered = CoveredFrom-more J c.args.floor gs order c.loop-k.k before later s c.loop-k-test.true c.ranked_at-ranked.ensures step.kept
          so_far.covered step.covered;
      found = IsFoundIn-look J (IsFirst order) (IsAmong gs) s.entry before later (inr (_, s, c.ranked_at-ranked.ensures, refl)) so_far.found step.new;
    }

pub returns-after-loop-k-clause-covered : goal.returns-after-loop-k-clause-covered
returns-after-loop-k-clause-covered c =
    Covered-first c.args.instance.now c.args.floor c.loop-k.best c.args.groups.now c.args.order.now c.loop-k.invariant.root
    (λ m r w at among. c.loop-k.invariant.covered m r w (omega (arith, c.loop-k-test.false)) at among)

pub returns-then-is_settled-clause-covered : goal.returns-then-is_settled-clause-covered
returns-then-is_settled-clause-covered c =
    Covered-first c.args.instance.now c.args.floor c.loop-k.best c.args.groups.now c.args.order.now c.loop-k.invariant.root
    (Covered-all c.args.instance.now c.args.floor c.loop-k.best c.args.groups.now c.args.order.now c.loop-k.k c.ranked_at-ranked.result.now
    c.loop-k-test.true c.ranked_at-ranked.ensures c.requires.rising c.requires.bounding c.loop-k.invariant.covered c.if-is_settled.ensures)
