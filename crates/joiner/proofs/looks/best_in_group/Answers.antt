use Rattle.std.proofs.Common.{◌≡◌, ℕ, ◌+◌, ◌<◌, ◌≤◌, length, get_or, refl, sym, subst, inl, inr, arith}
use Rattle.std.proofs.lemmas.Bool.{cases_lt}
use Rattle.std.proofs.lemmas.Option.{slice_get_within, slice_get_read}
use Rattle.std.specs.List.{Contains}
use Rattle.joiner.proofs.Looking.{value-le, All-at, element_of_place, Covered-settled, Covered-late, late_rest, covered_more, IsNewOf-among, IsNewOf-then}
use Rattle.joiner.specs.Entries.{IsSound, IsOfLast, IsOne}
use Rattle.strip_model.specs.Horizon.{horizon_of}
use Rattle.joiner.specs.declared.entry.Entry.{Entry}
use Rattle.joiner.proofs.looks.best_in_group.Goals as goal

pub overflow_add-f : goal.overflow_add-f
overflow_add-f c =
    let a = value-le c.args.instance.now c.strips.ensures.sound c.args.f.now c.requires.sound in
    let b = c.requires.group.small in
    omega (arith, a, b)

pub returns-then-is_settled-clause-covered : goal.returns-then-is_settled-clause-covered
returns-then-is_settled-clause-covered c k w at =
    let J = c.args.instance.now in
    let f = c.args.f.now in
    let g = c.args.group.now in
    let ws = g.waiting.items in
    let within : w.value ≤ g.greatest = All-at (λ (w : Entry). w.value ≤ g.greatest) ws k w c.requires.group.greatest at in
    Covered-settled J c.args.floor c.args.best f w (f.value + g.greatest) c.requires.sound (All-at (IsSound J) ws k w c.requires.group.sound at)
    (omega (arith, within)) c.if-is_settled.ensures

pub loop-w-preserved : goal.loop-w-preserved
loop-w-preserved c =
    let J = c.args.instance.now in
    let f = c.args.f.now in
    let ws = c.args.group.now.waiting.items in
    let x = c.w-item.result in
    let k = c.loop-w.w-index in
    let before = c.loop-w.best in
    let later = c.best_with-best.result in
    let is : x ≡ get_or ws k x = rw c.deref-w-items.ensures.value at c.w-item.is in
    let l : k < length ws = rw c.deref-w-items.ensures.value at c.loop-w-test.true in
    let there : Contains ws x = element_of_place ws x k (slice_get_read ws (length ws) k x refl l is) in
    let step = c.best_with-best.ensures in
    record {
      above = step.above;
      kept = λ gain i j h. step.kept gain i j (c.loop-w.invariant.kept gain i j h);
      covered = covered_more J c.args.floor before later f x ws k step.kept is c.loop-w.invariant.covered step.covered;
      new = IsNewOf-then J f (Contains ws) c.args.best before later c.loop-w.invariant.new
          (IsNewOf-among J f (IsOne x) (Contains ws) before later (λ w e. subst (λ (v : Entry). Contains ws v) (sym e) there) step.new);
    }

pub returns-after-loop-w-clause-covered : goal.returns-after-loop-w-clause-covered
returns-after-loop-w-clause-covered c k w at =
    let ws = c.args.group.now.waiting.items in
    let l = slice_get_within ws k w at in
    let past : length ws ≤ c.loop-w.w-index = rw c.deref-w-items.ensures.value at c.loop-w-test.false in
    c.loop-w.invariant.covered k w (omega (arith, l, past)) at

pub returns-then-lead-from-clause-covered : goal.returns-then-lead-from-clause-covered
returns-then-lead-from-clause-covered c k w at =
    let J = c.args.instance.now in
    let f = c.args.f.now in
    let ws = c.args.group.now.waiting.items in
    let x = c.w-item.result in
    let n = c.loop-w.w-index in
    let is : x ≡ get_or ws n x = rw c.deref-w-items.ensures.value at c.w-item.is in
    let late : horizon_of J < c.lead_to-lead.result + x.over =
    past (horizon_of J) c.horizon.result c.from-horizon.result c.lead_to-lead.result c.from.result x.over
    c.horizon.ensures.value c.from-horizon.ensures c.from.ensures c.if-lead-from.true in
    elim (cases_lt k n) [
      | inl earlier ↦ c.loop-w.invariant.covered k w earlier at
      | inr later ↦
          Covered-late J c.args.floor c.loop-w.best f w c.args.y c.lead_to-lead.result
          (All-at (IsSound J) ws k w c.requires.group.sound at)
          (All-at (λ (w : Entry). IsOfLast c.args.y w.tip) ws k w c.requires.group.last at)
          c.lead_to-lead.ensures.time
          (late_rest ws n k x w c.lead_to-lead.result (horizon_of J) c.requires.group.rising is later at late)
    ]
  where
    past : (M h r l o u : ℕ) → h ≡ M → r ≡ h → o ≡ u → r < l + o → M < l + u
    past M h r l o u e f g late = omega arith
