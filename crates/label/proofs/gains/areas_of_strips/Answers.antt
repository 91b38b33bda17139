use Rattle.std.proofs.Common.{◌≡◌, ℕ, length, slice_index, ◌∙◌, get_or, replicate, List, inl, inr, arith}
use Rattle.std.proofs.lemmas.Bool.{cases_lt}
use Rattle.std.proofs.lemmas.List.{get_or-replicate, get_or_past, length-replicate}
use Rattle.label.proofs.SetSums.{IsAdding-start, IsAdding-step, IsAdding-end, area_for-past, set_area-le}
use Rattle.strip_model.specs.Gain.{area_for}
use Rattle.strip_model.specs.Orbit.{strip_at}
use Rattle.strip_model.specs.declared.limits.TheConstants.{MAX_REQUESTS}
use Rattle.label.proofs.gains.areas_of_strips.Goals as goal

abbrev zeros : ℕ → List ℕ
zeros n = replicate n 0

-- an array of zeros has 0 at each place, and past its end
nothing_yet : (n r : ℕ) → get_or (zeros n) r 0 ≡ 0
nothing_yet n r =
    elim (cases_lt r n) [
      | inl there ↦ get_or-replicate n r 0 0 there
      | inr past ↦ get_or_past (zeros n) r 0 (omega (arith, length-replicate {A = ℕ} n 0, past))
    ]

pub loop-strip-init : goal.loop-strip-init
loop-strip-init c = record {
  each = λ r. IsAdding-start _ _ _ _ _ c.iter-strip-items.ensures.set
      (c.into_iter-strip-iterator.ensures.into_iter_gives ∙ c.iter-strip-items.ensures.rest) (nothing_yet MAX_REQUESTS r);
  all = length-replicate {A = ℕ} MAX_REQUESTS 0;
}

pub add_strip-requires-clause-each : goal.add_strip-requires-clause-each
add_strip-requires-clause-each c = omega (arith, c.loop-strip.invariant.all, c.strips.ensures.sound.limits.few_requests)

pub add_strip-requires-clause-room : goal.add_strip-requires-clause-room
add_strip-requires-clause-room c r = omega (arith, (c.loop-strip.invariant.each r).all, set_area-le c.args.instance.now c.args.set r)

pub loop-strip-preserved : goal.loop-strip-preserved
loop-strip-preserved c =
    let J = c.args.instance.now in
    let i = c.in-Some.strip in
    record {
      each = λ r.
          let so_far = rw c.in-Some.ensures.steps at (c.loop-strip.invariant.each r) in
          rw (c.add_strip.ensures.added r)
          (IsAdding-step (length J.strips) (λ (i : ℕ). area_for r (strip_at J i)) c.args.set c.next.new.self (slice_index c.loop-strip.areas r) i so_far (area_for-past J r i));
      all = omega (arith, c.add_strip.ensures.length, c.loop-strip.invariant.all);
    }

pub returns-clause-areas : goal.returns-clause-areas
returns-clause-areas c r =
    let J = c.args.instance.now in
    IsAdding-end (length J.strips) (λ (i : ℕ). area_for r (strip_at J i)) c.args.set c.loop-strip.strip-iterator (slice_index c.loop-strip.areas r)
    (c.loop-strip.invariant.each r) c.in-None.ensures.steps.0

pub returns-clause-each : goal.returns-clause-each
returns-clause-each c = omega (arith, c.loop-strip.invariant.all, c.strips.ensures.sound.limits.few_requests)
