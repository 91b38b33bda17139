use Rattle.std.proofs.Common.{length, ◌≡◌, arith}
use Rattle.label.proofs.SetSums.{IsAdding-step, IsAdding-within, IsAdding-end, strip_value-past}
use Rattle.label.proofs.Values.{set_value-le, set_gain-le-set_value, set_gain-both}
use Rattle.label.specs.Gaining.{strip_value, set_value}
use Rattle.label.proofs.gains.value_of_strips.Goals as goal

pub overflow_add-value : goal.overflow_add-value
overflow_add-value c =
    let J = c.args.instance.now in
    let i = c.in-Some.strip in
    let so_far = rw c.in-Some.ensures.steps at c.loop-strip.invariant in
    omega (
      arith,
      IsAdding-within (length J.strips) (strip_value J) c.args.set c.next.new.self c.loop-strip.value i so_far (strip_value-past J i),
      set_value-le J c.args.set c.strips.ensures.sound,
      c.value_of_strip-value.ensures.value,
    )

pub loop-strip-preserved : goal.loop-strip-preserved
loop-strip-preserved c =
    let J = c.args.instance.now in
    let i = c.in-Some.strip in
    let so_far = rw c.in-Some.ensures.steps at c.loop-strip.invariant in
    rw c.value_of_strip-value.ensures.value
    (IsAdding-step (length J.strips) (strip_value J) c.args.set c.next.new.self c.loop-strip.value i so_far (strip_value-past J i))

pub returns : goal.returns
returns c =
    let J = c.args.instance.now in
    let value : c.loop-strip.value ≡ set_value J c.args.set =
    IsAdding-end (length J.strips) (strip_value J) c.args.set c.loop-strip.strip-iterator c.loop-strip.value c.loop-strip.invariant c.in-None.ensures.steps.0 in
    record {
      value = value;
      gain = omega (arith, value, set_gain-le-set_value J c.args.set);
      both = λ other both joined. omega (arith, value, set_gain-both J c.args.set other both joined);
      bound = omega (arith, value, set_value-le J c.args.set c.strips.ensures.sound);
    }
