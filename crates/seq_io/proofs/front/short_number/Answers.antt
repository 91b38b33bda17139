use Rattle.std.proofs.Common.{◌≡◌, ◌<◌, ◌^◌, arith, sym}
use Rattle.seq_io.specs.Front.{front_length}
use Rattle.seq_io.proofs.FrontTokens.{front_of_digits, spelled_front}
use Rattle.seq_io.proofs.front.short_number.Goals as goal

-- the digits are the whole token
whole : (c : goal.Then-is_in_form) → front_length c.args.bytes.now ≡ c.in_ok-number.end
whole c =
    let found = c.in_ok-number.ensures in
    front_of_digits c.args.bytes.now c.in_ok-number.end found.bound found.digits c.if-ends_at.ensures

pub returns-then-is_in_form-clause-number : goal.returns-then-is_in_form-clause-number
returns-then-is_in_form-clause-number c =
    let found = c.in_ok-number.ensures in
    let small : c.in_ok-number.number < 2 ^ 64 = omega arith in
    spelled_front c.args.bytes.now c.in_ok-number.end c.in_ok-number.number found.bound found.digits found.value small c.if-is_in_form.ensures (whole c)

pub returns-then-is_in_form-clause-end : goal.returns-then-is_in_form-clause-end
returns-then-is_in_form-clause-end c = sym (whole c)
