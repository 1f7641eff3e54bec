use Rattle.std.proofs.Common.{arith, ◌-◌, get_or}
use Rattle.std.proofs.lemmas.Int.Digits.{digits_value_more}
use Rattle.http_heads.proofs.DigitLemmas.{digit_fits, digit_at}
use Rattle.http_heads.proofs.framing.digits_value.Goals as goal

pub overflow_mul-number : goal.overflow_mul-number
overflow_mul-number c =
    let fits = digit_fits c.loop-digit.number c.loop-digit.digit-index 0 c.loop-digit.invariant.small (omega arith) (omega arith) in
    omega arith

pub overflow_add-number : goal.overflow_add-number
overflow_add-number c =
    let digit = digit_at c.args.digits.now c.loop-digit.digit-index c.requires.digits c.loop-digit-test.true in
    let fits = digit_fits c.loop-digit.number c.loop-digit.digit-index (get_or c.args.digits.now c.loop-digit.digit-index 0 - 48)
    c.loop-digit.invariant.small (omega arith) (omega arith) in
    omega arith

pub loop-digit-preserved : goal.loop-digit-preserved
loop-digit-preserved c =
    let digit = digit_at c.args.digits.now c.loop-digit.digit-index c.requires.digits c.loop-digit-test.true in
    let fits = digit_fits c.loop-digit.number c.loop-digit.digit-index (get_or c.args.digits.now c.loop-digit.digit-index 0 - 48)
    c.loop-digit.invariant.small (omega arith) (omega arith) in
    let more = digits_value_more 10 c.args.digits.now c.loop-digit.digit-index c.loop-digit-test.true in
    record {
      small = omega arith;
      value = omega arith;
    }
