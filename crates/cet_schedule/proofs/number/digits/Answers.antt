use Rattle.std.proofs.Common.{◌<◌, length, rules}
use Rattle.cet_schedule.proofs.Digits.{digits_more, narrowed_more}
use Rattle.cet_schedule.proofs.number.digits.Goals as goal

pub loop-byte-preserved : goal.loop-byte-preserved
loop-byte-preserved c =
    let i = c.loop-byte.byte-index in
    let cs = c.args.bytes.now in
    let below : i < length cs = search rules in
    record {
      digits = digits_more c.args.base cs i below c.loop-byte.invariant.digits (rw (c.digit-digit.ensures) at c.if-digit-base.false);
      value = narrowed_more c.args.base cs i below c.shifted-value.result (rw (c.digit-digit.ensures) at c.shifted-value.ensures _ c.loop-byte.invariant.value);
    }
