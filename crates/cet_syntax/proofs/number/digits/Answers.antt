use Rattle.std.proofs.Common.{◌<◌, length, rules}
use Rattle.cet_syntax.proofs.Digits.{digits_more, narrowed_more}
use Rattle.cet_syntax.proofs.number.digits.Goals as goal

pub loop-byte-preserved : goal.loop-byte-preserved
loop-byte-preserved c =
    let i = c.loop-byte.byte-index in
    let cs = c.args.bytes.now in
    let below : i < length cs = search rules in (
      digits_more c.args.base cs i below c.loop-byte.invariant.0 (rw (c.digit-digit.ensures) at c.if-digit-base.false),
      narrowed_more c.args.base cs i below c.shifted-magnitude.result (rw (c.digit-digit.ensures) at c.shifted-magnitude.ensures _ c.loop-byte.invariant.1),
    )
