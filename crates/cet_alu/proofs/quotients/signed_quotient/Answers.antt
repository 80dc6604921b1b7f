use Rattle.cet_alu.proofs.SignedQuotient.{signed_quotient_passed}
use Rattle.cet_alu.proofs.quotients.signed_quotient.Goals as goal

pub returns-then-fits_signed : goal.returns-then-fits_signed
returns-then-fits_signed c =
    signed_quotient_passed c.args.w c.args.dividend c.args.divisor c.in_ok-quotient.quotient c.cut_signed.result c.cut_signed-then-fits_signed.result c.ranges.dividend c.ranges.divisor
    c.in_ok-quotient.ensures c.if-fits_signed.ensures c.cut_signed.ensures c.cut_signed-then-fits_signed.ensures
