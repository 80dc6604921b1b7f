use Rattle.std.proofs.Common.{ℕ, ◌<◌, ◌^◌, Option, sym, subst}
use Rattle.std.specs.Prelude.{MatchOption}
use Rattle.cet_machine.specs.Arithmetic.{bits}
use Rattle.cet_cpu.proofs.Quotients.{quotient_fits}
use Rattle.cet_cpu.proofs.arithmetic.quotient.Goals as goal

pub returns-clause-fits : goal.returns-clause-fits
returns-clause-fits c =
    subst (λ (o : Option (ℕ × ℕ)). MatchOption o (Unit {0}) (λ r. (r.0 < 2 ^ bits c.args.w) × (r.1 < 2 ^ bits c.args.w))) (sym c.div.ensures)
    (quotient_fits c.args.signed c.args.w c.args.high c.args.low c.args.y)
