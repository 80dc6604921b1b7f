-- A quotient and a remainder fit the operand.
use Rattle.std.proofs.Common.{ℕ, ◌<◌, ◌^◌, Bool, Option, Some, None}
use Rattle.std.specs.Prelude.{MatchOption, IfOk}
use Rattle.std.specs.Option.{ok_or}
use Rattle.cet_isa.specs.declared.operand.Width.{Width}
use Rattle.cet_machine.specs.Arithmetic.{bits}
use Rattle.cet_machine.specs.Products.{div}
use Rattle.cet_machine.proofs.Fits.{div_fits}

from_answer : (o : Option (ℕ × ℕ)) (P : ℕ × ℕ → Type 0) → IfOk {E = Unit {0}} (ok_or o tt) P → MatchOption o (Unit {0}) P
from_answer None P h = tt
from_answer (Some r) P h = h

pub quotient_fits : (signed : Bool) (w : Width) (high low by : ℕ) → MatchOption (div signed w high low by) (Unit {0}) (λ r. (r.0 < 2 ^ bits w) × (r.1 < 2 ^ bits w))
quotient_fits signed w high low by = from_answer (div signed w high low by) (λ r. (r.0 < 2 ^ bits w) × (r.1 < 2 ^ bits w)) (div_fits signed w high low by (Unit {0}) tt)
