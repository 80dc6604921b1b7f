-- What a call answers, with the memory and the SSP that it leaves, as the definitions answer it.
use Rattle.std.specs.Prelude.{ℕ, List, Bool, Result, Ok, Err}
use Rattle.cet_machine.specs.declared.memory.Region.{Region}
use Rattle.cet_machine.specs.declared.shadow_fault.ShadowFault.{ShadowFault}
use Rattle.cet_machine.specs.Shadow.{ShadowStack}

-- memory alone
abbrev pub stored : Result (Unit {0}) ShadowFault → List Region → Result (List Region) ShadowFault
stored (Ok x) M = Ok M
stored (Err e) M = Err e

-- memory and SSP
abbrev pub stack : Result (Unit {0}) ShadowFault → List Region → ℕ → Result ShadowStack ShadowFault
stack (Ok x) M ssp = Ok (M, ssp)
stack (Err e) M ssp = Err e

-- the word and SSP
abbrev pub taken : Result ℕ ShadowFault → ℕ → Result (ℕ × ℕ) ShadowFault
taken (Ok word) ssp = Ok (word, ssp)
taken (Err e) ssp = Err e

-- SSP alone
abbrev pub moved : Result (Unit {0}) ShadowFault → ℕ → Result ℕ ShadowFault
moved (Ok x) ssp = Ok ssp
moved (Err e) ssp = Err e

-- memory, SSP and the flag
abbrev pub restored : Result Bool ShadowFault → List Region → ℕ → Result (List Region × ℕ × Bool) ShadowFault
restored (Ok cf) M ssp = Ok (M, ssp, cf)
restored (Err e) M ssp = Err e
