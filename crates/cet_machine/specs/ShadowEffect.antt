-- The operations on the shadow stack, as an instruction of a thread makes them, and the exceptions that their refusals are (SDM volume 1,
-- chapter "Control-flow Enforcement Technology (CET)", "Shadow Stacks"; volume 3, interrupts 13, 14 and 21).
use Rattle.std.specs.Prelude.{ℕ, Result, Ok, Err, List}
use Rattle.cet_isa.specs.declared.fault.Fault.{Fault}
use Rattle.cet_isa.specs.declared.fault.Fault.TheVariants.{Page, General, Rstor}
use Rattle.cet_machine.specs.declared.memory.Region.{Region}
use Rattle.cet_machine.specs.declared.shadow_fault.ShadowFault.{ShadowFault}
use Rattle.cet_machine.specs.declared.shadow_fault.ShadowFault.TheVariants.{Pf, Gp, Cp4}
use Rattle.cet_machine.specs.Shadow.{push, pop}
use Rattle.cet_machine.specs.Machine.{Machine, Effect, ◌>>=◌, with_ssp}

abbrev pub fault_of : ShadowFault → Fault
fault_of (Pf a) = Page a
fault_of Gp = General
fault_of (Cp4 word) = Rstor word

-- what an operation on the shadow stack comes to for the thread
abbrev pub by_thread : {A : Type 0} → Result A ShadowFault → Result A Fault
by_thread (Ok x) = Ok x
by_thread (Err e) = Err (fault_of e)

-- m with this memory, and this SSP
abbrev pub with_shadow : List Region → ℕ → Machine → Machine
with_shadow memory ssp m = record { memory = memory; regs = record (m.regs) { ssp = ssp } }

abbrev pub shadow_pushed : ℕ → Machine → Effect
shadow_pushed word m = do
  stack ← by_thread (push m.memory m.regs.ssp word)
  Ok (with_shadow stack.0 stack.1 m)

-- the word on top, and m with SSP above it
abbrev pub shadow_popped : Machine → Result (ℕ × Machine) Fault
shadow_popped m = do
  top ← by_thread (pop m.memory m.regs.ssp)
  Ok (top.0, with_ssp top.1 m)
