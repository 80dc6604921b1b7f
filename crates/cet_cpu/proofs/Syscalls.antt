-- A SYSCALL writes no memory.
use Rattle.std.proofs.Common.{◌≡◌, ℕ, true, List, Ok, Err, refl, ap, ◌∙◌}
use Rattle.cet_isa.specs.declared.instruction.Insn.{Insn}
use Rattle.cet_isa.specs.declared.instruction.Insn.TheVariants as insn
use Rattle.cet_isa.specs.declared.registers.Regs.{Regs}
use Rattle.cet_isa.specs.declared.registers.Mode.{Mode}
use Rattle.cet_machine.specs.declared.memory.Region.{Region}
use Rattle.cet_machine.specs.Machine.{Effect}
use Rattle.cet_machine.specs.Meaning.{meaning}
use Rattle.cet_machine.specs.Step.{is_syscall}
use Rattle.cet_machine.specs.SystemInstructions.{syscall}
use Rattle.cet_cpu.specs.Answer.{machine}

is_it : (i : Insn) → is_syscall i ≡ true → i ≡ insn.Syscall
is_it insn.Syscall e = refl
is_it i e = absurd (cc)

memory_or : List Region → Effect → List Region
memory_or M (Ok m) = m.memory
memory_or M (Err f) = M

pub syscall_keeps : (i : Insn) (mode : Mode) (free : ℕ) (M N : List Region) (R S : Regs) → is_syscall i ≡ true
    → Ok (machine N S) ≡ meaning i mode free (machine M R) → N ≡ M
unfolding syscall memory_or
syscall_keeps i mode free M N R S is e =
    let done : Ok (machine N S) ≡ meaning insn.Syscall mode free (machine M R) = e ∙ ap (λ (j : Insn). meaning j mode free (machine M R)) (is_it i is) in
    ap (memory_or M) done
