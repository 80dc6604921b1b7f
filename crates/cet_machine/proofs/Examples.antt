-- Worked examples: short programs, computed step by step. A code region at 0x401000, 32 bytes of data stack and of shadow stack.
use Rattle.std.proofs.Common.{◌≡◌, ℕ, zero, suc, Bool, List, [], ◌∷◌, ◌++◌, replicate, true, false, Option, Some, Result, Ok, Err, refl}
use Rattle.cet_isa.specs.declared.fault.Fault.TheVariants.{NearRet, EndBranch, Rstor}
use Rattle.cet_isa.specs.declared.registers.Mode.{Mode}
use Rattle.cet_isa.specs.Decoded.{decoded, instruction_at, after_pads}
use Rattle.cet_machine.specs.declared.memory.Kind.TheVariants.{Code, Write, Shadow}
use Rattle.cet_machine.specs.declared.memory.Region.{Region}
use Rattle.cet_machine.specs.Memory.{bytes_at, loaded, code_at, stored, low_bytes, shadow_load}
use Rattle.cet_machine.specs.Shadow as shadow
use Rattle.cet_machine.specs.declared.shadow_fault.ShadowFault.{ShadowFault}
use Rattle.cet_machine.specs.declared.shadow_fault.ShadowFault.TheVariants.{Cp4}
use Rattle.cet_machine.specs.Machine.{Machine, ◌>>=◌}
use Rattle.cet_machine.specs.MoveInstructions.{mov_abs, mov_imm}
use Rattle.cet_machine.specs.ControlInstructions.{call, call_ind, ret}
use Rattle.cet_machine.specs.CetInstructions.{rd_ssp, rstor_ssp}
use Rattle.cet_machine.specs.Step.{StepEnd, Next, Syscall, Faulted, step}
use Rattle.cet_machine.specs.Signal.{frame_address, are_action_flags}

both : Mode
both = record { ibt = true; shstk = true }

-- a thread at the first byte of the code, with empty stacks
at_start : List ℕ → Machine
at_start code = record {
  memory = record { start = 0x401000; kind = Code; bytes = code }
      ∷ record { start = 0x7ffd00000000; kind = Shadow; bytes = replicate 32 0 }
      ∷ record { start = 0x7ffe00000000; kind = Write; bytes = replicate 32 0 } ∷ [];
  regs = record {
    r = 0 ∷ 0 ∷ 0 ∷ 0 ∷ 0x7ffe00000020 ∷ replicate 11 0;
    rip = 0x401000;
    flags = record { cf = false; zf = false; sf = false; of = false };
    waiting = false;
    ssp = 0x7ffd00000020;
    mask = 0;
  };
}

-- a step, where the thread still goes on
abbrev go_on : StepEnd → StepEnd
go_on (Next m) = step both 0 m
go_on (Syscall R) = Syscall R
go_on (Faulted fault) = Faulted fault

abbrev steps : ℕ → Machine → StepEnd
steps zero m = Next m
steps (suc n) m = go_on (steps n m)

-- call +2 · call +0, which leaves the shadow stack alone · ret
returns_to_another_address : steps 3 (at_start (0xe8 ∷ 2 ∷ 0 ∷ 0 ∷ 0 ∷ 0x0f ∷ 0x0b ∷ 0xe8 ∷ 0 ∷ 0 ∷ 0 ∷ 0 ∷ 0xc3 ∷ [])) ≡ Faulted (NearRet 0x40100c 0x401005)
unfolding both at_start step code_at bytes_at loaded stored low_bytes decoded instruction_at after_pads call ret shadow.push shadow.pop
returns_to_another_address = refl

-- call +2 · mov qword [rsp], 0 · ret
returns_to_a_stored_address : steps 3 (at_start (0xe8 ∷ 2 ∷ 0 ∷ 0 ∷ 0 ∷ 0x0f ∷ 0x0b ∷ 0x48 ∷ 0xc7 ∷ 0x04 ∷ 0x24 ∷ 0 ∷ 0 ∷ 0 ∷ 0 ∷ 0xc3 ∷ [])) ≡ Faulted (NearRet 0 0x401005)
unfolding both at_start step code_at bytes_at loaded stored low_bytes decoded instruction_at after_pads call ret mov_imm shadow.push shadow.pop
returns_to_a_stored_address = refl

-- call +2 · rdssp rax · rstorssp [rax]: a return address is no token of its place
restores_no_token : steps 3 (at_start (0xe8 ∷ 2 ∷ 0 ∷ 0 ∷ 0 ∷ 0x0f ∷ 0x0b ∷ 0xf3 ∷ 0x48 ∷ 0x0f ∷ 0x1e ∷ 0xc8 ∷ 0xf3 ∷ 0x0f ∷ 0x01 ∷ 0x28 ∷ [])) ≡ Faulted (Rstor 0x401005)
unfolding both at_start step code_at bytes_at loaded stored low_bytes decoded instruction_at after_pads call rd_ssp rstor_ssp shadow.push shadow.rstorssp
restores_no_token = refl

-- mov eax, 0x401007 · call rax, to a NOP
misses_endbr64 : steps 3 (at_start (0xb8 ∷ 0x07 ∷ 0x10 ∷ 0x40 ∷ 0 ∷ 0xff ∷ 0xd0 ∷ 0x90 ∷ 0x0f ∷ 0x0b ∷ [])) ≡ Faulted EndBranch
unfolding both at_start step code_at bytes_at loaded stored low_bytes decoded instruction_at after_pads mov_abs call_ind shadow.push
misses_endbr64 = refl

-- Two stacks in one region, the second one with a restore token at 0x7ffd00000008. RSTORSSP goes on with the second; SAVEPREVSSP puts a
-- restore token on the first one, whose top was at 0x7ffd00000020.
two_stacks : List Region
two_stacks = record { start = 0x7ffd00000000; kind = Shadow; bytes = replicate 8 0 ++ (0x11 ∷ 0 ∷ 0 ∷ 0 ∷ 0xfd ∷ 0x7f ∷ 0 ∷ 0 ∷ replicate 16 0) } ∷ []

goes_on : Result (ℕ × Bool × Option ℕ) ShadowFault
goes_on = shadow.rstorssp two_stacks 0x7ffd00000020 0x7ffd00000008 >>= λ x. Ok (x.1, x.2, shadow_load x.0 0x7ffd00000008)

restores : goes_on ≡ Ok (0x7ffd00000008, false, Some 0x7ffd00000023)
unfolding goes_on two_stacks shadow.rstorssp bytes_at loaded stored low_bytes
restores = refl

leaves_a_token : Result (ℕ × Option ℕ) ShadowFault
leaves_a_token = shadow.rstorssp two_stacks 0x7ffd00000020 0x7ffd00000008 >>= λ x. shadow.saveprevssp x.0 x.1 x.2 >>= λ y. Ok (y.1, shadow_load y.0 0x7ffd00000018)

saves : leaves_a_token ≡ Ok (0x7ffd00000010, Some 0x7ffd00000021)
unfolding leaves_a_token two_stacks shadow.rstorssp shadow.saveprevssp bytes_at loaded stored low_bytes
saves = refl

-- a previous-SSP token is no restore token
one_previous : List Region
one_previous = record { start = 0x7ffd00000000; kind = Shadow; bytes = 0x0b ∷ 0 ∷ 0 ∷ 0 ∷ 0xfd ∷ 0x7f ∷ 0 ∷ 0 ∷ [] } ∷ []

refuses : shadow.rstorssp one_previous 0x7ffd00000020 0x7ffd00000000 ≡ Err (Cp4 0x7ffd0000000b)
unfolding one_previous shadow.rstorssp bytes_at loaded
refuses = refl

-- the flags of an action: SA_RESTORER with any of three others, and with no other
takes_restorer : are_action_flags 0x04000000 ≡ true
takes_restorer = refl

takes_all : are_action_flags 0x54000004 ≡ true
takes_all = refl

wants_restorer : are_action_flags 0x50000004 ≡ false
wants_restorer = refl

takes_no_onstack : are_action_flags 0x0c000000 ≡ false
takes_no_onstack = refl

-- where the frame of a signal stands
frame_at_the_start : frame_address 0x7ffe000fffc0 ≡ 0x7ffe000ffe68
frame_at_the_start = refl
