-- Programs that miss an ENDBR64. Each breaks one rule alone, so the law needs that rule. Code begins at the entry, 0x401000.
use Rattle.std.proofs.Common.{◌≡◌, ℕ, true, false, List, [], ◌∷◌, replicate, Some, None, refl}
use Rattle.cet_isa.specs.declared.fault.Fault.TheVariants.{EndBranch}
use Rattle.cet_isa.specs.Decoded.{instruction_at, decoded}
use Rattle.cet_machine.specs.declared.memory.Kind.TheVariants.{Code}
use Rattle.cet_machine.specs.Memory.{bytes_at, code_at}
use Rattle.cet_machine.specs.MoveInstructions.{mov_abs}
use Rattle.cet_machine.specs.ControlInstructions.{jmp, jmp_ind}
use Rattle.cet_machine.specs.SystemInstructions.{nop}
use Rattle.cet_machine.specs.Step.{step}
use Rattle.cet_process.specs.declared.event.Event.TheVariants.{Step}
use Rattle.cet_process.specs.declared.outcome.Outcome.TheVariants.{Died}
use Rattle.cet_process.specs.State.{State}
use Rattle.cet_process.specs.After.{after}
use Rattle.cet_process.specs.Run.{state_after}

-- the code, and a thread at its first byte
process : List ℕ → State
process code = record {
  memory = record { start = 0x401000; kind = Code; bytes = code } ∷ [];
  mode = record { ibt = true; shstk = true };
  threads = Some (record { r = replicate 16 0; rip = 0x401000; flags = record { cf = false; zf = false; sf = false; of = false }; waiting = false; ssp = 0; mask = 0 }) ∷ [];
  actions = replicate 64 None;
  input = [];
  output = [];
  fresh = 0x100000000;
  end = None;
}

-- after so many steps the thread dies at this address, where no ENDBR64 stands
abbrev Misses : ℕ → ℕ → List ℕ → Type 0
Misses steps at code = (state_after (process code) (replicate steps (Step 0 0 0))).end ≡ Some (Died 0 EndBranch at)

-- mov eax, 0x401000; jmp rax. Rule 5: no function. Rule 6: the function ends after FF. Rule 11: the function ends after the MOV. Rule 18: the
-- function is all of it, and its constant jump goes to its own start, where no ENDBR64 stands.
bare_jump : Misses 3 0x401000 (0xB8 ∷ 0x00 ∷ 0x10 ∷ 0x40 ∷ 0x00 ∷ 0xFF ∷ 0xE0 ∷ [])
unfolding process state_after after step code_at bytes_at decoded instruction_at mov_abs jmp_ind
bare_jump = refl

-- mov eax, 0x401000; jmp .+2; jmp rax. Rule 5: the function ends after the first JMP, which leaves it.
jump_outside : Misses 4 0x401000 (0xB8 ∷ 0x00 ∷ 0x10 ∷ 0x40 ∷ 0x00 ∷ 0xEB ∷ 0x00 ∷ 0xFF ∷ 0xE0 ∷ [])
unfolding process state_after after step code_at bytes_at decoded instruction_at mov_abs jmp jmp_ind
jump_outside = refl

-- mov eax, 0xe0ff; mov eax, 0x401000; jmp 0x401001. Rule 8: the JMP goes into the first constant, whose bytes are a jmp rax.
jump_into_constant : Misses 5 0x401000 (0xB8 ∷ 0xFF ∷ 0xE0 ∷ 0x00 ∷ 0x00 ∷ 0xB8 ∷ 0x00 ∷ 0x10 ∷ 0x40 ∷ 0x00 ∷ 0xEB ∷ 0xF5 ∷ [])
unfolding process state_after after step code_at bytes_at decoded instruction_at mov_abs jmp jmp_ind
jump_into_constant = refl

-- mov eax, 0x401000; nop; jmp rax. Rule 19: the NOP keeps the two from being a constant jump.
single_jump : Misses 4 0x401000 (0xB8 ∷ 0x00 ∷ 0x10 ∷ 0x40 ∷ 0x00 ∷ 0x90 ∷ 0xFF ∷ 0xE0 ∷ [])
unfolding process state_after after step code_at bytes_at decoded instruction_at mov_abs nop jmp_ind
single_jump = refl
