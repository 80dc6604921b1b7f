-- Worked examples: a process with little memory, event by event.
use Rattle.std.proofs.Common.{◌≡◌, ℕ, ◌-◌, ◌^◌, List, [], ◌∷◌, ◌++◌, replicate, Bool, true, false, refl, Some, None}
use Rattle.std.specs.Option.{option_map}
use Rattle.cet_isa.specs.declared.registers.Regs.{Regs}
use Rattle.cet_isa.specs.Decoded.{decoded, instruction_at, after_pads}
use Rattle.cet_machine.specs.declared.memory.Kind.TheVariants.{Code, Write, Shadow}
use Rattle.cet_machine.specs.Memory.{bytes_at, loaded, code_at, stored, low_bytes, legal, place, shadow_load}
use Rattle.cet_machine.specs.Shadow as shadow
use Rattle.cet_machine.specs.MoveInstructions.{mov_imm}
use Rattle.cet_machine.specs.ControlInstructions.{call_ind, ret, endbr64}
use Rattle.cet_machine.specs.SystemInstructions.{syscall}
use Rattle.cet_machine.specs.Step.{step}
use Rattle.cet_machine.specs.Signal.{deliver, sigreturn}
use Rattle.cet_process.specs.declared.event.Event.{Event}
use Rattle.cet_process.specs.declared.event.Event.TheVariants.{Step, Signal}
use Rattle.cet_process.specs.State.{State, regs_of}
use Rattle.cet_process.specs.Call.{Answer, mmap, map_shadow_stack}
use Rattle.cet_process.specs.After.{called, after}
use Rattle.cet_process.specs.Run.{state_after}

-- call rax · hlt, then at 0x401010 endbr64 · ret, the same at 0x401020, and at 0x401030 mov rax, 15 · syscall
code : List ℕ
code = 0xff ∷ 0xd0 ∷ 0xf4 ∷ replicate 13 0x90
    ++ (0xf3 ∷ 0x0f ∷ 0x1e ∷ 0xfa ∷ 0xc3 ∷ replicate 11 0x90)
    ++ (0xf3 ∷ 0x0f ∷ 0x1e ∷ 0xfa ∷ 0xc3 ∷ replicate 11 0x90)
    ++ (0x48 ∷ 0xc7 ∷ 0xc0 ∷ 15 ∷ 0 ∷ 0 ∷ 0 ∷ 0x0f ∷ 0x05 ∷ [])

-- one thread at the call, with a handler for signal 10 at 0x401020 and its restorer at 0x401030
process : List ℕ → State
process r = record {
  memory = record { start = 0x401000; kind = Code; bytes = code }
      ∷ record { start = 0x7ffd00000000; kind = Shadow; bytes = replicate 32 0 }
      ∷ record { start = 0x7ffe00000000; kind = Write; bytes = replicate 512 0 } ∷ [];
  mode = record { ibt = true; shstk = true };
  threads = Some (record { r = r; rip = 0x401000; flags = record { cf = false; zf = true; sf = false; of = false }; waiting = false; ssp = 0x7ffd00000020; mask = 0 }) ∷ [];
  actions = replicate 9 None ++ (Some (record { handler = 0x401020; flags = 0x04000000; restorer = 0x401030; mask = 0 }) ∷ replicate 54 None);
  input = [];
  output = [];
  fresh = 0x100000000;
  end = None;
}

at_call : State
at_call = process (0x401010 ∷ 1 ∷ 2 ∷ 3 ∷ 0x7ffe000001f0 ∷ 5 ∷ 6 ∷ 7 ∷ 8 ∷ 9 ∷ 10 ∷ 11 ∷ 12 ∷ 13 ∷ 14 ∷ 15 ∷ [])

go : Event
go = Step 0 0 0

-- A signal between an indirect call and its ENDBR64: after the handler, the thread stands as it stood, and its tracker waits.
signal_returns : regs_of (state_after at_call (go ∷ Signal 0 10 ∷ go ∷ go ∷ go ∷ go ∷ [])) 0 ≡ regs_of (state_after at_call (go ∷ [])) 0
unfolding code process at_call go step code_at bytes_at loaded stored low_bytes decoded instruction_at after_pads call_ind ret endbr64 mov_imm syscall shadow.push shadow.pop deliver sigreturn called after state_after
signal_returns = refl

rip_and_tracker : Regs → ℕ × Bool
rip_and_tracker R = (R.rip, R.waiting)

waits : option_map rip_and_tracker (regs_of (state_after at_call (go ∷ Signal 0 10 ∷ go ∷ go ∷ go ∷ go ∷ [])) 0) ≡ Some (0x401010, true)
unfolding code process at_call go step code_at bytes_at loaded stored low_bytes decoded instruction_at after_pads call_ind ret endbr64 mov_imm syscall shadow.push shadow.pop deliver sigreturn called after state_after rip_and_tracker
waits = refl

-- a thread that asks for a mapping: rdi 0, rsi, rdx, r10 as given, r8 all ones, r9 0
mapping_regs : ℕ → ℕ → ℕ → Regs
mapping_regs len flags prot = record {
  r = 0 ∷ 0 ∷ prot ∷ 0 ∷ 0 ∷ 0 ∷ len ∷ 0 ∷ (2 ^ 64 - 1) ∷ 0 ∷ flags ∷ replicate 5 0;
  rip = 0;
  flags = record { cf = false; zf = false; sf = false; of = false };
  waiting = false;
  ssp = 0;
  mask = 0;
}

-- 100 bytes, which are a page
mapping : ℕ → Answer → Answer
mapping a before = mmap a (mapping_regs 100 0x22 3) before.0

-- the next region stands 65,536 bytes above the last one at least
first : Answer
first = mapping 0x100000000 (at_call, 0)

first_mapping : first.1 ≡ 0x100000000
unfolding code process at_call mapping_regs mapping first mmap legal place
first_mapping = refl

fresh_above : first.0.fresh ≡ 0x100011000
unfolding code process at_call mapping_regs mapping first mmap legal place
fresh_above = refl

too_near : (mapping 0x100010000 first).1 ≡ 2 ^ 64 - 12
unfolding code process at_call mapping_regs mapping first mmap legal place
too_near = refl

far_enough : (mapping 0x100011000 first).1 ≡ 0x100011000
unfolding code process at_call mapping_regs mapping first mmap legal place
far_enough = refl

-- a shadow stack of 4,096 bytes with a restore token
token : shadow_load ((map_shadow_stack 0x100040000 (mapping_regs 4096 0 1) at_call).0.memory) 0x100040ff8 ≡ Some 0x100041001
unfolding code process at_call mapping_regs map_shadow_stack legal place loaded bytes_at stored low_bytes shadow.set_token
token = refl
