-- What was delivered is returned, where the frame and the marked SSP were kept (Linux, Documentation/arch/x86/shstk.rst, "Signal").
use Rattle.std.specs.Prelude.{◌≡◌, ℕ, ◌%◌, ◌^◌, ◌<◌, Bool, true, false, ◌&&◌, List, length, take, All, if◌then◌else◌, Option, Some, Ok}
use Rattle.std.specs.Option.{option_map}
use Rattle.cet_isa.specs.declared.register.Reg.TheVariants.{Rsp}
use Rattle.cet_isa.specs.declared.registers.Regs.{Regs}
use Rattle.cet_isa.specs.declared.registers.Mode.{Mode}
use Rattle.cet_machine.specs.declared.action.Action.{Action}
use Rattle.cet_machine.specs.declared.memory.Kind.{Kind}
use Rattle.cet_machine.specs.declared.memory.Region.{Region}
use Rattle.cet_machine.specs.Memory.{is_any, bytes_at, stored, shadow_load}
use Rattle.cet_machine.specs.MemoryLaws.{IsApart}
use Rattle.cet_machine.specs.Machine.{Machine, plus}
use Rattle.cet_machine.specs.Operand.{value, with_value}
use Rattle.cet_machine.specs.Signal.{frame_size, deliver, sigreturn}

-- a thread's registers are words, and with SHSTK its SSP can be marked
pub record FitsFrame (mode : Mode) (R : Regs) : Type 0 where
  pub count : length R.r ≡ 16
  pub registers : All (λ v. v < 2 ^ 64) R.r
  pub rip : R.rip < 2 ^ 64
  pub mask : R.mask < 2 ^ 64
  pub aligned : mode.shstk ≡ true → R.ssp % 8 ≡ 0
  pub below_mark : mode.shstk ≡ true → R.ssp < 2 ^ 63

-- the bytes of a frame at a; none where no one region holds them
abbrev pub frame_bytes : List Region → ℕ → Option (List ℕ)
frame_bytes M a = option_map (take frame_size) (bytes_at is_any M a frame_size)

-- At k, the handler that began at n has returned to the restorer, and kept what rt_sigreturn reads.
pub record KeepsFrame (mode : Mode) (n k : Machine) : Type 0 where
  -- the handler's RET has popped the frame's first word
  pub rsp : value k.regs Rsp ≡ plus (value n.regs Rsp) 8
  -- the frame's bytes are those of n
  pub frame : frame_bytes k.memory (value n.regs Rsp) ≡ frame_bytes n.memory (value n.regs Rsp)
  -- with SHSTK, the RET has popped the restorer's address
  pub ssp : mode.shstk ≡ true → k.regs.ssp ≡ plus n.regs.ssp 8
  -- and the marked SSP above it is that of n
  pub word : mode.shstk ≡ true → shadow_load k.memory (plus n.regs.ssp 8) ≡ shadow_load n.memory (plus n.regs.ssp 8)
  -- without SHSTK, SSP is that of n
  pub unused : mode.shstk ≡ false → k.regs.ssp ≡ n.regs.ssp

-- The thread has the registers, rip, flags, mask and SSP that it had. Its tracker waits where it waited, with IBT.
abbrev pub DeliveredIsReturned : Type 0
DeliveredIsReturned = (mode : Mode) (action : Action) (signo : ℕ) (m n k : Machine) → FitsFrame mode m.regs → deliver mode action signo m ≡ Ok n
    → KeepsFrame mode n k → sigreturn mode k ≡ Ok (record (m.regs) { waiting = mode.ibt && m.regs.waiting })

-- It is the thread as it was, where a tracker waits with IBT alone.
abbrev pub ExactlyReturned : Type 0
ExactlyReturned = (mode : Mode) (action : Action) (signo : ℕ) (m n k : Machine) → FitsFrame mode m.regs → deliver mode action signo m ≡ Ok n
    → KeepsFrame mode n k → (m.regs.waiting ≡ true → mode.ibt ≡ true) → sigreturn mode k ≡ Ok m.regs

-- ---- what keeps a frame

-- n, with the first word popped off its stack and, with SHSTK, off its shadow stack
abbrev pub popped : Mode → Machine → Machine
popped mode n = record n {
  regs = record (with_value n.regs Rsp (plus (value n.regs Rsp) 8)) { ssp = if mode.shstk then plus n.regs.ssp 8 else n.regs.ssp };
}

-- a handler that is a RET alone keeps it
abbrev pub PopKeepsFrame : Type 0
PopKeepsFrame = (mode : Mode) (n : Machine) → length n.regs.r ≡ 16 → KeepsFrame mode n (popped mode n)

-- a store to other addresses, of whatever kind, leaves the frame's bytes as they were
abbrev pub StoreKeepsFrame : Type 0
StoreKeepsFrame = (allowed : Kind → Bool) (M N : List Region) (b : ℕ) (new : List ℕ) (a : ℕ) → stored allowed M b new ≡ Some N
    → IsApart b (length new) a frame_size → frame_bytes N a ≡ frame_bytes M a
