-- Signals: the frame that is put on the data stack, and the return from it. The frame is this project's own. The marked SSP on the shadow
-- stack is Linux's (Documentation/arch/x86/shstk.rst, "Signal").
use Rattle.std.specs.Prelude.{ℕ, zero, suc, ◌+◌, ◌-◌, ◌%◌, ◌^◌, List, [], ◌∷◌, ◌++◌, take, drop, flat_map, slice_index, Bool, false, not, ◌&&◌, ◌==◌, if◌then◌else◌, bit_or, ok_or, Result, Ok}
use Rattle.std.specs.Int.{from_bool}
use Rattle.cet_base.specs.Field.{little_endian}
use Rattle.cet_isa.specs.declared.register.Reg.TheVariants.{Rax, Rdx, Rsp, Rsi, Rdi}
use Rattle.cet_isa.specs.declared.registers.Regs.{Regs}
use Rattle.cet_isa.specs.declared.registers.Mode.{Mode}
use Rattle.cet_isa.specs.declared.fault.Fault.{Fault}
use Rattle.cet_isa.specs.declared.fault.Fault.TheVariants.{Page, General}
use Rattle.cet_machine.specs.declared.action.Action.{Action}
use Rattle.cet_machine.specs.Memory.{is_any, is_write, bytes_at, stored, shadow_load, low_bytes}
use Rattle.cet_machine.specs.Arithmetic.{bit, flags_word, flags_of_word}
use Rattle.cet_machine.specs.Machine.{Machine, Effect, ◌>>=◌, demand, minus}
use Rattle.cet_machine.specs.Operand.{value, with_value}
use Rattle.cet_machine.specs.ShadowEffect.{shadow_pushed}

-- ---- the flags of an action (Linux, include/uapi/asm-generic/signal-defs.h, and for SA_RESTORER arch/x86/include/uapi/asm/signal.h)

abbrev pub sa_siginfo : ℕ
sa_siginfo = 0x4

abbrev pub sa_restorer : ℕ
sa_restorer = 0x04000000

abbrev pub sa_restart : ℕ
sa_restart = 0x10000000

abbrev pub sa_nodefer : ℕ
sa_nodefer = 0x40000000

-- SA_RESTORER, and else nothing but SA_SIGINFO, SA_RESTART and SA_NODEFER
abbrev pub are_action_flags : ℕ → Bool
are_action_flags flags = bit_or flags (sa_siginfo + sa_restart + sa_nodefer) == sa_restorer + sa_siginfo + sa_restart + sa_nodefer

abbrev pub has_nodefer : Action → Bool
has_nodefer action = bit action.flags 30

-- ---- the frame: 26 words

abbrev pub frame_size : ℕ
frame_size = 208

abbrev pub frame_mark : ℕ
frame_mark = 0x4345545349474631

-- Where it stands: below the red zone of 128 bytes, so that as at a function's entry the address above the first word is a multiple of
-- 16 (System V x86-64 psABI, 3.2.2).
abbrev pub frame_address : ℕ → ℕ
frame_address rsp = let x = minus rsp (128 + frame_size) in minus x (minus x 8 % 16)

-- The word that the handler's RET pops, the general-purpose registers in hardware order, rip, flags, tracker, signal number, mask, mark,
-- and three words 0.
abbrev pub frame : Action → ℕ → Regs → List ℕ
frame action signo R = action.restorer ∷ R.r ++ (R.rip ∷ flags_word R.flags ∷ from_bool R.waiting ∷ signo ∷ R.mask ∷ frame_mark ∷ 0 ∷ 0 ∷ 0 ∷ [])

-- words as bytes
abbrev pub bytes_of_words : List ℕ → List ℕ
bytes_of_words words = flat_map (low_bytes 8) words

-- the first n words of some bytes
abbrev pub words_of_bytes : ℕ → List ℕ → List ℕ
words_of_bytes zero bytes = []
words_of_bytes (suc n) bytes = little_endian (take 8 bytes) ∷ words_of_bytes n (drop 8 bytes)

-- ---- delivery

-- an SSP on the shadow stack has bit 63 set, so that no RET goes there: SSP | 2^63
abbrev pub marked : ℕ → ℕ
marked ssp = ssp % 2 ^ 63 + 2 ^ 63

-- with SHSTK, the marked SSP and above it the restorer's address, which the handler's RET pops
abbrev pub shadow_frame : Mode → Action → Machine → Effect
shadow_frame mode action m = if mode.shstk then (do
  with_ssp ← shadow_pushed (marked m.regs.ssp) m
  shadow_pushed action.restorer with_ssp) else Ok m

-- the signals that are blocked while the handler runs
abbrev pub handler_mask : Action → ℕ → ℕ → ℕ
handler_mask action signo mask =
    let blocked = bit_or mask action.mask in
    if has_nodefer action then blocked else bit_or blocked (2 ^ (signo - 1))

-- the handler's arguments: signo in rdi; rsi and rdx are 0
abbrev pub with_arguments : ℕ → Regs → Regs
with_arguments signo R = with_value (with_value (with_value (with_value R Rax 0) Rdx 0) Rsi 0) Rdi signo

-- at the handler's first instruction, with the frame at a
abbrev pub at_handler : Mode → Action → ℕ → ℕ → Regs → Regs
at_handler mode action signo a R = record (with_arguments signo (with_value R Rsp a)) {
  rip = action.handler;
  flags = record { cf = false; zf = false; sf = false; of = false };
  waiting = mode.ibt;
  mask = handler_mask action signo R.mask;
}

-- the thread goes to the handler of the signal, for signo 1 to 64
unfoldable pub deliver : Mode → Action → ℕ → Machine → Effect
deliver mode action signo m = do
  let a = frame_address (value m.regs Rsp)
  memory ← ok_or (stored is_write m.memory a (bytes_of_words (frame action signo m.regs))) (Page a)
  framed ← shadow_frame mode action (record m { memory = memory })
  Ok (record framed { regs = at_handler mode action signo a framed.regs })

-- ---- return (rt_sigreturn), when the handler's RET has popped the frame's first word

-- a marked SSP, which is a multiple of 8
abbrev pub is_marked : ℕ → Bool
is_marked word = bit word 63 && (word % 8 == 0)

-- with SHSTK, the SSP that stands marked on top of the shadow stack
abbrev pub returned_ssp : Mode → Machine → Result ℕ Fault
returned_ssp mode m = if mode.shstk then (do
  word ← ok_or (shadow_load m.memory m.regs.ssp) (Page m.regs.ssp)
  _ ← demand (is_marked word) General
  Ok (word % 2 ^ 63)) else Ok m.regs.ssp

-- the registers that a frame holds
abbrev pub framed_regs : Mode → ℕ → List ℕ → Regs
framed_regs mode ssp words = record {
  r = take 16 (drop 1 words);
  rip = slice_index words 17;
  flags = flags_of_word (slice_index words 18);
  waiting = mode.ibt && not (slice_index words 19 == 0);
  ssp = ssp;
  mask = slice_index words 21;
}

-- the registers of the thread that the signal came to
unfoldable pub sigreturn : Mode → Machine → Result Regs Fault
sigreturn mode m = do
  let a = minus (value m.regs Rsp) 8
  bytes ← ok_or (bytes_at is_any m.memory a frame_size) (Page a)
  let words = words_of_bytes 26 bytes
  _ ← demand (slice_index words 22 == frame_mark) General
  ssp ← returned_ssp mode m
  Ok (framed_regs mode ssp words)
