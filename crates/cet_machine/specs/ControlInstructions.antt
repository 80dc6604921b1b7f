-- Control transfers (SDM volume 1, 5.1.7 and 6.4; with CET, volume 1, chapter "Control-flow Enforcement Technology (CET)"; volume 2, CALL, RET, JMP, Jcc, ENDBR64).
-- rip is already the address of the next instruction, which a CALL pushes and a displacement counts from.
use Rattle.std.specs.Prelude.{ℕ, Bool, false, not, ◌&&◌, ◌==◌, if◌then◌else◌, ℤ, Ok}
use Rattle.cet_isa.specs.declared.operand.Width.TheVariants.{B8}
use Rattle.cet_isa.specs.declared.operand.Rm.{Rm}
use Rattle.cet_isa.specs.declared.operand.Rel.{Rel}
use Rattle.cet_isa.specs.declared.operand.Rel.TheVariants.{S, L}
use Rattle.cet_isa.specs.declared.operation.Cond.{Cond}
use Rattle.cet_isa.specs.declared.fault.Fault.TheVariants.{NearRet}
use Rattle.cet_isa.specs.declared.registers.Mode.{Mode}
use Rattle.cet_isa.specs.Canonical.{is_zero}
use Rattle.cet_machine.specs.Arithmetic.{holds}
use Rattle.cet_machine.specs.Machine.{Machine, Effect, ◌>>=◌, demand, displaced, going_to, with_tracker}
use Rattle.cet_machine.specs.Operand.{read}
use Rattle.cet_machine.specs.ShadowEffect.{shadow_pushed, shadow_popped}
use Rattle.cet_machine.specs.StackInstructions.{pushed, popped}

-- ---- branches

-- by a displacement from the next instruction
abbrev pub branch : ℤ → Machine → Machine
branch rel m = going_to (displaced m.regs.rip rel) m

abbrev pub displacement : Rel → ℤ
displacement (S rel) = rel
displacement (L rel) = rel

unfoldable pub jmp : Rel → Machine → Effect
jmp rel m = Ok (branch (displacement rel) m)

unfoldable pub jcc : Cond → Rel → Machine → Effect
jcc cond rel m = Ok (if holds cond m.regs.flags then branch (displacement rel) m else m)

-- ---- indirect branches and their tracker

-- Where IBT is on, the target has to be an ENDBR64, unless NOTRACK is written before the branch: the kernel sets NO_TRACK_EN.
abbrev pub tracked : Mode → Bool → Machine → Machine
tracked mode notrack m = with_tracker (mode.ibt && not notrack) m

unfoldable pub jmp_ind : Rm → Bool → Mode → Machine → Effect
jmp_ind target notrack mode m = do
  a ← read B8 target m
  Ok (tracked mode notrack (going_to a m))

-- the tracker becomes idle
unfoldable pub endbr64 : Machine → Effect
endbr64 m = Ok (with_tracker false m)

-- ---- CALL and RET: first the data stack, then with SHSTK the shadow stack

-- the next address on both stacks
abbrev pub called : Mode → Machine → Effect
called mode m = do
  on_data ← pushed m.regs.rip m
  if mode.shstk then shadow_pushed m.regs.rip on_data else Ok on_data

-- a CALL to the next address reads rip, and pushes on the data stack alone
unfoldable pub call : ℤ → Mode → Machine → Effect
call rel mode m = do
  pushed_next ← if is_zero rel then pushed m.regs.rip m else called mode m
  Ok (branch rel pushed_next)

-- the target is read first, with rsp as it was before
unfoldable pub call_ind : Rm → Bool → Mode → Machine → Effect
call_ind target notrack mode m = do
  a ← read B8 target m
  pushed_next ← called mode m
  Ok (tracked mode notrack (going_to a pushed_next))

-- with SHSTK, the word of the shadow stack has to be the address a
abbrev pub checked : Mode → ℕ → Machine → Effect
checked mode a m = if mode.shstk then (do
  shadow ← shadow_popped m
  _ ← demand (a == shadow.0) (NearRet a (shadow.0))
  Ok shadow.1) else Ok m

unfoldable pub ret : Mode → Machine → Effect
ret mode m = do
  top ← popped m
  returned ← checked mode top.0 top.1
  Ok (going_to top.0 returned)
