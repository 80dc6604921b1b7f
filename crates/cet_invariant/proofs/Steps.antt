-- What a lemma on a kind of piece owes, the step that it looks at, and the instructions that change little.
use Rattle.std.proofs.Common.{◌≡◌, ℕ, ◌+◌, ◌%◌, ◌^◌, inl, inr, true, false, Some, refl, sym, ap, ◌∙◌, subst, arith, mod-eq_of_lt}
use Rattle.cet_isa.specs.declared.register.Reg.{Reg}
use Rattle.cet_isa.specs.declared.register.Reg.TheVariants.{Rsp, Rbp, R15}
use Rattle.cet_isa.specs.declared.operand.Width.{Width}
use Rattle.cet_isa.specs.declared.instruction.Insn.{Insn}
use Rattle.cet_isa.specs.declared.registers.Mode.{Mode}
use Rattle.cet_isa.specs.declared.registers.Regs.{Regs}
use Rattle.cet_machine.specs.Machine.{Machine, going_to}
use Rattle.cet_machine.specs.Meaning.{meaning}
use Rattle.cet_machine.specs.Operand.{value, put, merged}
use Rattle.cet_machine.specs.Step as machine
use Rattle.cet_machine.specs.Step.{StepEnd, step_end, step}
use Rattle.cet_machine.proofs.Registers.{others_stay}
use Rattle.cet_rules.specs.declared.covered.Covered.{Covered}
use Rattle.cet_rules.specs.declared.covered.Covered.TheVariants.{EndBr64}
use Rattle.cet_rules.specs.declared.function.Function.{Function}
use Rattle.cet_rules.specs.declared.image.Image.{Image}
use Rattle.cet_rules.specs.Regular.{IsFunction}
use Rattle.cet_rules.specs.Piece.{instruction_at, IsPieceStart}
use Rattle.cet_process.specs.Run.{is_control_protection}
use Rattle.cet_invariant.specs.Standing.{Stands}
use Rattle.cet_invariant.specs.Standing.StandsAt.{piece}
use Rattle.cet_invariant.specs.Contexts.{HasImage}
use Rattle.cet_invariant.proofs.Instructions.{read_form, instruction_within, value_covered, one_value}
use Rattle.cet_invariant.proofs.Fetched.{form_runs}

-- ---- where a step ends

-- The thread stands in the function, or a fault other than control protection ends the process. So far no instruction enters the kernel.
abbrev pub EndsSoundly : Image → Function → StepEnd → Type 0
EndsSoundly image f (machine.Next m) = Stands image f m.regs
EndsSoundly image f (machine.Syscall R) = ⊥
EndsSoundly image f (machine.Faulted fault) = is_control_protection fault ≡ false

-- what the instruction does, where the next one stands at `next`
abbrev pub ending : Covered → Mode → ℕ → ℕ → Machine → StepEnd
ending i mode free next m = step_end (value_covered i) (meaning (value_covered i) mode free (going_to next m))

-- A step at an instruction of the function ends soundly, if what the instruction does is sound.
pub instruction_is_sound : (image : Image) (f : Function) (i : Covered) (n : ℕ) (mode : Mode) (free : ℕ) (m : Machine) → HasImage image m.memory → IsFunction f
    → instruction_at image f m.regs.rip ≡ Some (i, n) → (m.regs.waiting ≡ true → i ≡ EndBr64)
    → EndsSoundly image f (ending i mode free (m.regs.rip + n) m) → EndsSoundly image f (step mode free m)
instruction_is_sound image f i n mode free m has regular e landing sound =
    let read = read_form image f m.regs.rip i n e in
    let within = instruction_within image f m.regs.rip i n e in
    let is : read.0 ≡ value_covered i = one_value read.0 i read.2 in
    let next : (m.regs.rip + n) % 2 ^ 64 ≡ m.regs.rip + n = mod-eq_of_lt (omega (arith, within.1, regular.in_range)) in
    elim (form_runs image f read.0 n mode free m has read.1 (λ waits. is ∙ ap value_covered (landing waits))) [
      | inl runs ↦ subst (EndsSoundly image f)
          (sym (runs ∙ ap (λ (x : Insn). step_end x (meaning x mode free (going_to ((m.regs.rip + n) % 2 ^ 64) m))) is
          ∙ ap (λ (a : ℕ). ending i mode free a m) next)) sound
      | inr page ↦ subst (EndsSoundly image f) (sym page.1) refl
    ]

-- a thread with an idle tracker, at the start of a piece
pub stands_idle : (image : Image) (f : Function) (R : Regs) → IsPieceStart image f R.rip → (R.waiting ≡ true → ⊥) → Stands image f R
stands_idle image f R start idle = record { at = piece start.0 start.1 (sym start.2); tracker = λ waits. absurd (idle waits) }

-- ---- harmless instructions: they write registers other than those that activations stand on, and flags, and go on

-- RSP, RBP and R15
abbrev pub HoldsActivation : Reg → Type 0
HoldsActivation Rsp = Unit {0}
HoldsActivation Rbp = Unit {0}
HoldsActivation R15 = Unit {0}
HoldsActivation reg = ⊥

-- n is m but for flags and for registers that are none of these
pub record IsHarmless (m n : Machine) : Type 0 where
  pub memory : n.memory ≡ m.memory
  pub rip : n.regs.rip ≡ m.regs.rip
  pub tracker : n.regs.waiting ≡ m.regs.waiting
  pub ssp : n.regs.ssp ≡ m.regs.ssp
  pub registers : (reg : Reg) → HoldsActivation reg → value n.regs reg ≡ value m.regs reg

pub nothing_is_harmless : (m : Machine) → IsHarmless m m
nothing_is_harmless m = record { memory = refl; rip = refl; tracker = refl; ssp = refl; registers = λ reg holds. refl }

-- a result in a register
pub put_is_harmless : (w : Width) (reg : Reg) (v : ℕ) (m : Machine) → (HoldsActivation reg → ⊥) → IsHarmless m (put w reg v m)
put_is_harmless w reg v m free = record {
  memory = refl;
  rip = refl;
  tracker = refl;
  ssp = refl;
  registers = λ other holds. others_stay m.regs reg other (merged w (value m.regs reg) v) (λ same. free (subst HoldsActivation same holds));
}

-- after a harmless instruction the thread stands at the start of the next piece
pub harmless_goes_on : (image : Image) (f : Function) (next : ℕ) (m n : Machine) → IsHarmless (going_to next m) n → IsPieceStart image f next → (m.regs.waiting ≡ true → ⊥) → Stands image f n.regs
harmless_goes_on image f next m n harmless start idle =
    stands_idle image f n.regs (subst (IsPieceStart image f) (sym harmless.rip) start) (λ waits. idle (sym harmless.tracker ∙ waits))
