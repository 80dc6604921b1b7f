-- The prologue: an ENDBR64 at the function's start, after which a piece starts.
use Rattle.std.proofs.Common.{◌≡◌, ℕ, ◌+◌, ◌<◌, ◌≤◌, inr, false, Some, Option, refl, sym, ◌∙◌, subst, arith}
use Rattle.cet_isa.specs.declared.registers.Mode.{Mode}
use Rattle.cet_machine.specs.ControlInstructions.{endbr64}
use Rattle.cet_machine.specs.Machine.{Machine, going_to, with_tracker}
use Rattle.cet_machine.specs.Step.{step}
use Rattle.cet_rules.specs.declared.covered.Covered.{Covered}
use Rattle.cet_rules.specs.declared.covered.Covered.TheVariants.{EndBr64}
use Rattle.cet_rules.specs.declared.function.Function.{Function}
use Rattle.cet_rules.specs.declared.image.Image.{Image}
use Rattle.cet_rules.specs.declared.piece.Piece.{Piece}
use Rattle.cet_rules.specs.Regular.{IsFunction}
use Rattle.cet_rules.specs.Image.{end_of}
use Rattle.cet_rules.specs.Piece.{instruction_at, prologue_end_by, IsPrologue, IsPieceStart, IsCut, GoesOn}
use Rattle.cet_invariant.specs.Contexts.{HasImage}
use Rattle.cet_invariant.specs.Kept.{KeepsRulesIn}
use Rattle.cet_invariant.proofs.Cuts.{goes_on}
use Rattle.cet_invariant.proofs.Instructions.{instruction_within}
use Rattle.cet_invariant.proofs.Steps.{EndsSoundly, instruction_is_sound, stands_idle}

-- where the prologue is not empty, an ENDBR64 stands at the start
of_prologue : (start : ℕ) (o : Option (Covered × ℕ)) → start < prologue_end_by start o → (n : ℕ) × (o ≡ Some (EndBr64, n)) × (prologue_end_by start o ≡ start + n)
of_prologue start (Some (EndBr64, n)) h = (n, refl, refl)
of_prologue start o h = absurd (omega arith)

-- a piece starts after the prologue
after_prologue : (image : Image) (f : Function) (p : Piece) → KeepsRulesIn image f → IsPrologue image f p → p.next ≤ end_of f → IsPieceStart image f p.next
after_prologue image f p keeps prologue within = goes_on image f p keeps (inr prologue) (subst GoesOn (sym prologue.kind) tt) (IsCut.first prologue.next) within

pub prologue_is_sound : (image : Image) (f : Function) (p : Piece) (mode : Mode) (free : ℕ) (m : Machine) → HasImage image m.memory → IsFunction f → KeepsRulesIn image f
    → IsPrologue image f p → m.regs.rip ≡ p.at → EndsSoundly image f (step mode free m)
unfolding endbr64
prologue_is_sound image f p mode free m has regular keeps prologue at =
    let here : m.regs.rip ≡ f.start = at ∙ prologue.at in
    let read = of_prologue f.start (instruction_at image f f.start) (omega (arith, prologue.not_empty, prologue.at, prologue.next)) in
    let next : p.next ≡ f.start + read.0 = prologue.next ∙ read.2 in
    let within = instruction_within image f f.start EndBr64 read.0 read.1 in
    let start = after_prologue image f p keeps prologue (omega (arith, next, within.1)) in
    instruction_is_sound image f EndBr64 read.0 mode free m has regular (subst (λ (b : ℕ). instruction_at image f b ≡ Some (EndBr64, read.0)) (sym here) read.1) (λ waits. refl)
    (stands_idle image f (with_tracker false (going_to (m.regs.rip + read.0) m)).regs (subst (IsPieceStart image f) (omega (arith, next, here)) start) (λ waits. cc))
