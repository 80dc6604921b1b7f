-- A constant jump: a constant is moved to EAX, then a branch goes there, where an ENDBR64 stands.
use Rattle.std.proofs.Common.{◌≡◌, ℕ, ◌+◌, ◌^◌, ◌%◌, ◌<◌, true, Some, None, length, sym, ap, ◌∙◌, subst, mod-eq_of_lt}
use Rattle.cet_isa.specs.declared.register.Reg.TheVariants.{Rax}
use Rattle.cet_isa.specs.declared.operand.Width.TheVariants.{B4}
use Rattle.cet_isa.specs.declared.registers.Mode.{Mode}
use Rattle.cet_machine.specs.ControlInstructions.{jmp_ind}
use Rattle.cet_machine.specs.MoveInstructions.{mov_abs}
use Rattle.cet_machine.specs.Machine.{Machine, going_to}
use Rattle.cet_machine.specs.Operand.{value, put}
use Rattle.cet_machine.specs.Step.{step}
use Rattle.cet_machine.proofs.Registers.{written_is_read}
use Rattle.cet_process.specs.Start.{load_error}
use Rattle.cet_rules.specs.declared.covered.Covered.TheVariants.{EndBr64, MovEax, JmpRax}
use Rattle.cet_rules.specs.declared.function.Function.{Function}
use Rattle.cet_rules.specs.declared.image.Image.{Image}
use Rattle.cet_rules.specs.declared.piece.Piece.{Piece}
use Rattle.cet_rules.specs.declared.piece.PieceKind.{PieceKind}
use Rattle.cet_rules.specs.declared.piece.PieceKind.TheVariants.{Prologue, ConstJump, Single}
use Rattle.cet_rules.specs.Regular.{IsFunction}
use Rattle.cet_rules.specs.Piece.{instruction_at, IsPiece}
use Rattle.cet_rules.specs.Rule.{IsLanding}
use Rattle.cet_invariant.specs.Contexts.{HasImage}
use Rattle.cet_invariant.specs.Kept.{KeepsRulesIn}
use Rattle.cet_invariant.specs.Standing.{IsInside, EndBranchAt}
use Rattle.cet_invariant.specs.Standing.StandsAt.{piece, inside}
use Rattle.cet_invariant.proofs.Cuts.{Standing, standing}
use Rattle.cet_invariant.proofs.Cuts.Standing.{one, two}
use Rattle.cet_invariant.proofs.Decided.{dec_landing}
use Rattle.cet_invariant.proofs.Instructions.{one_instruction}
use Rattle.cet_invariant.proofs.Places.{instruction_below}
use Rattle.cet_invariant.proofs.Steps.{EndsSoundly, instruction_is_sound}

-- the entry of a constant jump is a landing
entry_is_landing : (image : Image) (f : Function) (p : Piece) (entry branch : ℕ) → KeepsRulesIn image f → IsPiece image f p → p.kind ≡ ConstJump entry branch → IsLanding image f entry
entry_is_landing image f p entry branch keeps stands kind = of_landing (dec_landing image f entry)
  where
    of_landing : Dec (IsLanding image f entry) → IsLanding image f entry
    of_landing (yes landing) = landing
    of_landing (no never) = absurd (keeps.entries branch (p, entry, stands, kind, never))

-- where an ENDBR64 is a piece of its own, it stands
landing_stands : (image : Image) (f : Function) (p : Piece) → IsPiece image f p → p.kind ≡ Single EndBr64 → EndBranchAt image f p.at
landing_stands image f p stands kind = of_standing (standing image f p.at p stands.stands).1
  where
    of_standing : Standing image f p.at p → EndBranchAt image f p.at
    of_standing (one i n e next single) = let is : i ≡ EndBr64 = cc in (n, subst (λ j. instruction_at image f p.at ≡ Some (j, n)) is e)
    of_standing (two imm n m e later next other) = absurd (cc)

-- a landing is an instruction's address: below 2^32
landing_below : (image : Image) (f : Function) (entry : ℕ) → load_error image ≡ None → IsLanding image f entry → entry < 2 ^ 32
landing_below image f entry loaded (p, stands, kind, at) =
    let here = landing_stands image f p stands kind in
    subst (λ (a : ℕ). a < 2 ^ 32) at (instruction_below image f p.at EndBr64 here.0 loaded here.1)

-- the first instruction: the constant comes to RAX, and the branch is next
pub constant_is_sound : (image : Image) (f : Function) (p : Piece) (imm n : ℕ) (mode : Mode) (free : ℕ) (m : Machine) → HasImage image m.memory → IsFunction f → KeepsRulesIn image f
    → length m.regs.r ≡ 16 → IsPiece image f p → m.regs.rip ≡ p.at → (m.regs.waiting ≡ true → ⊥) → instruction_at image f p.at ≡ Some (MovEax imm, n) → p.kind ≡ ConstJump imm (p.at + n)
    → EndsSoundly image f (step mode free m)
unfolding mov_abs
constant_is_sound image f p imm n mode free m has regular keeps sixteen stands at idle e kind =
    let goes = going_to (m.regs.rip + n) m in
    let low : imm % 2 ^ 32 ≡ imm = mod-eq_of_lt (landing_below image f imm has.loaded (entry_is_landing image f p imm (p.at + n) keeps stands kind)) in
    let holds : value (put B4 Rax (imm % 2 ^ 32) goes).regs Rax ≡ imm = written_is_read goes.regs Rax (imm % 2 ^ 32) sixteen ∙ low in
    let branch : IsInside (ConstJump imm (p.at + n)) (put B4 Rax (imm % 2 ^ 32) goes).regs = (ap (λ (a : ℕ). a + n) at, holds) in
    instruction_is_sound image f (MovEax imm) n mode free m has regular (rw at e) (λ waits. absurd (idle waits))
    (record {
      at = inside p stands (subst (λ (k : PieceKind). IsInside k (put B4 Rax (imm % 2 ^ 32) goes).regs) (sym kind) branch);
      tracker = λ waits. absurd (idle waits);
    })

-- the branch that stands inside a constant jump
branch_stands : (image : Image) (f : Function) (p : Piece) (entry branch : ℕ) → IsPiece image f p → p.kind ≡ ConstJump entry branch → (m : ℕ) × (instruction_at image f branch ≡ Some (JmpRax, m))
branch_stands image f p entry branch stands kind = of_standing (standing image f p.at p stands.stands).1
  where
    of_standing : Standing image f p.at p → (m : ℕ) × (instruction_at image f branch ≡ Some (JmpRax, m))
    of_standing (one i n e next other) = absurd (cc)
    of_standing (two imm n m e later next same) = (m, subst (λ (b : ℕ). instruction_at image f b ≡ Some (JmpRax, m)) (cc) later)

-- the second instruction: the tracker may wait, where an ENDBR64 stands
branch_is_sound : (image : Image) (f : Function) (p : Piece) (entry branch : ℕ) (mode : Mode) (free : ℕ) (m : Machine) → HasImage image m.memory → IsFunction f → KeepsRulesIn image f
    → IsPiece image f p → p.kind ≡ ConstJump entry branch → m.regs.rip ≡ branch → value m.regs Rax ≡ entry → (m.regs.waiting ≡ true → EndBranchAt image f m.regs.rip)
    → EndsSoundly image f (step mode free m)
unfolding jmp_ind
branch_is_sound image f p entry branch mode free m has regular keeps stands kind at holds tracker =
    let (n, read) = branch_stands image f p entry branch stands kind in
    let here : instruction_at image f m.regs.rip ≡ Some (JmpRax, n) = subst (λ (a : ℕ). instruction_at image f a ≡ Some (JmpRax, n)) (sym at) read in
    let (q, is_piece, is_landing, starts) = entry_is_landing image f p entry branch keeps stands kind in
    let rip : value m.regs Rax ≡ q.at = holds ∙ sym starts in
    let idle : m.regs.waiting ≡ true → ⊥ = λ waits. let marked = tracker waits in let is = one_instruction image f m.regs.rip JmpRax EndBr64 n marked.0 here marked.1 in cc in
    instruction_is_sound image f JmpRax n mode free m has regular here (λ waits. absurd (idle waits))
    (record {
      at = piece q is_piece rip;
      tracker = λ waits. subst (EndBranchAt image f) (sym rip) (landing_stands image f q is_piece is_landing);
    })

-- at an instruction inside a piece that is not its first
pub inside_is_sound : (image : Image) (f : Function) (p : Piece) (kind : PieceKind) (mode : Mode) (free : ℕ) (m : Machine) → HasImage image m.memory → IsFunction f → KeepsRulesIn image f
    → IsPiece image f p → p.kind ≡ kind → IsInside kind m.regs → (m.regs.waiting ≡ true → EndBranchAt image f m.regs.rip) → EndsSoundly image f (step mode free m)
inside_is_sound image f p (ConstJump entry branch) mode free m has regular keeps stands kind facts tracker =
    branch_is_sound image f p entry branch mode free m has regular keeps stands kind facts.0 facts.1 tracker
inside_is_sound image f p Prologue mode free m has regular keeps stands kind facts tracker = absurd facts
inside_is_sound image f p (Single i) mode free m has regular keeps stands kind facts tracker = absurd facts
