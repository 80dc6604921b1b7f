-- One instruction that is a piece of its own.
use Rattle.std.proofs.Common.{◌≡◌, ℕ, ◌+◌, ◌^◌, ◌%◌, ◌≤◌, ◌⊎◌, inl, inr, ⊎_elim, true, false, Some, refl, subst, arith, ℤ}
use Rattle.std.proofs.lemmas.Bool.{cases_lt}
use Rattle.cet_isa.specs.declared.register.Reg.TheVariants.{Rax}
use Rattle.cet_isa.specs.declared.operand.Width.TheVariants.{B4}
use Rattle.cet_isa.specs.declared.registers.Mode.{Mode}
use Rattle.cet_machine.specs.ControlInstructions.{endbr64, jmp}
use Rattle.cet_machine.specs.MoveInstructions.{mov_abs}
use Rattle.cet_machine.specs.SystemInstructions.{nop, ud2}
use Rattle.cet_machine.specs.Machine.{Machine, going_to, with_tracker}
use Rattle.cet_machine.specs.Operand.{put}
use Rattle.cet_machine.specs.Step.{step}
use Rattle.cet_rules.specs.declared.covered.Covered.{Covered}
use Rattle.cet_rules.specs.declared.covered.Covered.TheVariants.{EndBr64, Nop, Jmp, MovEax, JmpRax, Ud2}
use Rattle.cet_rules.specs.declared.function.Function.{Function}
use Rattle.cet_rules.specs.declared.image.Image.{Image}
use Rattle.cet_rules.specs.declared.piece.Piece.{Piece}
use Rattle.cet_rules.specs.declared.piece.PieceKind.TheVariants.{Single}
use Rattle.cet_rules.specs.Regular.{IsFunction}
use Rattle.cet_rules.specs.Image.{end_of, LiesIn}
use Rattle.cet_rules.specs.Piece.{instruction_at, IsPiece, IsPieceStart, IsCut, InstructionGoesOn, target}
use Rattle.cet_rules.specs.Rule.{Leaves}
use Rattle.cet_invariant.specs.Contexts.{HasImage}
use Rattle.cet_invariant.specs.Kept.{KeepsRulesIn}
use Rattle.cet_invariant.proofs.Cuts.{goes_on}
use Rattle.cet_invariant.proofs.Decided.{dec_piece_start}
use Rattle.cet_invariant.proofs.Instructions.{instruction_within}
use Rattle.cet_invariant.proofs.Steps.{EndsSoundly, ending, instruction_is_sound, stands_idle, nothing_is_harmless, put_is_harmless, harmless_goes_on}

-- where execution goes on, a piece starts after this one
after_single : (image : Image) (f : Function) (p : Piece) (i : Covered) → KeepsRulesIn image f → IsPiece image f p → p.kind ≡ Single i → InstructionGoesOn i → p.next ≤ end_of f → IsPieceStart image f p.next
after_single image f p i keeps piece kind goes within = goes_on image f p keeps (inl piece) (rw kind goes) (IsCut.after piece.cut piece.stands refl) within

dec_inside : (f : Function) (t : ℕ) → LiesIn t f ⊎ (LiesIn t f → ⊥)
dec_inside f t =
    ⊎_elim (λ below. inr (λ h. absurd (omega (arith, h.0))))
    (λ above. ⊎_elim (λ inside. inl (above, inside)) (λ past. inr (λ h. absurd (omega (arith, h.1)))) (cases_lt t (end_of f)))
    (cases_lt t f.start)

-- a JMP goes to the start of a piece
jump_target : (image : Image) (f : Function) (p : Piece) (rel : ℤ) → KeepsRulesIn image f → (Leaves image f → ⊥) → IsPiece image f p → p.kind ≡ Single (Jmp rel) → IsPieceStart image f (target p.next rel)
jump_target image f p rel keeps stays piece kind = ⊎_elim (λ inside. of_start inside (dec_piece_start image f (target p.next rel))) (λ outside. absurd (stays (p, target p.next rel, piece, (rel, kind, refl), outside))) (dec_inside f (target p.next rel))
  where
    of_start : LiesIn (target p.next rel) f → Dec (IsPieceStart image f (target p.next rel)) → IsPieceStart image f (target p.next rel)
    of_start inside (yes start) = start
    of_start inside (no other) = absurd (keeps.jumps p.at (p, target p.next rel, piece, (rel, kind, refl), inside, other, refl))

-- what each instruction does is sound, where it is a piece of its own
ending_is_sound : (image : Image) (f : Function) (p : Piece) (i : Covered) (mode : Mode) (free : ℕ) (m : Machine) → KeepsRulesIn image f → (Leaves image f → ⊥)
    → IsPiece image f p → p.kind ≡ Single i → p.next ≤ end_of f → (m.regs.waiting ≡ true → i ≡ EndBr64) → EndsSoundly image f (ending i mode free p.next m)
unfolding endbr64 nop jmp mov_abs ud2
ending_is_sound image f p EndBr64 mode free m keeps stays piece kind within landing =
    stands_idle image f (with_tracker false (going_to p.next m)).regs (after_single image f p EndBr64 keeps piece kind tt within) (λ waits. cc)
ending_is_sound image f p Nop mode free m keeps stays piece kind within landing =
    harmless_goes_on image f p.next m (going_to p.next m) (nothing_is_harmless (going_to p.next m)) (after_single image f p Nop keeps piece kind tt within) (λ waits. cc (landing waits))
ending_is_sound image f p (Jmp rel) mode free m keeps stays piece kind within landing =
    stands_idle image f (going_to (target p.next rel) m).regs (jump_target image f p rel keeps stays piece kind) (λ waits. cc (landing waits))
ending_is_sound image f p (MovEax imm) mode free m keeps stays piece kind within landing =
    harmless_goes_on image f p.next m (put B4 Rax (imm % 2 ^ 32) (going_to p.next m)) (put_is_harmless B4 Rax (imm % 2 ^ 32) (going_to p.next m) (λ holds. holds))
    (after_single image f p (MovEax imm) keeps piece kind tt within) (λ waits. cc (landing waits))
ending_is_sound image f p JmpRax mode free m keeps stays piece kind within landing = absurd (keeps.branches p.at (p, piece, kind, refl))
ending_is_sound image f p Ud2 mode free m keeps stays piece kind within landing = refl

pub single_is_sound : (image : Image) (f : Function) (p : Piece) (i : Covered) (n : ℕ) (mode : Mode) (free : ℕ) (m : Machine) → HasImage image m.memory → IsFunction f → KeepsRulesIn image f
    → (Leaves image f → ⊥) → IsPiece image f p → m.regs.rip ≡ p.at → (m.regs.waiting ≡ true → i ≡ EndBr64) → instruction_at image f p.at ≡ Some (i, n) → p.next ≡ p.at + n → p.kind ≡ Single i
    → EndsSoundly image f (step mode free m)
single_is_sound image f p i n mode free m has regular keeps stays piece at landing e next kind =
    let within = instruction_within image f p.at i n e in
    let sound = ending_is_sound image f p i mode free m keeps stays piece kind (omega (arith, next, within.1)) landing in
    instruction_is_sound image f i n mode free m has regular (rw at e) landing
    (subst (λ (a : ℕ). EndsSoundly image f (ending i mode free a m)) (omega (arith, next, at)) sound)
