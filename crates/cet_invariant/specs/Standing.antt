-- Where a thread stands in a function, between two steps, and when its tracker may wait.
use Rattle.std.specs.Prelude.{◌≡◌, ℕ, true, Some}
use Rattle.cet_isa.specs.declared.register.Reg.TheVariants.{Rax}
use Rattle.cet_isa.specs.declared.registers.Regs.{Regs}
use Rattle.cet_rules.specs.declared.covered.Covered.TheVariants.{EndBr64}
use Rattle.cet_rules.specs.declared.function.Function.{Function}
use Rattle.cet_rules.specs.declared.image.Image.{Image}
use Rattle.cet_rules.specs.declared.piece.Piece.{Piece}
use Rattle.cet_rules.specs.declared.piece.PieceKind.{PieceKind}
use Rattle.cet_rules.specs.declared.piece.PieceKind.TheVariants.{ConstJump}
use Rattle.cet_rules.specs.Piece.{instruction_at, IsPiece, IsPrologue}
use Rattle.cet_machine.specs.Operand.{value}

-- What holds inside a piece of several instructions, at one that is not its first. A larger piece adds a case.
abbrev pub IsInside : PieceKind → Regs → Type 0
-- at the branch, RAX holds the entry
IsInside (ConstJump entry branch) R = (R.rip ≡ branch) × (value R Rax ≡ entry)
IsInside kind R = ⊥

-- the places of a function where a thread may stand
pub data StandsAt (image : Image) (f : Function) (R : Regs) : Type 0 where
  -- at the prologue
  prologue : (p : Piece) → IsPrologue image f p → R.rip ≡ p.at → StandsAt image f R
  -- at the start of a piece
  piece : (p : Piece) → IsPiece image f p → R.rip ≡ p.at → StandsAt image f R
  -- inside a piece
  inside : (p : Piece) → IsPiece image f p → IsInside p.kind R → StandsAt image f R

-- an ENDBR64 of the function stands at a
abbrev pub EndBranchAt : Image → Function → ℕ → Type 0
EndBranchAt image f a = (n : ℕ) × (instruction_at image f a ≡ Some (EndBr64, n))

pub record Stands (image : Image) (f : Function) (R : Regs) : Type 0 where
  pub at : StandsAt image f R
  -- the tracker waits only where an ENDBR64 stands
  pub tracker : R.waiting ≡ true → EndBranchAt image f R.rip
