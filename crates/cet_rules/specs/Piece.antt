-- How a function is cut: its positions, and its pieces.
use Rattle.std.specs.Prelude.{◌≡◌, ℕ, ◌+◌, ◌%◌, ◌^◌, ◌<◌, ℤ, Option, Some, None, option_map, Ok, Err}
use Rattle.std.specs.Int.{w64, cast_unsigned}
use Rattle.cet_isa.specs.Decoded.{Decoding, decoded}
use Rattle.cet_rules.specs.declared.covered.Covered.{Covered}
use Rattle.cet_rules.specs.declared.covered.Covered.TheVariants.{EndBr64, Jmp, MovEax, JmpRax, Ud2}
use Rattle.cet_rules.specs.declared.function.Function.{Function}
use Rattle.cet_rules.specs.declared.image.Image.{Image}
use Rattle.cet_rules.specs.declared.piece.Piece.{Piece}
use Rattle.cet_rules.specs.declared.piece.PieceKind.{PieceKind}
use Rattle.cet_rules.specs.declared.piece.PieceKind.TheVariants.{Prologue, ConstJump, Single}
use Rattle.cet_rules.specs.Image.{end_of, code_from}
use Rattle.cet_rules.specs.Covered.{covered_of}

-- the covered instruction among what was decoded, and its length
abbrev pub covered_in : Decoding → Option (Covered × ℕ)
covered_in (Ok x) = option_map (λ i. (i, x.1)) (covered_of x.0)
covered_in (Err e) = None

-- the covered instruction whose form stands at a within the function, and its length
abbrev pub instruction_at : Image → Function → ℕ → Option (Covered × ℕ)
instruction_at image f a = covered_in (decoded (code_from image f a))

-- The positions of a function are the least set that has its start and, with a position where an instruction stands, the
-- address after that instruction while it is inside the function.
pub data IsPosition (image : Image) (f : Function) : ℕ → Type 0 where
  start : IsPosition image f f.start
  after : {a b n : ℕ} {i : Covered} → IsPosition image f a → instruction_at image f a ≡ Some (i, n) → b ≡ a + n → b < end_of f → IsPosition image f b

-- the end of the prologue: after an ENDBR64 at the start, or the start where there is none
abbrev pub prologue_end_by : ℕ → Option (Covered × ℕ) → ℕ
prologue_end_by a (Some (EndBr64, n)) = a + n
prologue_end_by a i = a

abbrev pub prologue_end : Image → Function → ℕ
prologue_end image f = prologue_end_by f.start (instruction_at image f f.start)

abbrev pub single : ℕ → Covered → ℕ → Piece
single a i n = record { at = a; next = a + n; kind = Single i }

-- The piece that begins with this instruction, n bytes long, where that one follows directly: a constant jump, or the instruction alone.
abbrev pub piece_of : ℕ → Covered → ℕ → Option (Covered × ℕ) → Piece
piece_of a (MovEax imm) n (Some (JmpRax, m)) = record { at = a; next = (a + n) + m; kind = ConstJump imm (a + n) }
piece_of a i n following = single a i n

-- the piece other than the prologue that stands at a, or none where no instruction stands there
abbrev pub piece_by : Image → Function → ℕ → Option (Covered × ℕ) → Option Piece
piece_by image f a None = None
piece_by image f a (Some (i, n)) = Some (piece_of a i n (instruction_at image f (a + n)))

abbrev pub piece_at : Image → Function → ℕ → Option Piece
piece_at image f a = piece_by image f a (instruction_at image f a)

-- The addresses that the cutting comes to: the prologue's end, and with an address where a piece stands, that piece's end.
pub data IsCut (image : Image) (f : Function) : ℕ → Type 0 where
  first : {a : ℕ} → a ≡ prologue_end image f → IsCut image f a
  after : {a b : ℕ} {p : Piece} → IsCut image f a → piece_at image f a ≡ Some p → b ≡ p.next → IsCut image f b

-- p is a piece of the function other than the prologue
pub record IsPiece (image : Image) (f : Function) (p : Piece) : Type 0 where
  pub cut : IsCut image f p.at
  pub stands : piece_at image f p.at ≡ Some p

-- p is the function's prologue
pub record IsPrologue (image : Image) (f : Function) (p : Piece) : Type 0 where
  pub kind : p.kind ≡ Prologue
  pub at : p.at ≡ f.start
  pub next : p.next ≡ prologue_end image f
  pub not_empty : p.at < p.next

-- a is the first position of a piece other than the prologue
abbrev pub IsPieceStart : Image → Function → ℕ → Type 0
IsPieceStart image f a = (p : Piece) × IsPiece image f p × (p.at ≡ a)

-- where a relative branch goes: sums are modulo 2^64 (SDM volume 2, JMP)
abbrev pub target : ℕ → ℤ → ℕ
target next rel = (next + cast_unsigned w64 rel) % 2 ^ 64

-- the position of the piece's last instruction
abbrev pub last_position_by : ℕ → PieceKind → ℕ
last_position_by at (ConstJump entry branch) = branch
last_position_by at kind = at

abbrev pub last_position : Piece → ℕ
last_position p = last_position_by p.at p.kind

-- after the instruction, execution may go on to the next address
abbrev pub InstructionGoesOn : Covered → Type 0
InstructionGoesOn (Jmp rel) = ⊥
InstructionGoesOn JmpRax = ⊥
InstructionGoesOn Ud2 = ⊥
InstructionGoesOn i = Unit {0}

-- after the piece, execution may go on to the next address
abbrev pub GoesOn : PieceKind → Type 0
GoesOn Prologue = Unit {0}
GoesOn (ConstJump entry branch) = ⊥
GoesOn (Single i) = InstructionGoesOn i
