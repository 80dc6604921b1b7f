-- When each rule is broken, and where: this project's own. A rule that is not here cannot be broken by the covered instructions.
use Rattle.std.specs.Prelude.{◌≡◌, ℕ, ℤ, Option, Some, None, ◌⊎◌, Contains}
use Rattle.cet_rules.specs.declared.covered.Covered.TheVariants.{EndBr64, Jmp, JmpRax}
use Rattle.cet_rules.specs.declared.function.Function.{Function}
use Rattle.cet_rules.specs.declared.image.Image.{Image}
use Rattle.cet_rules.specs.declared.piece.Piece.{Piece}
use Rattle.cet_rules.specs.declared.piece.PieceKind.TheVariants.{ConstJump, Single}
use Rattle.cet_rules.specs.Image.{end_of, LiesIn, function_at}
use Rattle.cet_rules.specs.Piece.{instruction_at, IsPosition, IsPiece, IsPrologue, IsPieceStart, target, last_position, GoesOn}

-- p is a single JMP to t
abbrev pub JumpsTo : Piece → ℕ → Type 0
JumpsTo p t = (rel : ℤ) × (p.kind ≡ Single (Jmp rel)) × (t ≡ target p.next rel)

-- a JMP of the function goes to outside of it
abbrev pub Leaves : Image → Function → Type 0
Leaves image f = (p : Piece) × (t : ℕ) × IsPiece image f p × JumpsTo p t × ¬ LiesIn t f

-- no function starts at the entry, or the one that does leaves
abbrev pub IsWrongEntry : Image → Option Function → Type 0
IsWrongEntry image None = Unit {0}
IsWrongEntry image (Some f) = Leaves image f

-- Rule 5: the entry is no function's start, or that function has a JMP to outside. Place: the entry.
abbrev pub EntryIsWrong : Image → Type 0
EntryIsWrong image = IsWrongEntry image (function_at image image.entry)

-- Rule 6: no instruction stands at a position. Place: the position.
abbrev pub HasNoForm : Image → Function → ℕ → Type 0
HasNoForm image f a = IsPosition image f a × (instruction_at image f a ≡ None)

-- Rule 8: a JMP to inside its function goes to no piece start of it. Place: the JMP.
abbrev pub JumpIsWrong : Image → Function → ℕ → Type 0
JumpIsWrong image f a = (p : Piece) × (t : ℕ) × IsPiece image f p × JumpsTo p t × LiesIn t f × ¬ IsPieceStart image f t × (a ≡ p.at)

-- Rule 11: the function's last piece can go on to the address after the function. Place: its last position.
abbrev pub RunsOff : Image → Function → ℕ → Type 0
RunsOff image f a = (p : Piece) × (IsPiece image f p ⊎ IsPrologue image f p) × GoesOn p.kind × (p.next ≡ end_of f) × (a ≡ last_position p)

-- t is a piece start of the function, and an ENDBR64 stands there
abbrev pub IsLanding : Image → Function → ℕ → Type 0
IsLanding image f t = (p : Piece) × IsPiece image f p × (p.kind ≡ Single EndBr64) × (p.at ≡ t)

-- Rule 18: the entry of a constant jump is no piece start of its function with ENDBR64. Place: the branch.
abbrev pub EntryIsNoLanding : Image → Function → ℕ → Type 0
EntryIsNoLanding image f a = (p : Piece) × (entry : ℕ) × IsPiece image f p × (p.kind ≡ ConstJump entry a) × ¬ IsLanding image f entry

-- Rule 19: an indirect branch is a single piece. Place: the branch.
abbrev pub BranchIsBare : Image → Function → ℕ → Type 0
BranchIsBare image f a = (p : Piece) × IsPiece image f p × (p.kind ≡ Single JmpRax) × (a ≡ p.at)

-- the rule of this number is broken by the function, at a
abbrev pub BrokenIn : Image → Function → ℕ → ℕ → Type 0
BrokenIn image f rule a =
    ((rule ≡ 6) × HasNoForm image f a) ⊎ (((rule ≡ 8) × JumpIsWrong image f a) ⊎ (((rule ≡ 11) × RunsOff image f a)
    ⊎ (((rule ≡ 18) × EntryIsNoLanding image f a) ⊎ ((rule ≡ 19) × BranchIsBare image f a))))

-- the rule of this number is broken at a
abbrev pub Broken : Image → ℕ → ℕ → Type 0
Broken image rule a =
    ((rule ≡ 5) × (a ≡ image.entry) × EntryIsWrong image) ⊎ ((f : Function) × Contains image.functions f × BrokenIn image f rule a)
