-- Broken rules with their places, and the one that comes first.
use Rattle.std.specs.Prelude.{◌≡◌, ℕ, ◌<◌, ◌⊎◌, Option, Some, None, slice_get}
use Rattle.cet_rules.specs.declared.covered.Covered.TheVariants.{Jmp, JmpRax, Ud2}
use Rattle.cet_rules.specs.declared.function.Function.{Function}
use Rattle.cet_rules.specs.declared.image.Image.{Image}
use Rattle.cet_rules.specs.declared.piece.Piece.{Piece}
use Rattle.cet_rules.specs.declared.piece.PieceKind.{PieceKind}
use Rattle.cet_rules.specs.declared.piece.PieceKind.TheVariants.{ConstJump, Single}
use Rattle.cet_rules.specs.Image.{end_of, LiesIn}
use Rattle.cet_rules.specs.Piece.{IsPiece, IsPrologue, IsPieceStart, target}
use Rattle.cet_rules.specs.Rule.{JumpsTo, IsLanding, EntryIsWrong, BrokenIn}
use Rattle.cet_rules.specs.First.{ComesFirst}
use Rattle.cet_cert.specs.declared.breach.Breach.{Breach}

-- this rule, at this place
abbrev pub IsOf : Option Breach → ℕ → ℕ → Type 0
IsOf None rule a = ⊥
IsOf (Some b) rule a = (b.rule ≡ rule) × (b.at ≡ a)

-- The breach is the first of those that P holds of, by address, then by rule. There is none only where P holds of nothing.
abbrev pub IsFirstOf : (ℕ → ℕ → Type 0) → Option Breach → Type 0
IsFirstOf P None = (rule a : ℕ) → ¬ P rule a
IsFirstOf P (Some b) = P b.rule b.at × ((s c : ℕ) → P s c → ComesFirst b.rule b.at s c)

-- which rule the piece p breaks, were it of this kind, and where
abbrev pub BreaksAs : Image → Function → Piece → PieceKind → ℕ → ℕ → Type 0
BreaksAs image f p (Single (Jmp rel)) rule a = (rule ≡ 8) × (a ≡ p.at) × LiesIn (target p.next rel) f × ¬ IsPieceStart image f (target p.next rel)
BreaksAs image f p (Single JmpRax) rule a = (rule ≡ 19) × (a ≡ p.at)
BreaksAs image f p (Single Ud2) rule a = ⊥
BreaksAs image f p (ConstJump entry branch) rule a = (rule ≡ 18) × (a ≡ branch) × ¬ IsLanding image f entry
BreaksAs image f p kind rule a = (rule ≡ 11) × (a ≡ p.at) × (p.next ≡ end_of f)

abbrev pub Breaks : Image → Function → Piece → ℕ → ℕ → Type 0
Breaks image f p = BreaksAs image f p p.kind

-- a piece that starts before `here` breaks the rule
abbrev pub BreaksBefore : Image → Function → ℕ → ℕ → ℕ → Type 0
BreaksBefore image f here rule a = (p : Piece) × IsPiece image f p × (p.at < here) × Breaks image f p rule a

-- a piece other than the prologue breaks the rule
abbrev pub PieceBreaks : Image → Function → ℕ → ℕ → Type 0
PieceBreaks image f rule a = (p : Piece) × IsPiece image f p × Breaks image f p rule a

abbrev pub PrologueBreaks : Image → Function → ℕ → ℕ → Type 0
PrologueBreaks image f rule a = (p : Piece) × IsPrologue image f p × Breaks image f p rule a

abbrev pub EntryBreaks : Image → ℕ → ℕ → Type 0
EntryBreaks image rule a = (rule ≡ 5) × (a ≡ image.entry) × EntryIsWrong image

-- the entry, or one of the first n functions breaks the rule
abbrev pub BrokenBelow : Image → ℕ → ℕ → ℕ → Type 0
BrokenBelow image n rule a = EntryBreaks image rule a ⊎ ((f : Function) × (k : ℕ) × (k < n) × (slice_get image.functions k ≡ Some f) × BrokenIn image f rule a)

-- the piece is a JMP to outside of the function
abbrev pub JumpsOut : Function → Piece → Type 0
JumpsOut f p = (t : ℕ) × JumpsTo p t × ¬ LiesIn t f
