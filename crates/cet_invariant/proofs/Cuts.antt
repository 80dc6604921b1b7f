-- The pieces of a function: what stands at them, that they begin at positions, and where one follows another.
use Rattle.std.proofs.Common.{◌≡◌, ℕ, ◌+◌, ◌<◌, ◌≤◌, ◌⊎◌, ⊎_elim, Some, None, Option, refl, sym, ap, ◌∙◌, subst, arith}
use Rattle.std.proofs.lemmas.Bool.{cases_lt}
use Rattle.cet_rules.specs.declared.covered.Covered.{Covered}
use Rattle.cet_rules.specs.declared.covered.Covered.TheVariants.{EndBr64, MovEax, JmpRax}
use Rattle.cet_rules.specs.declared.function.Function.{Function}
use Rattle.cet_rules.specs.declared.image.Image.{Image}
use Rattle.cet_rules.specs.declared.piece.Piece.{Piece}
use Rattle.cet_rules.specs.declared.piece.PieceKind.TheVariants.{ConstJump, Single}
use Rattle.cet_rules.specs.Image.{end_of}
use Rattle.cet_rules.specs.Piece.{instruction_at, IsPosition, IsCut, IsPiece, IsPieceStart, IsPrologue, GoesOn, last_position, prologue_end_by, piece_at, piece_by, piece_of, single}
use Rattle.cet_invariant.specs.Kept.{KeepsRulesIn}
use Rattle.cet_invariant.proofs.Instructions.{instruction_within}

-- what stands at a piece that begins at a: one instruction, or a constant jump's two
pub data Standing (image : Image) (f : Function) (a : ℕ) (p : Piece) : Type 0 where
  one : (i : Covered) (n : ℕ) → instruction_at image f a ≡ Some (i, n) → p.next ≡ a + n → p.kind ≡ Single i → Standing image f a p
  two : (imm n m : ℕ) → instruction_at image f a ≡ Some (MovEax imm, n) → instruction_at image f (a + n) ≡ Some (JmpRax, m) → p.next ≡ (a + n) + m → p.kind ≡ ConstJump imm (a + n) → Standing image f a p

Stood : Image → Function → ℕ → Piece → Type 0
Stood image f a p = (p.at ≡ a) × Standing image f a p

alone : (image : Image) (f : Function) (a : ℕ) (p : Piece) (i : Covered) (n : ℕ) → instruction_at image f a ≡ Some (i, n) → single a i n ≡ p → Stood image f a p
unfolding Stood
alone image f a p i n e h = (sym (ap (λ (q : Piece). q.at) h), one i n e (sym (ap (λ (q : Piece). q.next) h)) (sym (ap (λ (q : Piece). q.kind) h)))

of_second : (image : Image) (f : Function) (a : ℕ) (p : Piece) (i : Covered) (n : ℕ) (o : Option (Covered × ℕ)) → instruction_at image f a ≡ Some (i, n) → instruction_at image f (a + n) ≡ o → piece_of a i n o ≡ p → Stood image f a p
unfolding Stood
of_second image f a p (MovEax imm) n (Some (JmpRax, m)) e then h = (sym (ap (λ (q : Piece). q.at) h), two imm n m e then (sym (ap (λ (q : Piece). q.next) h)) (sym (ap (λ (q : Piece). q.kind) h)))
of_second image f a p i n o e then h = alone image f a p i n e h

of_first : (image : Image) (f : Function) (a : ℕ) (p : Piece) (o : Option (Covered × ℕ)) → instruction_at image f a ≡ o → piece_by image f a o ≡ Some p → Stood image f a p
of_first image f a p None e h = absurd cc
of_first image f a p (Some (i, n)) e h = of_second image f a p i n (instruction_at image f (a + n)) e refl cc

pub standing : (image : Image) (f : Function) (a : ℕ) (p : Piece) → piece_at image f a ≡ Some p → (p.at ≡ a) × Standing image f a p
unfolding Stood
standing image f a p e = of_first image f a p (instruction_at image f a) refl e

-- a piece has a byte at least
pub piece_ascends : (image : Image) (f : Function) (a : ℕ) (p : Piece) → piece_at image f a ≡ Some p → a < p.next
piece_ascends image f a p e = of_standing (standing image f a p e).1
  where
    of_standing : Standing image f a p → a < p.next
    of_standing (one i n at next kind) = let w = instruction_within image f a i n at in omega (arith, w.0, next)
    of_standing (two imm n m at then next kind) = let w = instruction_within image f a (MovEax imm) n at in omega (arith, w.0, next)

prologue_is_position : (image : Image) (f : Function) (o : Option (Covered × ℕ)) → instruction_at image f f.start ≡ o → prologue_end_by f.start o < end_of f → IsPosition image f (prologue_end_by f.start o)
prologue_is_position image f (Some (EndBr64, n)) e h = IsPosition.after IsPosition.start e refl h
prologue_is_position image f o e h = IsPosition.start

-- a piece's end inside the function is a position, where its start is one
next_is_position : (image : Image) (f : Function) (a b : ℕ) (p : Piece) → (a < end_of f → IsPosition image f a) → Standing image f a p → b ≡ p.next → b < end_of f → IsPosition image f b
next_is_position image f a b p before (one i n at next kind) e h =
    IsPosition.after (before (omega (arith, next))) at (e ∙ next) h
next_is_position image f a b p before (two imm n m at then next kind) e h =
    IsPosition.after (IsPosition.after (before (omega (arith, next))) at refl (omega (arith, next, (instruction_within image f (a + n) JmpRax m then).0))) then (e ∙ next) h

-- an address inside the function that the cutting comes to is a position
pub cut_is_position : (image : Image) (f : Function) {a : ℕ} → IsCut image f a → a < end_of f → IsPosition image f a
cut_is_position image f (IsCut.first e) h = rw e (prologue_is_position image f (instruction_at image f f.start) refl (rw e at h))
cut_is_position image f (IsCut.after {a = b} {p = p} cut stands next) h =
    next_is_position image f b _ p (cut_is_position image f cut) (standing image f b p stands).1 next h

pub piece_starts : (image : Image) (f : Function) (a : ℕ) (p : Piece) → IsCut image f a → piece_at image f a ≡ Some p → IsPieceStart image f a
piece_starts image f a p cut e =
    let at = (standing image f a p e).0 in
    (p, record { cut = rw at cut; stands = subst (λ (b : ℕ). piece_at image f b ≡ Some p) (sym at) e }, at)

-- an address inside the function that the cutting comes to is the start of a piece, where an instruction stands at each position
pub cut_is_piece_start : (image : Image) (f : Function) (a : ℕ) → KeepsRulesIn image f → IsCut image f a → a < end_of f → IsPieceStart image f a
cut_is_piece_start image f a keeps cut within = of_instruction (instruction_at image f a) refl
  where
    of_instruction : (o : Option (Covered × ℕ)) → instruction_at image f a ≡ o → IsPieceStart image f a
    of_instruction None e = absurd (keeps.instructions a (cut_is_position image f cut within, e))
    of_instruction (Some (i, n)) e = piece_starts image f a (piece_of a i n (instruction_at image f (a + n))) cut (rw e refl)

-- where execution goes on after a piece, another one starts
pub goes_on : (image : Image) (f : Function) (p : Piece) → KeepsRulesIn image f → (IsPiece image f p ⊎ IsPrologue image f p) → GoesOn p.kind → IsCut image f p.next → p.next ≤ end_of f → IsPieceStart image f p.next
goes_on image f p keeps which goes cut within =
    ⊎_elim
    (λ below. cut_is_piece_start image f p.next keeps cut below)
    (λ above. absurd (keeps.last_piece (last_position p) (p, which, goes, omega arith, refl)))
    (cases_lt p.next (end_of f))
