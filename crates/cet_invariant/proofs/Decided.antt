-- Whether a piece of the function starts at an address can be decided, by walking over its pieces.
use Rattle.std.proofs.Common.{◌≡◌, ℕ, zero, suc, ◌+◌, ◌<◌, ◌≤◌, ⊎_elim, Some, None, Option, refl, sym, ap, ◌∙◌, subst, arith}
use Rattle.std.proofs.lemmas.Bool.{cases_order}
use Rattle.cet_rules.specs.declared.covered.Covered.TheVariants.{EndBr64}
use Rattle.cet_rules.specs.declared.function.Function.{Function}
use Rattle.cet_rules.specs.declared.image.Image.{Image}
use Rattle.cet_rules.specs.declared.piece.Piece.{Piece}
use Rattle.cet_rules.specs.declared.piece.PieceKind.{PieceKind}
use Rattle.cet_rules.specs.declared.piece.PieceKind.TheVariants.{Single}
use Rattle.cet_rules.specs.Piece.{IsCut, IsPiece, IsPieceStart, prologue_end, piece_at}
use Rattle.cet_rules.specs.Rule.{IsLanding}
use Rattle.cet_invariant.proofs.Cuts.{piece_ascends, piece_starts}

-- the walk over the pieces from a comes to b
data Comes (image : Image) (f : Function) : ℕ → ℕ → Type 0 where
  here : {a b : ℕ} → a ≡ b → Comes image f a b
  over : {a b : ℕ} {p : Piece} → piece_at image f a ≡ Some p → Comes image f p.next b → Comes image f a b

comes_upward : (image : Image) (f : Function) {a b : ℕ} → Comes image f a b → a ≤ b
comes_upward image f (here e) = omega arith
comes_upward image f (over {a = a} {p = p} stands rest) = omega (arith, piece_ascends image f a p stands, comes_upward image f rest)

comes_on : (image : Image) (f : Function) {a b c : ℕ} {p : Piece} → Comes image f a b → piece_at image f b ≡ Some p → c ≡ p.next → Comes image f a c
comes_on image f {p = p} (here e) stands next = over {p = p} (rw e stands) (here (sym next))
comes_on image f (over first rest) stands next = over first (comes_on image f rest stands next)

cut_from_comes : (image : Image) (f : Function) {a b : ℕ} → IsCut image f a → Comes image f a b → IsCut image f b
cut_from_comes image f cut (here e) = subst (IsCut image f) e cut
cut_from_comes image f cut (over stands rest) = cut_from_comes image f (IsCut.after cut stands refl) rest

comes_from_cut : (image : Image) (f : Function) {a : ℕ} → IsCut image f a → Comes image f (prologue_end image f) a
comes_from_cut image f (IsCut.first e) = here (sym e)
comes_from_cut image f (IsCut.after cut stands next) = comes_on image f (comes_from_cut image f cut) stands next

-- a walk to an address above takes a step
steps : (image : Image) (f : Function) {a b : ℕ} → Comes image f a b → a < b → (p : Piece) × (piece_at image f a ≡ Some p) × Comes image f p.next b
steps image f (here e) below = absurd (omega arith)
steps image f (over {p = p} stands rest) below = (p, stands, rest)

same_piece : (p q : Piece) → Some p ≡ Some q → p ≡ q
same_piece p q e = cc

dec_over : (image : Image) (f : Function) (a b : ℕ) (p : Piece) → a < b → piece_at image f a ≡ Some p → Dec (Comes image f p.next b) → Dec (Comes image f a b)
dec_over image f a b p below e (yes walk) = yes (over e walk)
dec_over image f a b p below e (no never) = no (λ walk.
    let s = steps image f walk below in
    never (subst (λ (q : Piece). Comes image f q.next b) (same_piece s.0 p (sym s.1 ∙ e)) s.2))

dec_from : (image : Image) (f : Function) (a b : ℕ) (o : Option Piece) → a < b → piece_at image f a ≡ o → ((p : Piece) → piece_at image f a ≡ Some p → Dec (Comes image f p.next b)) → Dec (Comes image f a b)
dec_from image f a b None below e walk_on = no (λ walk. let s = steps image f walk below in absurd (cc (s.1)))
dec_from image f a b (Some p) below e walk_on = dec_over image f a b p below e (walk_on p e)

dec_comes : (image : Image) (f : Function) (fuel a b : ℕ) → b < a + fuel → Dec (Comes image f a b)
dec_comes image f zero a b h = no (λ walk. absurd (omega (arith, comes_upward image f walk)))
dec_comes image f (suc fuel) a b h =
    ⊎_elim (λ same. yes (here same))
    (⊎_elim (λ below. dec_from image f a b (piece_at image f a) below refl (λ p e. dec_comes image f fuel p.next b (omega (arith, piece_ascends image f a p e))))
    (λ above. no (λ walk. absurd (omega (arith, comes_upward image f walk)))))
    (cases_order a b)

dec_cut : (image : Image) (f : Function) (b : ℕ) → Dec (IsCut image f b)
dec_cut image f b = of_walk (dec_comes image f (b + 1) (prologue_end image f) b (omega arith))
  where
    of_walk : Dec (Comes image f (prologue_end image f) b) → Dec (IsCut image f b)
    of_walk (yes walk) = yes (cut_from_comes image f (IsCut.first refl) walk)
    of_walk (no never) = no (λ cut. never (comes_from_cut image f cut))

-- a piece that starts at b stands there
pub stands_at : (image : Image) (f : Function) (b : ℕ) (p : Piece) → IsPiece image f p → p.at ≡ b → piece_at image f b ≡ Some p
stands_at image f b p piece at = subst (λ (a : ℕ). piece_at image f a ≡ Some p) at piece.stands

pub dec_piece_start : (image : Image) (f : Function) (b : ℕ) → Dec (IsPieceStart image f b)
dec_piece_start image f b = of_cut (dec_cut image f b)
  where
    of_piece : IsCut image f b → (o : Option Piece) → piece_at image f b ≡ o → Dec (IsPieceStart image f b)
    of_piece cut None e = no (λ start. absurd (cc (stands_at image f b start.0 start.1 start.2)))
    of_piece cut (Some p) e = yes (piece_starts image f b p cut e)

    of_cut : Dec (IsCut image f b) → Dec (IsPieceStart image f b)
    of_cut (yes cut) = of_piece cut (piece_at image f b) refl
    of_cut (no never) = no (λ start. never (subst (IsCut image f) start.2 start.1.cut))

dec_endbr64 : (kind : PieceKind) → Dec (kind ≡ Single EndBr64)
dec_endbr64 (Single EndBr64) = yes refl
dec_endbr64 kind = no (λ e. absurd cc)

pub dec_landing : (image : Image) (f : Function) (t : ℕ) → Dec (IsLanding image f t)
dec_landing image f t = of_start (dec_piece_start image f t)
  where
    of_kind : (start : IsPieceStart image f t) → Dec (start.0.kind ≡ Single EndBr64) → Dec (IsLanding image f t)
    of_kind start (yes is) = yes (start.0, start.1, is, start.2)
    of_kind start (no other) = no (λ landing. other (ap (λ (p : Piece). p.kind) (same_piece start.0 landing.0 (sym (stands_at image f t start.0 start.1 start.2) ∙ stands_at image f t landing.0 landing.1 landing.3)) ∙ landing.2))

    of_start : Dec (IsPieceStart image f t) → Dec (IsLanding image f t)
    of_start (yes start) = of_kind start (dec_endbr64 start.0.kind)
    of_start (no never) = no (λ landing. never (landing.0, landing.1, landing.3))
