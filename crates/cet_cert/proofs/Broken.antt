-- The rules that a function breaks are those that its stop, its prologue and its pieces break.
use Rattle.std.proofs.Common.{◌≡◌, ℕ, ◌+◌, ◌<◌, ◌≤◌, ◌⊎◌, length, Some, slice_get, refl, sym, ap, ◌∙◌, subst, inl, inr, arith}
use Rattle.std.proofs.lemmas.Bool.{cases_lt}
use Rattle.std.proofs.lemmas.Option.{slice_get-get_or, get_or_from_slice_get, slice_get_within, same_Some}
use Rattle.cet_rules.specs.declared.covered.Covered.TheVariants.{EndBr64, Nop, Jmp, MovEax, JmpRax, Ud2}
use Rattle.cet_rules.specs.declared.function.Function.{Function}
use Rattle.cet_rules.specs.declared.image.Image.{Image}
use Rattle.cet_rules.specs.declared.piece.Piece.{Piece}
use Rattle.cet_rules.specs.declared.piece.PieceKind.{PieceKind}
use Rattle.cet_rules.specs.declared.piece.PieceKind.TheVariants.{Prologue, ConstJump, Single}
use Rattle.cet_rules.specs.Image.{end_of, LiesIn}
use Rattle.cet_rules.specs.Piece.{prologue_end, piece_at, IsCut, IsPiece, IsPrologue, IsPieceStart, target, last_position_by, GoesOn}
use Rattle.cet_rules.specs.Rule.{HasNoForm, BrokenIn, Broken}
use Rattle.cet_cert.specs.Breach.{BreaksAs, Breaks, BreaksBefore, PieceBreaks, PrologueBreaks, EntryBreaks, BrokenBelow}
use Rattle.cet_cert.specs.Survey.{IsStop}
use Rattle.cet_cert.proofs.Cuts.{piece_fits, cut_above, cut_ends, gap}
use Rattle.cet_cert.proofs.Marks.{piece_from, same_piece}
use Rattle.cet_cert.proofs.Positions.{piece_before}

module _ (image : Image) (f : Function) where
  goes_off : (p : Piece) (rule a : ℕ) (k : PieceKind) → GoesOn k → rule ≡ 11 → a ≡ last_position_by p.at k → p.next ≡ end_of f → BreaksAs image f p k rule a
  goes_off p rule a Prologue goes is at next = (is, at, next)
  goes_off p rule a (ConstJump entry branch) goes is at next = absurd goes
  goes_off p rule a (Single EndBr64) goes is at next = (is, at, next)
  goes_off p rule a (Single Nop) goes is at next = (is, at, next)
  goes_off p rule a (Single (Jmp rel)) goes is at next = absurd goes
  goes_off p rule a (Single (MovEax imm)) goes is at next = (is, at, next)
  goes_off p rule a (Single JmpRax) goes is at next = absurd goes
  goes_off p rule a (Single Ud2) goes is at next = absurd goes

  -- rule 6, or what the prologue breaks
  abbrev pub Outside : ℕ → ℕ → Type 0
  Outside rule a = ((rule ≡ 6) × HasNoForm image f a) ⊎ PrologueBreaks image f rule a

  pub parts : (rule a : ℕ) → BrokenIn image f rule a → Outside rule a ⊎ PieceBreaks image f rule a
  parts rule a (inl six) = inl (inl six)
  parts rule a (inr (inl (is, (p, t, piece, (rel, kind, to), lies, no_start, at)))) =
      inr (
        p,
        piece,
        subst (λ (k : PieceKind). BreaksAs image f p k rule a) (sym kind)
            (is, at, subst (λ (x : ℕ). LiesIn x f) to lies, subst (λ (x : ℕ). ¬ IsPieceStart image f x) to no_start),
      )
  parts rule a (inr (inr (inl (is, (p, inl piece, goes, next, at))))) = inr (p, piece, goes_off p rule a p.kind goes is at next)
  parts rule a (inr (inr (inl (is, (p, inr prologue, goes, next, at))))) = inl (inr (p, prologue, goes_off p rule a p.kind goes is at next))
  parts rule a (inr (inr (inr (inl (is, (p, entry, piece, kind, no_landing)))))) =
      inr (p, piece, subst (λ (k : PieceKind). BreaksAs image f p k rule a) (sym kind) (is, refl, no_landing))
  parts rule a (inr (inr (inr (inr (is, (p, piece, kind, at)))))) =
      inr (p, piece, subst (λ (k : PieceKind). BreaksAs image f p k rule a) (sym kind) (is, at))

  runs_off : (p : Piece) (rule a : ℕ) (k : PieceKind) → IsPiece image f p ⊎ IsPrologue image f p → p.kind ≡ k → GoesOn k → a ≡ last_position_by p.at k → rule ≡ 11 → p.next ≡ end_of f → BrokenIn image f rule a
  runs_off p rule a k which kind goes at is next =
      inr (inr (inl (is, (p, which, subst (λ (x : PieceKind). GoesOn x) (sym kind) goes, next, at ∙ sym (ap (λ (x : PieceKind). last_position_by p.at x) kind)))))

  piece_as : (p : Piece) (rule a : ℕ) (k : PieceKind) → IsPiece image f p → p.kind ≡ k → BreaksAs image f p k rule a → BrokenIn image f rule a
  piece_as p rule a Prologue piece kind (is, at, next) = runs_off p rule a Prologue (inl piece) kind tt at is next
  piece_as p rule a (ConstJump entry branch) piece kind (is, at, no_landing) =
      inr (inr (inr (inl (is, (p, entry, piece, kind ∙ ap (λ (x : ℕ). ConstJump entry x) (sym at), no_landing)))))
  piece_as p rule a (Single EndBr64) piece kind (is, at, next) = runs_off p rule a (Single EndBr64) (inl piece) kind tt at is next
  piece_as p rule a (Single Nop) piece kind (is, at, next) = runs_off p rule a (Single Nop) (inl piece) kind tt at is next
  piece_as p rule a (Single (Jmp rel)) piece kind (is, at, lies, no_start) = inr (inl (is, (p, target p.next rel, piece, (rel, kind, refl), lies, no_start, at)))
  piece_as p rule a (Single (MovEax imm)) piece kind (is, at, next) = runs_off p rule a (Single (MovEax imm)) (inl piece) kind tt at is next
  piece_as p rule a (Single JmpRax) piece kind (is, at) = inr (inr (inr (inr (is, (p, piece, kind, at)))))
  piece_as p rule a (Single Ud2) piece kind breaks = absurd breaks

  pub piece_part : (rule a : ℕ) → PieceBreaks image f rule a → BrokenIn image f rule a
  piece_part rule a (p, piece, breaks) = piece_as p rule a p.kind piece refl breaks

  prologue_part : (rule a : ℕ) → PrologueBreaks image f rule a → BrokenIn image f rule a
  prologue_part rule a (p, prologue, breaks) =
      let off = subst (λ (k : PieceKind). BreaksAs image f p k rule a) prologue.kind breaks in
      runs_off p rule a Prologue (inr prologue) prologue.kind tt off.1 off.0 off.2

  pub outside_part : (rule a : ℕ) → Outside rule a → BrokenIn image f rule a
  outside_part rule a (inl six) = inl six
  outside_part rule a (inr prologue) = prologue_part rule a prologue

  -- no piece starts before the prologue's end
  pub before_none : (here rule a : ℕ) → here ≡ prologue_end image f → BreaksBefore image f here rule a → ⊥
  before_none here rule a e (p, piece, before, breaks) = omega (arith, before, e, cut_above image f piece.cut)

  -- the pieces before the end of a piece are those before its start, and itself
  pub earlier : (here : ℕ) (p : Piece) (rule a : ℕ) → piece_at image f here ≡ Some p → BreaksBefore image f here rule a → BreaksBefore image f p.next rule a
  earlier here p rule a at (q, piece, before, breaks) = (q, piece, omega (arith, before, piece_fits image f here p at), breaks)

  pub itself : (here : ℕ) (p : Piece) (rule a : ℕ) → IsCut image f here → piece_at image f here ≡ Some p → Breaks image f p rule a → BreaksBefore image f p.next rule a
  itself here p rule a cut at breaks = (p, piece_from image f here p cut at, omega (arith, piece_fits image f here p at), breaks)

  pub at_start : (here : ℕ) (p q : Piece) → IsCut image f here → piece_at image f here ≡ Some p → IsPiece image f q → q.at < p.next → here ≤ q.at → p ≡ q
  at_start here p q cut at piece before from = elim (gap image f here p (cut_ends image f cut) (cut_above image f cut) at piece.cut) [
    | inl below ↦ same_piece image f here p q at piece (omega arith)
    | inr far ↦ absurd (omega arith)
  ]

  pub split : (here : ℕ) (p : Piece) (rule a : ℕ) → IsCut image f here → piece_at image f here ≡ Some p → BreaksBefore image f p.next rule a → BreaksBefore image f here rule a ⊎ Breaks image f p rule a
  split here p rule a cut at (q, piece, before, breaks) = elim (cases_lt q.at here) [
    | inl less ↦ inl (q, piece, less, breaks)
    | inr from ↦ inr (subst (λ (r : Piece). Breaks image f r rule a) (sym (at_start here p q cut at piece before from)) breaks)
  ]

  -- in the end all pieces lie before
  pub to_pieces : (s rule a : ℕ) → BreaksBefore image f s rule a → PieceBreaks image f rule a
  to_pieces s rule a (p, piece, before, breaks) = (p, piece, breaks)

  pub from_pieces : (s rule a : ℕ) → IsStop image f s → PieceBreaks image f rule a → BreaksBefore image f s rule a
  from_pieces s rule a stop (p, piece, breaks) = (p, piece, piece_before image f s p stop piece, breaks)

module _ (image : Image) where
  pub below_none : (rule a : ℕ) → BrokenBelow image 0 rule a → EntryBreaks image rule a
  below_none rule a (inl entry) = entry
  below_none rule a (inr (f, k, below, at, broken)) = absurd (omega arith)

  pub below_more : (n : ℕ) (f : Function) (rule a : ℕ) → slice_get image.functions n ≡ Some f → BrokenBelow image (n + 1) rule a → BrokenBelow image n rule a ⊎ BrokenIn image f rule a
  below_more n f rule a at (inl entry) = inl (inl entry)
  below_more n f rule a at (inr (g, k, below, stands, broken)) = elim (cases_lt k n) [
    | inl less ↦ inl (inr (g, k, less, stands, broken))
    | inr from ↦ (
        let here : k ≡ n = omega arith in
        let same : g ≡ f = same_Some g f (sym stands ∙ (ap (λ (m : ℕ). slice_get image.functions m) here ∙ at)) in
        inr (subst (λ (h : Function). BrokenIn image h rule a) same broken))
  ]

  pub below_earlier : (n rule a : ℕ) → BrokenBelow image n rule a → BrokenBelow image (n + 1) rule a
  below_earlier n rule a (inl entry) = inl entry
  below_earlier n rule a (inr (g, k, below, stands, broken)) = inr (g, k, omega arith, stands, broken)

  pub below_itself : (n : ℕ) (f : Function) (rule a : ℕ) → slice_get image.functions n ≡ Some f → BrokenIn image f rule a → BrokenBelow image (n + 1) rule a
  below_itself n f rule a at broken = inr (f, n, omega arith, at, broken)

  pub to_broken : (n rule a : ℕ) → BrokenBelow image n rule a → Broken image rule a
  to_broken n rule a (inl entry) = inl entry
  to_broken n rule a (inr (f, k, below, stands, broken)) =
      inr (f, (k, slice_get_within image.functions k f stands, get_or_from_slice_get image.functions k f f stands), broken)

  pub from_broken : (n rule a : ℕ) → length image.functions ≤ n → Broken image rule a → BrokenBelow image n rule a
  from_broken n rule a all (inl entry) = inl entry
  from_broken n rule a all (inr (f, (k, within, is), broken)) =
      inr (f, k, omega (arith, within, all), slice_get-get_or image.functions k f within ∙ ap (λ (g : Function). Some g) is, broken)
