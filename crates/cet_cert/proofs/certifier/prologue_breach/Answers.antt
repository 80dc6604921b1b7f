use Rattle.std.proofs.Common.{◌≡◌, ◌<◌, refl, sym, ◌∙◌, subst, arith}
use Rattle.cet_rules.specs.declared.piece.Piece.{Piece}
use Rattle.cet_rules.specs.declared.piece.PieceKind.TheVariants.{Prologue}
use Rattle.cet_rules.specs.Piece.{IsPrologue}
use Rattle.cet_cert.specs.Breach.{Breaks, PrologueBreaks}
use Rattle.cet_cert.proofs.Firsts.{first_same}
use Rattle.cet_cert.proofs.certifier.prologue_breach.Goals as goal

pub returns-then-at-next : goal.returns-then-at-next
returns-then-at-next c rule a (p, prologue, breaks) =
    omega (arith, prologue.not_empty, prologue.at, prologue.next, c.if-at-next.true, c.prologue_end-next.ensures.value)

pub returns : goal.returns
returns c =
    let image = c.args.image.now in
    let f = c.args.function.now in
    let value = c.prologue_end-next.ensures.value in
    let p : Piece = record { at = f.start; next = c.prologue_end-next.result; kind = Prologue } in
    let some : f.start < c.prologue_end-next.result = omega (arith, c.if-at-next.false, c.prologue_end-next.ensures.within) in
    let is : IsPrologue image f p = record { kind = refl; at = refl; next = value; not_empty = some } in
    first_same (Breaks image f p) (PrologueBreaks image f) c.piece_breach.result c.piece_breach.ensures
    (λ rule a breaks. (p, is, breaks))
    (λ rule a (q, prologue, breaks).
    let next : q.next ≡ c.prologue_end-next.result = prologue.next ∙ sym value in
    let same : q ≡ p = λ i. record { at = prologue.at i; next = next i; kind = prologue.kind i } in
    subst (λ (r : Piece). Breaks image f r rule a) same breaks)
