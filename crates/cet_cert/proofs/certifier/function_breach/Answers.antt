use Rattle.std.proofs.Common.{◌≡◌, inl, inr}
use Rattle.cet_rules.specs.Rule.{HasNoForm, BrokenIn}
use Rattle.cet_cert.specs.Breach.{PieceBreaks, PrologueBreaks, IsFirstOf}
use Rattle.cet_cert.proofs.Broken.{Outside, parts, piece_part, outside_part}
use Rattle.cet_cert.proofs.Firsts.{first_both}
use Rattle.cet_cert.proofs.certifier.function_breach.Goals as goal

pub returns : goal.returns
returns c =
    let image = c.args.image.now in
    let f = c.args.function.now in
    let outside : IsFirstOf (Outside image f) c.first_of-outside.result =
    first_both (λ rule a. (rule ≡ 6) × HasNoForm image f a) (PrologueBreaks image f) (Outside image f) c.stop_breach.result c.prologue_breach.result c.first_of-outside.result
    c.stop_breach.ensures c.prologue_breach.ensures c.first_of-outside.ensures (λ rule a six. inl six) (λ rule a prologue. inr prologue) (λ rule a either. either) in
    first_both (Outside image f) (PieceBreaks image f) (BrokenIn image f) c.first_of-outside.result c.pieces_breach.result c.first_of.result
    outside c.pieces_breach.ensures c.first_of.ensures (outside_part image f) (piece_part image f) (parts image f)
