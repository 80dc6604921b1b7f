use Rattle.std.proofs.Common.{refl, sym}
use Rattle.cet_rules.specs.Piece.{first, after}
use Rattle.cet_cert.specs.Survey.{IsStop}
use Rattle.cet_cert.specs.Breach.{Breaks, BreaksBefore, PieceBreaks}
use Rattle.cet_cert.proofs.Broken.{before_none, earlier, itself, split, to_pieces, from_pieces}
use Rattle.cet_cert.proofs.Firsts.{first_both, first_same}
use Rattle.cet_cert.proofs.certifier.pieces_breach.Goals as goal

pub loop-piece-init : goal.loop-piece-init
loop-piece-init c =
    let value = c.prologue_end-at.ensures.value in
    record { cut = first value; first = λ rule a breaks. before_none c.args.image.now c.args.function.now c.prologue_end-at.result rule a value breaks }

pub loop-piece-preserved : goal.loop-piece-preserved
loop-piece-preserved c =
    let image = c.args.image.now in
    let f = c.args.function.now in
    let here = c.loop-piece.at in
    let p = c.in-Some.piece in
    let cut = c.loop-piece.invariant.cut in
    let at = sym (c.in-Some.ensures {u = tt}).value in
    record {
      cut = after cut at refl;
      first =
          first_both (BreaksBefore image f here) (Breaks image f p) (BreaksBefore image f p.next) c.loop-piece.first c.piece_breach.result c.first_of-first.result
          c.loop-piece.invariant.first c.piece_breach.ensures c.first_of-first.ensures
          (λ rule a. earlier image f here p rule a at) (λ rule a. itself image f here p rule a cut at) (λ rule a. split image f here p rule a cut at);
    }

pub returns : goal.returns
returns c =
    let image = c.args.image.now in
    let f = c.args.function.now in
    let stop : IsStop c.args.image.now c.args.function.now c.loop-piece.at = record { cut = c.loop-piece.invariant.cut; last = sym (c.in_default.ensures {u = tt}).value } in
    first_same (BreaksBefore image f c.loop-piece.at) (PieceBreaks image f) c.loop-piece.first c.loop-piece.invariant.first
    (to_pieces image f c.loop-piece.at) (λ rule a. from_pieces image f c.loop-piece.at rule a stop)
