use Rattle.std.proofs.Common.{refl, sym}
use Rattle.cet_rules.specs.Piece.{first, after}
use Rattle.cet_cert.proofs.Marks.{marks_none, marks_more}
use Rattle.cet_cert.proofs.survey.mark_pieces.Goals as goal

pub loop-piece-init : goal.loop-piece-init
loop-piece-init c = record {
  cut = first c.prologue_end-at.ensures.value;
  marks =
      marks_none c.args.image.now c.args.function.now c.prologue_end-at.result c.new-marks.result.items c.resize.new.self.items c.new-marks.result.len c.prologue_end-at.ensures.value
      c.new-marks.ensures.items c.new-marks.ensures.len (c.in_ok-resize.ensures {u = tt}).items;
}

pub loop-piece-preserved : goal.loop-piece-preserved
loop-piece-preserved c = record {
  cut = after c.loop-piece.invariant.cut (sym c.in-Some.ensures.value) refl;
  marks =
      marks_more c.args.image.now c.args.function.now c.loop-piece.at c.in-Some.piece c.mark_of.result c.loop-piece.marks.items c.push.new.self.items c.resize-in-Some.new.self.items _ c.push.new.self.len
      c.loop-piece.invariant.marks c.loop-piece.invariant.cut (sym c.in-Some.ensures.value) c.mark_of.ensures refl (c.in_ok-push.ensures {u = tt}).items c.push.new.self.ok.0 (c.in_ok-resize-2.ensures {u = tt}).items;
}
