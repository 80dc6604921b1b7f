use Rattle.std.proofs.Common.{refl, sym, subst, inl, inr, arith}
use Rattle.std.proofs.lemmas.Bool.{cases_lt, false≢true}
use Rattle.cet_rules.specs.declared.piece.Piece.{Piece}
use Rattle.cet_rules.specs.Piece.{first, after}
use Rattle.cet_cert.specs.Survey.{IsStop}
use Rattle.cet_cert.specs.Breach.{JumpsOut}
use Rattle.cet_cert.proofs.Broken.{at_start}
use Rattle.cet_cert.proofs.Cuts.{cut_above}
use Rattle.cet_cert.proofs.Positions.{piece_before}
use Rattle.cet_cert.proofs.certifier.leaves.Goals as goal

pub loop-piece-init : goal.loop-piece-init
loop-piece-init c = record {
  cut = first c.prologue_end-at.ensures.value;
  none = λ p piece before out. omega (arith, before, c.prologue_end-at.ensures.value, cut_above c.args.image.now c.args.function.now piece.cut);
}

pub loop-piece-preserved : goal.loop-piece-preserved
loop-piece-preserved c =
    let image = c.args.image.now in
    let f = c.args.function.now in
    let cut = c.loop-piece.invariant.cut in
    let at = sym (c.in-Some.ensures {u = tt}).value in
    record {
      cut = after cut at refl;
      none = λ q piece before out. elim (cases_lt q.at c.loop-piece.at) [
        | inl less ↦ c.loop-piece.invariant.none q piece less out
        | inr from ↦ (
            let same = at_start image f c.loop-piece.at c.in-Some.piece q cut at piece before from in
            false≢true ((c.if-jumps_out.ensures {u = tt}).1 (subst (λ (r : Piece). JumpsOut f r) (sym same) out)))
      ];
    }

pub returns : goal.returns
returns c = (
  λ passes. absurd (false≢true passes),
  λ (p, t, piece, jumps, outside).
      let stop : IsStop c.args.image.now c.args.function.now c.loop-piece.at = record { cut = c.loop-piece.invariant.cut; last = sym (c.in_default.ensures {u = tt}).value } in
      absurd (c.loop-piece.invariant.none p piece (piece_before c.args.image.now c.args.function.now c.loop-piece.at p stop piece) (t, jumps, outside)),
)
