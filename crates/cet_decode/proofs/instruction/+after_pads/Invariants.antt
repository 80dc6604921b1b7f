use Rattle.cet_decode.proofs.instruction.+after_pads.Given as goal

abbrev pub decreases-after_pads : goal.decreases-after_pads
decreases-after_pads l = l.left
