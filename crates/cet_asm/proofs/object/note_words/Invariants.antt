use Rattle.std.proofs.Common.{◌≡◌, drop}
use Rattle.cet_asm.specs.Assembled.{note_words}
use Rattle.cet_asm.proofs.object.note_words.Given as goal

abbrev pub invariant-loop-p : goal.invariant-loop-p
invariant-loop-p l = note_words l.placed ≡ note_words (drop l.p-index l.placed)
