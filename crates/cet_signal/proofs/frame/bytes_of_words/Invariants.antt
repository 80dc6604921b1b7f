use Rattle.std.proofs.Common.{◌≡◌, ◌*◌, take, length}
use Rattle.cet_machine.specs.Signal.{bytes_of_words}
use Rattle.cet_signal.proofs.frame.bytes_of_words.Given as goal

abbrev pub invariant-loop-i : goal.invariant-loop-i
invariant-loop-i l = (length l.bytes ≡ 208) × (take (8 * l.i) l.bytes ≡ bytes_of_words (take l.i l.fn.words))
