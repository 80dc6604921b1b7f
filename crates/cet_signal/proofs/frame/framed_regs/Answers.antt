use Rattle.std.proofs.Common.{ℕ, sym, ap, ◌∙◌, arith}
use Rattle.cet_machine.specs.Arithmetic.{flags_of_word}
use Rattle.std.specs.Prelude.{not, ◌&&◌, ◌==◌}
use Rattle.cet_machine.specs.Signal.{words_of_bytes}
use Rattle.cet_signal.proofs.Frames.{word_is, registers_are, framed_is}
use Rattle.cet_signal.proofs.frame.framed_regs.Goals as goal

pub returns : goal.returns
returns c =
    let bytes = c.args.bytes.now in
    framed_is c.args.mode c.args.ssp (words_of_bytes 26 c.args.bytes.now) c.loop-i.r c.word_of-2.result c.flags_of_word.result c.tracker_of.result c.word_of-5.result
    (registers_are bytes c.loop-i.r c.loop-i.invariant.0 (λ k small. c.loop-i.invariant.1 k (omega (arith, small, c.loop-i-test.false))))
    (c.word_of-2.ensures ∙ sym (word_is 26 17 bytes (omega arith)))
    (c.flags_of_word.ensures ∙ ap flags_of_word (c.word_of-3.ensures ∙ sym (word_is 26 18 bytes (omega arith))))
    (c.tracker_of.ensures ∙ ap (λ (n : ℕ). c.args.mode.ibt && not (n == 0)) (c.word_of-4.ensures ∙ sym (word_is 26 19 bytes (omega arith))))
    (c.word_of-5.ensures ∙ sym (word_is 26 21 bytes (omega arith)))
