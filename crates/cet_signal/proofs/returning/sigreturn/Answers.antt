use Rattle.cet_signal.proofs.Returns.{unmarked, no_ssp, returned}
use Rattle.cet_signal.proofs.returning.sigreturn.Goals as goal

pub returns-then-word_of-ne-FRAME_MARK-clause-does : goal.returns-then-word_of-ne-FRAME_MARK-clause-does
returns-then-word_of-ne-FRAME_MARK-clause-does c =
    unmarked c.args.mode c.args.mem.now c.args.regs.now c.value-a.result c.word_of.result c.in-Some.bytes.now c.value-a.ensures c.in-Some.ensures.bytes c.word_of.ensures c.if-word_of-ne-FRAME_MARK.true

pub returns-in-Err-clause-does : goal.returns-in-Err-clause-does
returns-in-Err-clause-does c =
    no_ssp c.args.mode c.args.mem.now c.args.regs.now c.value-a.result c.word_of.result c.in-Some.bytes.now c.in-Err.fault c.value-a.ensures c.in-Some.ensures.bytes c.word_of.ensures
    c.if-word_of-ne-FRAME_MARK.false c.in-Err.ensures.value

pub returns-in-Ok-clause-does : goal.returns-in-Ok-clause-does
returns-in-Ok-clause-does c =
    returned c.args.mode c.args.mem.now c.args.regs.now c.value-a.result c.word_of.result c.in-Some.bytes.now c.in-Ok.ssp c.framed_regs.result c.value-a.ensures c.in-Some.ensures.bytes c.word_of.ensures
    c.if-word_of-ne-FRAME_MARK.false c.in-Ok.ensures.value c.framed_regs.ensures
