use Rattle.std.proofs.Common.{get_or, length, ap, ◌∙◌}
use Rattle.cet_mem.proofs.Accesses.{word_bytes}
use Rattle.cet_signal.proofs.Frames.{word_put, put_length, all_put}
use Rattle.cet_signal.proofs.frame.bytes_of_words.Goals as goal

pub loop-i-preserved : goal.loop-i-preserved
loop-i-preserved c =
    let new = c.copy_from_slice.ensures.after ∙ c.to_le_bytes.ensures in (
      put_length c.loop-i.bytes c.copy_from_slice.new.self c.loop-i.i c.loop-i.invariant.0 c.loop-i-test.true (ap length new),
      word_put c.loop-i.bytes c.copy_from_slice.new.self _ c.args.words.now c.loop-i.i c.loop-i.invariant.0 c.loop-i-test.true (ap length new) c.loop-i.invariant.1 c.told-words
          (new ∙ word_bytes (get_or c.args.words.now c.loop-i.i 0)),
    )

pub returns : goal.returns
returns c = all_put c.loop-i.bytes c.args.words.now c.loop-i.i c.loop-i-test.false c.loop-i.invariant.0 c.told-words c.loop-i.invariant.1
