use Rattle.std.proofs.Common.{rules}
use Rattle.cet_signal.proofs.Frames.{frame_is}
use Rattle.cet_signal.proofs.frame.frame.Goals as goal

pub returns : goal.returns
returns c = frame_is c.args.action.now c.args.signo c.args.regs.now c.flags_word.result c.from.result c.from-2.result (search rules) c.flags_word.ensures c.from.ensures c.from-2.ensures
