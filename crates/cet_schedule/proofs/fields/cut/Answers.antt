use Rattle.std.proofs.Common.{arith}
use Rattle.cet_schedule.proofs.Parts.{parts_cut, parts_none}
use Rattle.cet_schedule.proofs.fields.cut.Goals as goal

pub returns-then-other-byte-clause-parts : goal.returns-then-other-byte-clause-parts
returns-then-other-byte-clause-parts c = parts_cut c.args.byte c.args.bytes.now c.loop-i.i c.loop-i-test.true c.loop-i.invariant c.if-other-byte.true

pub returns-clause-parts : goal.returns-clause-parts
returns-clause-parts c = parts_none c.args.byte c.args.bytes.now c.loop-i.i (omega arith) c.loop-i.invariant
