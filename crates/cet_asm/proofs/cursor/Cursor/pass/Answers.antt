use Rattle.std.proofs.Common.{sym}
use Rattle.cet_asm.proofs.Cursors.{state_of-grown}
use Rattle.cet_asm.proofs.cursor.Cursor.pass.Goals as goal

pub returns-then-takes_bytes : goal.returns-then-takes_bytes
returns-then-takes_bytes c = rw c.with-self.ensures (state_of-grown c.args.self.now c.args.statement.now c.args.end (sym c.if-takes_bytes.ensures) c.requires)
