use Rattle.cet_decode.proofs.Falls.{no_opcode}
use Rattle.cet_decode.proofs.one_byte.one_byte.Goals as goal

pub returns : goal.returns
returns c =
    no_opcode c.args.rex c.args.opcode c.args.bytes.now c.if-opcode-lt64.false c.if-opcode-eq5.false c.if-opcode-eq6.false c.if-opcode-eq7.false c.if-opcode-eq8.false
    c.if-opcode-eq9.false c.if-opcode-eq10.false c.if-opcode-eq11.false c.if-opcode-eq12.false c.if-opcode-eq13.false c.if-opcode-eq14.false c.if-opcode-eq15.false
