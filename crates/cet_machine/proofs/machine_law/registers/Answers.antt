use Rattle.cet_machine.proofs.Registers.{written_is_read, others_stay, count_stays}
use Rattle.cet_machine.proofs.machine_law.registers.Goals as goal

pub returns : goal.returns
returns c = record { written = written_is_read; others = others_stay; count = count_stays }
