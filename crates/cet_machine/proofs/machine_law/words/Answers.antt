use Rattle.cet_machine.proofs.TransferWords.{step_keeps_words, syscall_keeps_words}
use Rattle.cet_machine.proofs.machine_law.words.Goals as goal

pub returns : goal.returns
returns c = record { next = step_keeps_words; syscall = syscall_keeps_words }
