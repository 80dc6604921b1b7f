use Rattle.cet_link.proofs.UniqueLemmas.{one_executable, one_fault, not_both}
use Rattle.cet_link.proofs.law.one_answer.Goals as goal

pub returns : goal.returns
returns c = record { executable = one_executable; fault = one_fault; not_both = not_both }
