use Rattle.cet_elf.proofs.NameLemmas.{has_name-last, has_name-none}
use Rattle.cet_elf.proofs.names.names_end.Goals as goal

pub returns-in-Some : goal.returns-in-Some
returns-in-Some c at = has_name-last c.args.table.now c.in-Some.last at c.in-Some.ensures

pub returns-in-None : goal.returns-in-None
returns-in-None c at = has_name-none c.args.table.now at c.in-None.ensures
