use Rattle.cet_elf.proofs.NameLemmas.{rest-is, name-found, name-all}
use Rattle.cet_elf.proofs.names.name.Goals as goal

pub returns-in-Some : goal.returns-in-Some
returns-in-Some c =
    name-found c.args.table.now _ c.args.at c.in-Some.end (rest-is c.args.table.now c.min-start.result c.args.at c.min-start.ensures) c.in-Some.ensures

pub returns-in-None : goal.returns-in-None
returns-in-None c =
    name-all c.args.table.now _ c.args.at (rest-is c.args.table.now c.min-start.result c.args.at c.min-start.ensures) c.in-None.ensures
