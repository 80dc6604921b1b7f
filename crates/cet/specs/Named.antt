-- The command that the program's own value stands for.
use Rattle.cet_verbs.specs.Command.{Command, CheckRaw, Asm, Dis, Notes}
use Rattle.cet_verbs.specs.Named.{names_of, run_of, link_of}
use Rattle.cet.specs.declared.command.Command.{Command as Value}
use Rattle.cet.specs.declared.command.Command.TheVariants as value

abbrev pub named : Value → Command
named (value.CheckRaw file) = CheckRaw file.now
named (value.Asm out file) = Asm out.now file.now
named (value.Dis file) = Dis file.now
named (value.Notes files) = Notes (names_of files.items)
named (value.Run request) = run_of request
named (value.Link request) = link_of request
