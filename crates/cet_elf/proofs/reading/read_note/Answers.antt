use Rattle.std.proofs.Common.{sym, ◌∙◌}
use Rattle.cet_elf.specs.Header.{section_count}
use Rattle.cet_elf.specs.ObjectSections.{is_note}
use Rattle.cet_elf.proofs.SymbolLemmas.{first_below-found}
use Rattle.cet_elf.proofs.reading.read_note.Goals as goal

pub stored-requires-clause-there : goal.stored-requires-clause-there
stored-requires-clause-there c =
    (first_below-found (section_count c.args.bytes.now) (is_note c.args.bytes.now) c.in-Some.index (sym c.requires.note ∙ c.in-Some.is)).0
