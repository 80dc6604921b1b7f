use Rattle.std.proofs.Common.{ap, arith}
use Rattle.cet_elf.specs.declared.entries.SectionHeader.{SectionHeader}
use Rattle.cet_elf.proofs.SymbolLemmas.{symbol_table-inside}
use Rattle.cet_exec.proofs.symbols.entry_place.Goals as goal

pub overflow_mul-result : goal.overflow_mul-result
overflow_mul-result c =
    let inside = symbol_table-inside c.args.bytes.now c.args.table c.args.k c.requires.sections c.requires.table c.requires.there in
    omega arith

pub overflow_add-result : goal.overflow_add-result
overflow_add-result c =
    let inside = symbol_table-inside c.args.bytes.now c.args.table c.args.k c.requires.sections c.requires.table c.requires.there in
    omega (arith, ap (λ (s : SectionHeader). s.offset) c.section.ensures)

pub returns-clause-inside : goal.returns-clause-inside
returns-clause-inside c =
    let inside = symbol_table-inside c.args.bytes.now c.args.table c.args.k c.requires.sections c.requires.table c.requires.there in
    omega (arith, ap (λ (s : SectionHeader). s.offset) c.section.ensures)
