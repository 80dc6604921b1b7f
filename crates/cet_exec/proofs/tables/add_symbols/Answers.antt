use Rattle.std.proofs.Common.{◌∷◌, [], codes, subst, ◌∙◌}
use Rattle.cet_elf.specs.Written.{symbol_part, symbol_names, string_part}
use Rattle.cet_exec.specs.Written.{file_symbols, symtab_number}
use Rattle.cet_exec.specs.Layout.{AddsPart}
use Rattle.cet_exec.proofs.Layouts.{AddsParts-one, AddsParts-more}
use Rattle.cet_exec.proofs.tables.add_symbols.Goals as goal

pub returns-clause-adds : goal.returns-clause-adds
returns-clause-adds c =
    let e = c.args.exec.now in
    let old = c.args.layout.now in
    let one = c.add_symbol_table.new.layout in
    let two = c.add_strings.new.layout in
    let symbols = symbol_part (symtab_number e) (file_symbols e) in
    let first : AddsPart old one symbols = subst (λ n. AddsPart old one (symbol_part n (file_symbols e))) c.requires.number c.in_ok-add_symbol_table.ensures in
    let second : AddsPart one two (string_part (codes ".strtab") (symbol_names (file_symbols e))) =
    subst (λ t. AddsPart one two (string_part (codes ".strtab") t)) (c.deref-2.ensures.value ∙ c.in_ok-table.ensures.names) c.in_ok-add_strings.ensures in
    AddsParts-more old one two (symbols ∷ []) (string_part (codes ".strtab") (symbol_names (file_symbols e))) (AddsParts-one old one symbols first) second
