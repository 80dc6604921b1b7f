use Rattle.std.proofs.Common.{subst, ◌∷◌, [], ◌∙◌, codes}
use Rattle.cet_elf.specs.Layout.{Adds}
use Rattle.cet_elf.specs.Written.{string_part}
use Rattle.cet_elf.proofs.Layouts.{Adds-then}
use Rattle.cet_elf.proofs.parts.add_symbols.Goals as goal

pub returns-clause-parts : goal.returns-clause-parts
returns-clause-parts c =
    Adds-then _ _ _ _ _ c.in_ok-add_symbol_table.ensures
    (subst (λ t. Adds c.add_symbol_table.new.layout c.add_strings.new.layout (string_part (codes ".strtab") t ∷ [])) (c.deref-2.ensures.value ∙ c.in_ok-table.ensures.names) c.in_ok-add_strings.ensures)
